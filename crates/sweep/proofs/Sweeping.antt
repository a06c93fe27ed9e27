-- Sweeps on their way: those that are left, from here, are the rest of all. Assumes nothing.
use Prim.Native.Nat.{ℕ, suc, ◌+◌, ◌-◌, ◌<◌, ◌≤◌}
use native.Mathlib.Omega.{arith}
use mathlib.Core.Path.{◌≡◌, refl, sym, ap, ◌∙◌}
use mathlib.Core.Logic.{◌≢◌}
use mathlib.Core.Bool.{Bool, cond}
use mathlib.Core.List.{List}
use lib.ListN.{length}
use borrow.Author.Tests.{eq-eqb, ne_eqb}
use Rattle.reach.specs.Mark.{traced_mark}
use Rattle.reach.specs.Tracer.{Tracer}
use Rattle.reach.specs.Sweep.{sweep_once, sweep_taken, sweep_marks, sweep_count, swept_marks, swept_steps, traced_in}
use Rattle.reach.proofs.SweepTaken.{taken_done, none_taken}
use Rattle.reach.specs.Sweep as spec
use Rattle.reach.proofs.Count.{count_under}

-- so many sweeps were made, and so many positions taken
pub record Sweeping (G : Tracer) (m₀ m : List ℕ) (sweeps steps : ℕ) : Type 0 where
  pub bounded : sweeps ≤ suc G.size
  pub long : length m ≡ length m₀
  pub counted : steps ≡ traced_in G m
  pub marks_left : sweep_marks G (suc G.size - sweeps) m ≡ swept_marks G m₀
  pub count_left : sweeps + sweep_count G (suc G.size - sweeps) m ≡ spec.sweeps G m₀

-- where they end
pub record Ended (G : Tracer) (m₀ m : List ℕ) (sweeps steps : ℕ) : Type 0 where
  pub sweeps_are : sweeps ≡ spec.sweeps G m₀
  pub steps_are : steps ≡ swept_steps G m₀
  pub marks_are : m ≡ swept_marks G m₀

module _ (G : Tracer) where
  pub sweeping_start : (m : List ℕ) → traced_in G m ≡ 0 → Sweeping G m m 0 0
  unfolding swept_marks spec.sweeps
  sweeping_start m e =
      let z : suc G.size - 0 ≡ suc G.size = omega arith in
      record {
        bounded = omega arith;
        long = refl;
        counted = sym e;
        marks_left = ap (λ (k : ℕ). sweep_marks G k m) z;
        count_left = let f = ap (λ (k : ℕ). sweep_count G k m) z in omega (arith, f);
      }

  module _ (m₀ m : List ℕ) (sweeps steps : ℕ) (S : Sweeping G m₀ m sweeps steps) where
    ended : (n : ℕ) (m' : List ℕ) → m' ≡ m → m ≡ swept_marks G m₀ → n ≡ spec.sweeps G m₀ → Ended G m₀ m' n steps
    unfolding swept_steps
    ended n m' e f c = record { sweeps_are = c; steps_are = S.counted ∙ ap (traced_in G) f; marks_are = e ∙ f }

    -- as many as may be
    pub all_swept : G.size < sweeps → Ended G m₀ m sweeps steps
    unfolding sweep_marks sweep_count
    all_swept h =
        let z : 0 ≡ suc G.size - sweeps = omega (arith, S.bounded) in
        let t : sweeps + sweep_count G 0 m ≡ spec.sweeps G m₀ = ap (λ (k : ℕ). sweeps + sweep_count G k m) z ∙ S.count_left in
        ended sweeps m refl (ap (λ (k : ℕ). sweep_marks G k m) z ∙ S.marks_left) (omega (arith, t))

    module _ (room : sweeps ≤ G.size) (taken : ℕ) (m' : List ℕ) (C : (taken ≡ sweep_taken G m) × (m' ≡ sweep_once G m)) where
      abbrev left : ℕ
      left = suc G.size - (sweeps + 1)

      one_left : suc left ≡ suc G.size - sweeps
      one_left = omega (arith, room)

      marks_now : sweep_marks G (suc left) m ≡ swept_marks G m₀
      marks_now = ap (λ (k : ℕ). sweep_marks G k m) one_left ∙ S.marks_left

      count_now : sweeps + sweep_count G (suc left) m ≡ spec.sweeps G m₀
      count_now = ap (λ (k : ℕ). sweeps + sweep_count G k m) one_left ∙ S.count_left

      -- the last sweep takes none
      pub last_swept : taken ≡ 0 → Ended G m₀ m' (sweeps + 1) steps
      unfolding sweep_marks sweep_count
      last_swept e =
          let z : sweep_taken G m ≡ 0 = sym C.0 ∙ e in
          let b = eq-eqb (sweep_taken G m) 0 z in
          let f : m ≡ swept_marks G m₀ = ap (λ (x : Bool). cond x m (sweep_marks G left (sweep_once G m))) (sym b) ∙ marks_now in
          let g : sweeps + 1 ≡ spec.sweeps G m₀ = ap (λ (x : Bool). sweeps + suc (cond x 0 (sweep_count G left (sweep_once G m)))) (sym b) ∙ count_now in
          ended (sweeps + 1) m' (C.1 ∙ none_taken G m z) f g

      module _ (fits : G.size ≤ length m₀) where
        steps_now : steps + taken ≡ traced_in G m'
        steps_now = omega (arith, S.counted, C.0, taken_done G m (omega (arith, S.long)), ap (traced_in G) C.1)

        pub few_steps : steps + taken ≤ G.size
        few_steps = omega (arith, steps_now, count_under traced_mark G.size m')

        pub sweeping_next : taken ≢ 0 → length m' ≡ length m → Sweeping G m₀ m' (sweeps + 1) (steps + taken)
        unfolding sweep_marks sweep_count
        sweeping_next h l =
            let b = ne_eqb (sweep_taken G m) 0 (λ e. h (C.0 ∙ e)) in
            let f : sweep_marks G left (sweep_once G m) ≡ swept_marks G m₀ = ap (λ (x : Bool). cond x m (sweep_marks G left (sweep_once G m))) (sym b) ∙ marks_now in
            let g : sweeps + suc (sweep_count G left (sweep_once G m)) ≡ spec.sweeps G m₀ =
            ap (λ (x : Bool). sweeps + suc (cond x 0 (sweep_count G left (sweep_once G m)))) (sym b) ∙ count_now in
            record {
              bounded = omega (arith, room);
              long = l ∙ S.long;
              counted = steps_now;
              marks_left = ap (sweep_marks G left) C.1 ∙ f;
              count_left = omega (arith, ap (sweep_count G left) C.1, g);
            }
