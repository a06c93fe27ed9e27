-- A sweep on its way: what is left of it, from here, is the rest of the whole, and all that it could take up is covered. Assumes nothing.
use Prim.Native.Nat.{ℕ, zero, suc, ◌+◌, ◌-◌, ◌<◌, ◌≤◌}
use native.Mathlib.Omega.{arith}
use mathlib.Core.Path.{◌≡◌, refl, sym, ap, ap₂, ◌∙◌}
use mathlib.Core.Logic.{◌⊎◌, inl, inr}
use mathlib.Core.Bool.{Bool, true, false, cond}
use mathlib.Core.List.{List}
use lib.ListN.{length}
use Rattle.reach.specs.Tracer.{Tracer, took}
use Rattle.reach.specs.Sweep.{can_take, swept_at, sweep_from, sweep_taken_from, sweep_once, sweep_taken}
use Rattle.reach.proofs.Cases.{lt_or_le, yes_or_no}
use Rattle.reach.proofs.SweepTaken.{length_swept}
use Rattle.sweep.specs.Way.{Covers, Bounded, Between, MetOn, SweptOver}
use Rattle.sweep.specs.declared.way.Way.{Way}

-- p is to be met next
pub record Passing (G : Tracer) (m₀ m : List ℕ) (p : ℕ) (w : Way) : Type 0 where
  pub inside : p ≤ G.size
  pub long : length m ≡ length m₀
  pub few : w.taken ≤ p
  pub marks_left : sweep_from G (G.size - p) p m ≡ sweep_once G m₀
  pub count_left : w.taken + sweep_taken_from G (G.size - p) p m ≡ sweep_taken G m₀
  pub bounds : Bounded G.size w
  pub covers : (q : ℕ) → can_take G m q ≡ true → Covers w p q

pub one_at_most : (b : Bool) → cond b 1 0 ≤ 1
one_at_most true = omega arith
one_at_most false = omega arith

no : (b : Bool) → (b ≡ true → ⊥) → b ≡ false
no b f = by (yes_or_no b)
  where
    by : (b ≡ true) ⊎ (b ≡ false) → b ≡ false
    by (inl e) = absurd (f e)
    by (inr e) = e

module _ (G : Tracer) where
  -- k positions from p on, of which none can be taken up, are passed: j are left of n
  idle : (k p j n : ℕ) → n ≡ k + j → (m : List ℕ) → ((q : ℕ) → p ≤ q → q < p + k → can_take G m q ≡ false)
      → (sweep_from G n p m ≡ sweep_from G j (p + k) m) × (sweep_taken_from G n p m ≡ sweep_taken_from G j (p + k) m)
  unfolding sweep_from sweep_taken_from swept_at
  idle zero p j n a m f =
      let b : n ≡ j = omega (arith, a) in
      let e : p ≡ p + 0 = omega arith in (
        ap₂ (λ (x y : ℕ). sweep_from G x y m) b e,
        ap₂ (λ (x y : ℕ). sweep_taken_from G x y m) b e,
      )
  idle (suc k) p j n a m f =
      let b : n ≡ suc (n - 1) = omega (arith, a) in
      let e : can_take G m p ≡ false = f p (omega arith) (omega arith) in
      let g : suc p + k ≡ p + suc k = omega arith in
      let s : swept_at G m p ≡ m = ap (λ (x : Bool). cond x (took G m p) m) e in
      let i = idle k (suc p) j (n - 1) (omega (arith, a)) m (λ q c d. f q (omega (arith, c)) (omega (arith, d))) in (
        ap (λ (x : ℕ). sweep_from G x p m) b ∙ ap (sweep_from G (n - 1) (suc p)) s ∙ i.0 ∙ ap (λ (x : ℕ). sweep_from G j x m) g,
        ap (λ (x : ℕ). sweep_taken_from G x p m) b
            ∙ ap (λ (x : Bool). cond x 1 0 + sweep_taken_from G (n - 1) (suc p) (swept_at G m p)) e
            ∙ let h : 0 + sweep_taken_from G (n - 1) (suc p) (swept_at G m p) ≡ sweep_taken_from G (n - 1) (suc p) (swept_at G m p) = omega arith in
            h ∙ ap (sweep_taken_from G (n - 1) (suc p)) s ∙ i.1 ∙ ap (λ (x : ℕ). sweep_taken_from G j x m) g,
      )

  module _ (m : List ℕ) (from to : ℕ) (f : from ≤ G.size) (t : to ≤ G.size) (B : Between G m from to) where
    below : (q : ℕ) → 0 ≤ q → q < 0 + from → can_take G m q ≡ false
    below q a h = no (can_take G m q) (λ e. omega (arith, h, (B q e).0))

    pub passing_start : (w : Way) → w ≡ record { taken = 0; end = to; from = G.size; to = 0 } → Passing G m m from w
    unfolding sweep_once sweep_taken
    passing_start w e =
        let z : from ≡ 0 + from = omega arith in
        let i = idle from 0 (G.size - from) G.size (omega (arith, f)) m below in
        rw e (record {
          inside = f;
          long = refl;
          few = omega arith;
          marks_left = ap (λ (x : ℕ). sweep_from G (G.size - from) x m) z ∙ sym i.0;
          count_left = omega (arith, ap (λ (x : ℕ). sweep_taken_from G (G.size - from) x m) z, i.1);
          bounds = (t, omega arith, omega arith);
          covers = λ q c. (λ h. (B q c).1, λ h. absurd (omega (arith, h, (B q c).0)));
        })

  module _ (m₀ m : List ℕ) (p : ℕ) (w : Way) (S : Passing G m₀ m p w) where
    pub passing_next : p < w.end → (r : Way) (m' : List ℕ) → MetOn G m p w r m' → Passing G m₀ m' (p + 1) r
    unfolding sweep_from sweep_taken_from
    passing_next g r m' M =
        let h : p < G.size = omega (arith, g, S.bounds.0) in
        let k = G.size - (p + 1) in
        let e : G.size - p ≡ suc k = omega arith in
        let f : p + 1 ≡ suc p = omega arith in
        let s : sweep_from G (suc k) p m ≡ sweep_once G m₀ = ap (λ (j : ℕ). sweep_from G j p m) (sym e) ∙ S.marks_left in
        let t : w.taken + sweep_taken_from G (suc k) p m ≡ sweep_taken G m₀ = ap (λ (j : ℕ). w.taken + sweep_taken_from G j p m) (sym e) ∙ S.count_left in
        let c : sweep_taken_from G k (p + 1) m' ≡ sweep_taken_from G k (suc p) (swept_at G m p) =
        ap (λ (q : ℕ). sweep_taken_from G k q m') f ∙ ap (sweep_taken_from G k (suc p)) M.marks_are in
        record {
          inside = omega arith;
          long = ap length M.marks_are ∙ length_swept G m p ∙ S.long;
          few = omega (arith, M.taken_is, one_at_most (can_take G m p), S.few);
          marks_left = ap (λ (q : ℕ). sweep_from G k q m') f ∙ ap (sweep_from G k (suc p)) M.marks_are ∙ s;
          count_left = omega (arith, M.taken_is, c, t);
          bounds = M.bounds S.bounds;
          covers = M.covers S.covers;
        }

    -- nothing is left ahead
    pub passing_done : w.end ≤ p → SweptOver G m₀ w m
    unfolding sweep_from sweep_taken_from
    passing_done h =
        let k = G.size - p in
        let i = idle k p 0 k (omega arith) m (λ q a b. no (can_take G m q) (λ c. omega (arith, h, (S.covers q c).0 a))) in
        record {
          taken_is = omega (arith, i.1, S.count_left);
          marks_are = sym i.0 ∙ S.marks_left;
          bounds = S.bounds;
          between = λ q c. by q c (lt_or_le q p);
        }
      where
        by : (q : ℕ) → can_take G m q ≡ true → (q < p) ⊎ (p ≤ q) → (w.from ≤ q) × (q < w.to)
        by q c (inl a) = (S.covers q c).1 a
        by q c (inr a) = absurd (omega (arith, h, (S.covers q c).0 a))
