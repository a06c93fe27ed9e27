-- A run that notes as many positions as it can: each that it takes up has two targets. Assumes nothing.
use Prim.Native.Nat.{ℕ, zero, suc, ◌+◌, ◌≤◌, zero-le}
use native.Mathlib.Omega.{arith}
use mathlib.Core.Bool.{true, false}
use mathlib.Core.Path.{◌≡◌, ap, ◌∙◌}
use mathlib.Core.Logic.{◌⊎◌, inl, inr, ⊎_elim}
use mathlib.Core.List.Memᴰ
use mathlib.Core.List.{List, [], ◌∷◌, ◌++◌, Memᴰ as Among}
use lib.ListN.{length, length-append}
use Rattle.reach.specs.Tracer.{Tracer, took, found}
use Rattle.reach.specs.Run.{Outcome, steps, taking_first, run_from}
use Rattle.reach.proofs.Cases.{yes_or_no}
use Rattle.reach.proofs.Found.{found_short}
use Rattle.reach.proofs.RunLaws.{run_finished, run_stopped, run_cut, run_on}

-- at most one more is left for each step, and where so many are, each step found two
pub record Full (G : Tracer) (queue : List ℕ) (out : Outcome) : Type 0 where
  pub most : length out.left ≤ length queue + steps out
  pub each : length out.left ≡ length queue + steps out → (q : ℕ) → Among q out.taken → length (G.ways q) ≡ 2

module _ (G : Tracer) (two : (p : ℕ) → length (G.ways p) ≤ 2) where
  -- a step
  on : (p : ℕ) (queue m : List ℕ) (out : Outcome) → Full G (queue ++ found G m p) out → Full G (p ∷ queue) (taking_first p out)
  on p queue m out F =
      let a = length-append queue (found G m p) in
      let b = found_short G m p in
      let c = two p in
      let d = F.most in
      record {
        most = omega arith;
        each = λ e q i.
            ⊎_elim (λ x. ap (λ (y : ℕ). length (G.ways y)) x ∙ (let z : length (G.ways p) ≡ 2 = omega arith in z))
            (λ j. F.each (omega arith) q j) (Memᴰ.cases_cons i);
      }

  ended : (limit : ℕ) (m : List ℕ) → Full G [] (run_from limit G [] m)
  ended limit m = rw (run_finished G limit m) (record { most = zero-le; each = λ e q i. absurd (Memᴰ.not-nil i) })

  pub run_full : (limit : ℕ) (queue m : List ℕ) → Full G queue (run_from limit G queue m)
  run_full zero [] m = ended zero m
  run_full (suc limit) [] m = ended (suc limit) m
  run_full zero (p ∷ queue) m = rw (run_stopped G p queue m) (record { most = omega arith; each = λ e q i. absurd (Memᴰ.not-nil i) })
  run_full (suc limit) (p ∷ queue) m = by (yes_or_no (G.fits p)) (run_full limit (queue ++ found G m p) (took G m p))
    where
      by : (G.fits p ≡ true) ⊎ (G.fits p ≡ false) → Full G (queue ++ found G m p) (run_from limit G (queue ++ found G m p) (took G m p))
          → Full G (p ∷ queue) (run_from (suc limit) G (p ∷ queue) m)
      by (inl f) F = rw (run_on G p queue m limit f) (on p queue m _ F)
      by (inr f) F = rw (run_cut G p queue m limit f) (record { most = omega arith; each = λ e q i. absurd (Memᴰ.not-nil i) })
