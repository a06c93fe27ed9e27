-- A test that one of the positions passes, and one that a position is known to pass.
-- Assumes nothing.
use mathlib.Core.Path.{◌≡◌, refl, sym, ap, ◌∙◌}
use mathlib.Core.Bool.{Bool, true, false, ◌||◌}
use Prim.Native.Nat.{ℕ, zero, suc, ◌+◌, ◌<◌, ◌≤◌}
use native.Mathlib.Omega.{arith}
use Rattle.instruction.proofs.Sign.{never}
use Rattle.views.specs.Positions.{up_from, some}

-- the one that passes
pub record Passes (f : ℕ → Bool) (k q : ℕ) : Type 0 where
  pub at : ℕ
  pub from : q ≤ at
  pub to : at < q + k
  pub passed : f at ≡ true

pub which : (f : ℕ → Bool) (k q : ℕ) → some f (up_from k q) ≡ true → Passes f k q
unfolding some up_from
which f zero q e = absurd (never (sym e))
which f (suc k) q e = by (f q) refl e (which f k (suc q))
  where
    on : Passes f k (suc q) → Passes f (suc k) q
    on P = let a = P.from in let b = P.to in record { at = P.at; from = omega arith; to = omega arith; passed = P.passed }

    by : (b : Bool) → f q ≡ b → (b || some f (up_from k (suc q))) ≡ true → (some f (up_from k (suc q)) ≡ true → Passes f k (suc q)) → Passes f (suc k) q
    by true g h rest = record { at = q; from = omega arith; to = omega arith; passed = g }
    by false g h rest = on (rest h)

pub passing : (f : ℕ → Bool) (k q p : ℕ) → q ≤ p → p < q + k → f p ≡ true → some f (up_from k q) ≡ true
unfolding some up_from
passing f zero q p h j e = absurd (omega arith)
passing f (suc k) q p h j e = by (f q) refl (λ i. passing f k (suc q) p i (omega arith) e)
  where
    by : (b : Bool) → f q ≡ b → (suc q ≤ p → some f (up_from k (suc q)) ≡ true) → (b || some f (up_from k (suc q))) ≡ true
    by true g rest = refl
    by false g rest = rest (let d : q ≡ p → ⊥ = λ d. never (sym (ap f d ∙ e) ∙ g) in omega arith)
