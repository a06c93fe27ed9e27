-- A match on a number: what an arm shows, and of the `_` after the arms 0, 1, .. k - 1 that what is left below k + 1 is k.
-- Assumes nothing.
use Rattle.std.proofs.Common.{◌≡◌, ℕ, zero, suc, ◌<◌, arith}

-- an arm that answers what g has at its number
pub arm : {n : ℕ} (g : ℕ → ℕ) (k x : ℕ) → x ≡ k → n ≡ g k → n ≡ g x
arm g k x e f = rw e f

-- what is known after k arms
abbrev pub Rest : ℕ → ℕ → Type 0
Rest zero x = Unit {0}
Rest (suc k) x = Rest k x × (x ≡ k → ⊥)

pub none : (k x : ℕ) → Rest k x → x < k → ⊥
none zero x r h = omega arith
none (suc k) x r h = none k x r.0 (let n : x ≡ k → ⊥ = r.1 in omega arith)

pub only : (k x : ℕ) → Rest k x → x < suc k → x ≡ k
only k x r h = let n : x < k → ⊥ = none k x r in omega arith
