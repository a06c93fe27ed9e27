-- Above the limit nothing more of a number is read, whatever its digits stand for.
-- Assumes nothing.
use Rattle.std.proofs.Common.{◌≡◌, ℕ, ◌<◌, refl, Option, List, [], ◌∷◌, lt-ltb, ltb, true}
use Rattle.runner.specs.Digits.{number_from}

pub above_limit : (f : ℕ → Option ℕ) (n : ℕ) (digits : List ℕ) → 1000000000000 < n → number_from f n digits ≡ n
above_limit f n [] h = refl
above_limit f n (b ∷ digits) h = let e : ltb 1000000000000 n ≡ true = lt-ltb 1000000000000 n h in rw e refl
