-- What is left to read adds to the number so far.
use Rattle.std.proofs.Common.{◌≡◌, ℕ, ◌<◌, drop, Option}
use Rattle.runner.specs.Digits.{number_from}
use Rattle.runner.proofs.handed.number.Given as goal

abbrev pub invariant-loop-b : goal.invariant-loop-b
invariant-loop-b g l =
    (f : ℕ → Option ℕ) → ((b : ℕ) (d : Option ℕ) → b < 256 → goal.F-post g l.fn.digit b d → d ≡ f b)
    → number_from f l.value (drop l.b-index l.digits) ≡ number_from f 0 l.fn.digits
