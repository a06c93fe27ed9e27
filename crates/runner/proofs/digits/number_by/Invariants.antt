-- What is left to read adds to the number so far.
use Rattle.std.proofs.Common.{◌≡◌, drop}
use Rattle.runner.specs.Digits.{digit_of, number_from}
use Rattle.runner.proofs.digits.number_by.Given as goal

abbrev pub invariant-loop-b : goal.invariant-loop-b
invariant-loop-b l =
    number_from (digit_of l.numeral) l.value (drop l.b-index l.digits) ≡ number_from (digit_of l.numeral) 0 l.fn.digits
