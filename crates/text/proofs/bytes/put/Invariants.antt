-- What remains of the digits, written from here, is all of them written.
use Rattle.std.proofs.Common.{ℕ, ◌+◌, ◌*◌}
use Rattle.text.proofs.PairPuts.{Putting}
use Rattle.text.proofs.bytes.put.Given as goal

abbrev pub invariant-loop-i : goal.invariant-loop-i
invariant-loop-i l = Putting (λ (b : ℕ). b) l.digits l.fn.room l.at l.room (2 * l.i + 1) (l.at + l.i)
