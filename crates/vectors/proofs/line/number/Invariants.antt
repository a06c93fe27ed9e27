-- So many digits make a number below that power of 16.
use Rattle.std.proofs.Common.{◌^◌, ◌<◌}
use Rattle.vectors.proofs.line.number.Given as goal

abbrev pub invariant-loop-b : goal.invariant-loop-b
invariant-loop-b l = l.n < 16 ^ l.b-index
