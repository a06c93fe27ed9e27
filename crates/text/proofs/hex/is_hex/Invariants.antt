-- The digits seen so far and those to come are all of them.
use Rattle.std.proofs.Common.{◌≡◌, ◌&&◌, drop}
use Rattle.text.specs.Hex.{all_hex}
use Rattle.text.proofs.hex.is_hex.Given as goal

abbrev pub invariant-loop-b : goal.invariant-loop-b
invariant-loop-b l = all_hex l.s ≡ (l.all && all_hex (drop l.b-index l.s))
