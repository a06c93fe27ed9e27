-- The positions so far are good.
-- Assumes nothing.
use Rattle.std.proofs.Common.{◌≡◌, ◌*◌, drop}
use Rattle.read_back.specs.Offsets.{are_places}
use Rattle.read_back.proofs.line.are_places.Given as goal

abbrev pub invariant-loop-place : goal.invariant-loop-place
invariant-loop-place l = are_places l.s ≡ are_places (drop (l.place-index * 5) l.s)
