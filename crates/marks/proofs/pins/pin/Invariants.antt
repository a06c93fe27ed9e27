-- The positions passed are pinned.
-- Assumes nothing.
use Rattle.std.proofs.Common.{◌≡◌, take}
use Rattle.reach.specs.Pins.{pin}
use Rattle.marks.proofs.pins.pin.Given as goal

abbrev pub invariant-loop-q : goal.invariant-loop-q
invariant-loop-q l = l.marks ≡ pin l.n (take l.q-index l.pins) l.initial.marks
