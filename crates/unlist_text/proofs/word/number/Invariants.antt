-- The digits so far say n, which has no more digits than they.
-- Assumes nothing.
use Rattle.std.proofs.Common.{◌≡◌, ◌^◌, ◌<◌, drop}
use Rattle.unlist_text.specs.Number.{argument_from}
use Rattle.unlist_text.proofs.word.number.Given as goal

abbrev pub invariant-loop-b : goal.invariant-loop-b
invariant-loop-b l = (l.n < 10 ^ l.b-index) × (argument_from l.n (drop l.b-index l.word) ≡ argument_from 0 l.word)
