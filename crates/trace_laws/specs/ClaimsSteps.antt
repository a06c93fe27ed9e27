-- What is claimed of the answers of start, step, run and the sweeping engine. Document 01, 'Forms by place'.
-- Assumes nothing.
use Rattle.instruction.specs.Answer.{Apart}
use Rattle.marks.specs.Refusals.{sized_of}
use Rattle.trace.specs.Run.{ran_of}
use Rattle.trace.specs.Start.{started_of}
use Rattle.trace.specs.Step.{stepped_of}
use Rattle.sweep.specs.Sweep.{swept_of}

-- the number and values of the answers tell all cases and all values apart
abbrev pub SizedApart : Type 0
SizedApart = Apart sized_of

abbrev pub StartedApart : Type 0
StartedApart = Apart started_of

abbrev pub SteppedApart : Type 0
SteppedApart = Apart stepped_of

abbrev pub RanApart : Type 0
RanApart = Apart ran_of

abbrev pub SweptApart : Type 0
SweptApart = Apart swept_of
