-- What is claimed of the answers of the packed map. Document 01, 'Forms by place'.
-- Assumes nothing.
use Rattle.instruction.specs.Answer.{Apart}
use Rattle.map.specs.Ask.{asked_of}
use Rattle.map.specs.Update.{updated_of}

-- the number and values of the answers tell all cases and all values apart
abbrev pub AskedApart : Type 0
AskedApart = Apart asked_of

abbrev pub UpdatedApart : Type 0
UpdatedApart = Apart updated_of
