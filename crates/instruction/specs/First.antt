-- What a first byte alone says of its instruction: how long it is, and where control goes from it. Document 01, 'Forms' and 'Targets'.
-- Assumes nothing.
use Rattle.std.specs.Prelude.{ℕ}
use Rattle.instruction.specs.Flow.{flow_of}
use Rattle.instruction.specs.Forms.{form_at, form_of, size_of}
use Rattle.instruction.specs.declared.first.FirstByte.{FirstByte}

unfoldable pub first_says : ℕ → FirstByte
first_says x = record { size = size_of (form_at (form_of x)); flow = flow_of (form_of x) }
