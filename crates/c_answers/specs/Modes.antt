-- The mode, as the exported calls take it. Document 02, W7.
-- Assumes nothing.
use Rattle.std.specs.Prelude.{ℕ, cond, eqb}
use Rattle.instruction.specs.declared.mode.Mode.{Mode}
use Rattle.instruction.specs.declared.mode.Mode.TheVariants.{Unwrapped, Wrapping}

-- 0 is unwrapped, any other number is wrapping
abbrev pub mode_of : ℕ → Mode
mode_of n = cond (eqb n 0) Unwrapped Wrapping
