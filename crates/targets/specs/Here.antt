-- What stands at a position of an image: the instruction that the patterns give to the bytes there, one that the end cuts off, or nothing
-- where the position is not inside. Document 01, 'Marks and steps' and refusal 5.
-- Assumes nothing.
use Rattle.std.specs.Prelude.{Result, Ok, Err, ℕ, cond, List, length, nat_lt}
use Rattle.instruction.specs.Decode.{cut_at}
use Rattle.targets.specs.At.{fits_here, instr_here}
use Rattle.instruction.specs.declared.instr.Instr.{Instr}
use Rattle.targets.specs.declared.not_whole.NotWhole.{NotWhole}
use Rattle.targets.specs.declared.not_whole.NotWhole.TheVariants.{Cut, Outside}

unfoldable pub here_of : List ℕ → ℕ → Result Instr NotWhole
here_of image p =
    cond (nat_lt p (length image)) (cond (fits_here image p) (Ok (instr_here image p)) (Err (Cut (cut_at image p)))) (Err Outside)
