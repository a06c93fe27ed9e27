-- `first::bits` meets its contract.
-- Assumes nothing.
use Rattle.std.proofs.Common.{refl, rules}
use Rattle.instruction.specs.FirstBits.{said_by}
use Rattle.instruction.proofs.FirstBytes.{read, said_small}
use Rattle.instruction.proofs.first.bits.Statement.{statement}
use Rattle.instruction.proofs.first.bits.Tie as tie

returns : tie.Need-returns
returns c = let s = c.before in read said_by said_small s.args.first _ _ s.ranges.first.fits c.word.ensures refl

pub bits_spec : {M : Type 1} → statement M
bits_spec =
    tie.close (tie.spec (λ c κs. search rules) (λ c. search rules) (λ c. search rules) (λ c. search rules) (λ c. search rules) returns)
