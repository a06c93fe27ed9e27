-- `print::game_entries` meets its contract.
-- Assumes nothing.
use mathlib.Core.Path.{refl}
use Rattle.dis_text.specs.Output.{game_entries}
use Rattle.dis_text.proofs.print.game_entries.Statement.{statement}
use Rattle.dis_text.proofs.print.game_entries.Tie as tie

returns : tie.Need-returns
unfolding game_entries
returns c = refl

pub game_entries_spec : {M : Type 1} → statement M
game_entries_spec = tie.close (tie.spec returns)
