-- A step at each digit.
-- Assumes nothing.
use Rattle.std.proofs.Common.{◌-◌, ◌/◌, List, ℕ, refl, sym, ap, ◌∙◌, arith}
use Rattle.std.proofs.lemmas.List.Edits.{sets}
use Rattle.list_text.specs.Decimal.{lowest}
use Rattle.list_text.proofs.Decimals.{last_first, none_left}
use Rattle.list_text.proofs.decimal.put.Goals as goal

pub loop-i-init : goal.loop-i-init
loop-i-init c = refl

pub loop-i-preserved : goal.loop-i-preserved
loop-i-preserved c =
    ap (λ (m : List ℕ). sets m c.args.at (lowest (c.loop-i.i - 1) (c.loop-i.left / 10))) c.put_at.ensures
    ∙ last_first c.loop-i.room c.args.at c.loop-i.i c.loop-i.left (omega arith) ∙ c.loop-i.invariant

pub returns : goal.returns
returns c = sym (none_left c.loop-i.room c.args.at c.loop-i.i c.loop-i.left (omega arith)) ∙ c.loop-i.invariant
