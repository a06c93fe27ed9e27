-- `form::shape_by` meets its contract.
-- Assumes nothing.
use Rattle.std.proofs.Common.{ℕ, ◌<◌, sym, refl, ◌∙◌, rules}
use Rattle.instruction.specs.FirstBits.{shaped_by}
use Rattle.instruction.specs.Forms.{form_at, form_of}
use Rattle.instruction.specs.Tables.{shape_at}
use Rattle.instruction.proofs.FirstBytes.{read}
use Rattle.instruction.proofs.ShapeNumber.{small, same}
use Rattle.instruction.proofs.form.shape_by.Statement.{statement}
use Rattle.instruction.proofs.form.shape_by.Tie as tie

shaped_small : (x : ℕ) → x < 256 → shaped_by x < 16
unfolding shaped_by shape_at
shaped_small x h = small (form_at (form_of x)).shape

returns : tie.Need-returns
unfolding shaped_by shape_at
returns c =
    let w = c.before in
    let s = w.before in
    same _ _ (sym c.numbered.ensures ∙ read shaped_by shaped_small s.args.first _ _ s.ranges.first.fits w.shape_word.ensures refl)

pub shape_by_spec : {M : Type 1} → statement M
shape_by_spec =
    tie.close
    (tie.spec (λ c κs. search rules) (λ c. search rules) (λ c. search rules) (λ c. search rules) (λ c. search rules) (λ c κs. search rules) returns)
