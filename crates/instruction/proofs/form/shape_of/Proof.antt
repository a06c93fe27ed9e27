-- `form::shape_of` meets its contract.
-- Assumes nothing.
use Rattle.std.proofs.Common.{◌≡◌, ℕ, ◌*◌, ◌/◌, ◌%◌, ◌^◌, ◌<◌, sym, ◌∙◌, subst, arith, rules}
use Rattle.instruction.specs.Tables.{table_word, shape_number, shape_at}
use Rattle.instruction.specs.Forms.{forms, form_at}
use Rattle.instruction.proofs.Bytes.{read}
use Rattle.instruction.proofs.ShapeNumber.{small, same}
use Rattle.instruction.proofs.form.shape_of.Statement.{statement}
use Rattle.instruction.proofs.form.shape_of.Tie as tie

there : (k w r : ℕ) → k < 70 → w ≡ table_word shape_at (k / 8) → r ≡ w / 2 ^ (8 * (k % 8)) % 256 → r ≡ shape_at k
unfolding shape_at form_at forms
there k w r h = read shape_at 9 tt k (omega arith) w r

read_place : (c : tie.After-byte_of) → c.byte_of.result ≡ shape_number (form_at c.args.form).shape
unfolding shape_at
read_place c =
    let s = c.before in there s.args.form _ _ s.requires s.shapes.ensures c.byte_of.ensures

numbered-requires : tie.Need-numbered-requires
numbered-requires c κs = subst (λ (n : ℕ). n < 16) (sym (read_place c)) (small (form_at c.args.form).shape)

returns : tie.Need-returns
returns c = same _ _ (sym c.numbered.ensures ∙ read_place c.before)

pub shape_of_spec : {M : Type 1} → statement M
shape_of_spec = tie.close (tie.spec (λ c κs. search rules) (λ c κs. search rules) numbered-requires returns)
