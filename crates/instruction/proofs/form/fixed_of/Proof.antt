-- `form::fixed_of` meets its contract.
-- Assumes nothing.
use Rattle.std.proofs.Common.{◌≡◌, ℕ, ◌*◌, ◌/◌, ◌%◌, ◌^◌, ◌<◌, arith, rules}
use Rattle.instruction.specs.Pattern.{pattern, pattern_bytes, onto, bits_given, next_bracket}
use Rattle.instruction.specs.Tables.{table_word, fixed_at}
use Rattle.instruction.specs.Forms.{forms, form_at}
use Rattle.instruction.proofs.Bytes.{read}
use Rattle.instruction.proofs.form.fixed_of.Statement.{statement}
use Rattle.instruction.proofs.form.fixed_of.Tie as tie

there : (k w r : ℕ) → k < 70 → w ≡ table_word fixed_at (k / 8) → r ≡ w / 2 ^ (8 * (k % 8)) % 256 → r ≡ fixed_at k
unfolding fixed_at form_at forms pattern pattern_bytes onto bits_given next_bracket
there k w r h = read fixed_at 9 tt k (omega arith) w r

returns : tie.Need-returns
unfolding fixed_at
returns c =
    let f = c.before in there f.args.form _ _ f.requires f.fixed.ensures c.byte_of.ensures

pub fixed_of_spec : {M : Type 1} → statement M
fixed_of_spec = tie.close (tie.spec (λ c κs. search rules) (λ c κs. search rules) returns)
