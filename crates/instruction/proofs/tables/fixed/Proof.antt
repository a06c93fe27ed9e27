-- `tables::fixed` meets its contract, word by word.
-- Assumes nothing.
use Rattle.std.proofs.Common.{refl}
use Rattle.instruction.specs.Pattern.{pattern, pattern_bytes, onto, bits_given, next_bracket}
use Rattle.instruction.specs.Tables.{table_word, fixed_at}
use Rattle.instruction.specs.Forms.{forms, form_at}
use Rattle.instruction.proofs.Rest.{arm, only}
use Rattle.instruction.proofs.tables.fixed.Statement.{statement}
use Rattle.instruction.proofs.tables.fixed.Tie as tie

pub fixed_spec : {M : Type 1} → statement M
unfolding table_word fixed_at form_at forms pattern pattern_bytes onto bits_given next_bracket
fixed_spec =
    tie.close
    (tie.spec
    (λ c. arm (table_word fixed_at) 0 _ c.in-0.is refl)
    (λ c. arm (table_word fixed_at) 1 _ c.in-1.is refl)
    (λ c. arm (table_word fixed_at) 2 _ c.in-2.is refl)
    (λ c. arm (table_word fixed_at) 3 _ c.in-3.is refl)
    (λ c. arm (table_word fixed_at) 4 _ c.in-4.is refl)
    (λ c. arm (table_word fixed_at) 5 _ c.in-5.is refl)
    (λ c. arm (table_word fixed_at) 6 _ c.in-6.is refl)
    (λ c. arm (table_word fixed_at) 7 _ c.in-7.is refl)
    (λ c. arm (table_word fixed_at) 8 _ (only 8 c.args.w c.in_default.in_default-own.rest c.requires) refl))
