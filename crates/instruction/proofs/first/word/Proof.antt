-- `first::word` meets its contract: the arm of each number is the word of its column.
-- Assumes nothing.
use Rattle.std.proofs.Common.{refl}
use Rattle.instruction.specs.Pattern.{pattern, pattern_bytes, onto, bits_given, next_bracket}
use Rattle.instruction.specs.Flow.{flow_of, stops, jumps, branches}
use Rattle.instruction.specs.Forms.{forms, form_at, form_of}
use Rattle.instruction.proofs.Rest.{arm, only}
use Rattle.instruction.specs.FirstBits.{column_word, said_by}
use Rattle.instruction.proofs.first.word.Statement.{statement}
use Rattle.instruction.proofs.first.word.Tie as tie

pub word_spec : {M : Type 1} → statement M
unfolding column_word said_by flow_of stops jumps branches form_of form_at forms pattern pattern_bytes onto bits_given next_bracket
word_spec =
    tie.close
    (tie.spec
    (λ c. arm (column_word said_by) 0 _ c.in-0.is refl)
    (λ c. arm (column_word said_by) 1 _ c.in-1.is refl)
    (λ c. arm (column_word said_by) 2 _ c.in-2.is refl)
    (λ c. arm (column_word said_by) 3 _ c.in-3.is refl)
    (λ c. arm (column_word said_by) 4 _ c.in-4.is refl)
    (λ c. arm (column_word said_by) 5 _ c.in-5.is refl)
    (λ c. arm (column_word said_by) 6 _ c.in-6.is refl)
    (λ c. arm (column_word said_by) 7 _ c.in-7.is refl)
    (λ c. arm (column_word said_by) 8 _ c.in-8.is refl)
    (λ c. arm (column_word said_by) 9 _ c.in-9.is refl)
    (λ c. arm (column_word said_by) 10 _ c.in-10.is refl)
    (λ c. arm (column_word said_by) 11 _ c.in-11.is refl)
    (λ c. arm (column_word said_by) 12 _ c.in-12.is refl)
    (λ c. arm (column_word said_by) 13 _ c.in-13.is refl)
    (λ c. arm (column_word said_by) 14 _ c.in-14.is refl)
    (λ c. arm (column_word said_by) 15 _ (only 15 c.args.low c.in_default.in_default-own.rest c.requires) refl))
