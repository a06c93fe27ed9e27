-- `tables::forms` meets its contract, word by word. An arm past the table is never taken.
-- Assumes nothing.
use Rattle.std.proofs.Common.{◌%◌, refl, arith}
use Rattle.instruction.specs.Tables.{table_word, by_column}
use Rattle.instruction.specs.Forms.{forms, form_named}
use Rattle.instruction.specs.Grid.{grid}
use Rattle.instruction.proofs.Rest.{arm, only}
use Rattle.instruction.proofs.tables.forms.Statement.{statement}
use Rattle.instruction.proofs.tables.forms.Tie as tie

pub forms_spec : {M : Type 1} → statement M
unfolding table_word by_column grid form_named forms
forms_spec =
    tie.close
    (tie.spec
    (λ c. arm (table_word by_column) 0 c.args.w (omega (arith, c.requires, c.in-0.is)) refl)
    (λ c. arm (table_word by_column) 1 c.args.w (omega (arith, c.requires, c.in-1.is)) refl)
    (λ c. arm (table_word by_column) 2 c.args.w (omega (arith, c.requires, c.in-2.is)) refl)
    (λ c. arm (table_word by_column) 3 c.args.w (omega (arith, c.requires, c.in-3.is)) refl)
    (λ c. arm (table_word by_column) 4 c.args.w (omega (arith, c.requires, c.in-4.is)) refl)
    (λ c. arm (table_word by_column) 5 c.args.w (omega (arith, c.requires, c.in-5.is)) refl)
    (λ c. arm (table_word by_column) 6 c.args.w (omega (arith, c.requires, c.in-6.is)) refl)
    (λ c. arm (table_word by_column) 7 c.args.w (omega (arith, c.requires, c.in-7.is)) refl)
    (λ c. arm (table_word by_column) 8 c.args.w (omega (arith, c.requires, c.in-8.is)) refl)
    (λ c. arm (table_word by_column) 9 c.args.w (omega (arith, c.requires, c.in-9.is)) refl)
    (λ c. arm (table_word by_column) 9 c.args.w (omega (arith, c.requires, c.in-10.is)) refl)
    (λ c. arm (table_word by_column) 9 c.args.w (omega (arith, c.requires, c.in-11.is)) refl)
    (λ c. arm (table_word by_column) 9 c.args.w (omega (arith, c.requires, c.in-12.is)) refl)
    (λ c. arm (table_word by_column) 9 c.args.w (omega (arith, c.requires, c.in-13.is)) refl)
    (λ c. arm (table_word by_column) 9 c.args.w (omega (arith, c.requires, c.in-14.is)) refl)
    (λ c.
    let l = only 15 (c.args.w % 16) c.in_default.in_default-own.rest (omega arith) in
    arm (table_word by_column) 9 c.args.w (omega (arith, c.requires, l)) refl))
