-- `tables::shapes` meets its contract, word by word. An arm past the table is never taken.
-- Assumes nothing.
use Rattle.std.proofs.Common.{◌%◌, refl, arith}
use Rattle.instruction.specs.Tables.{table_word, shape_at}
use Rattle.instruction.specs.Forms.{forms, form_at}
use Rattle.instruction.proofs.Rest.{arm, only}
use Rattle.instruction.proofs.tables.shapes.Statement.{statement}
use Rattle.instruction.proofs.tables.shapes.Tie as tie

pub shapes_spec : {M : Type 1} → statement M
unfolding table_word shape_at form_at forms
shapes_spec =
    tie.close
    (tie.spec
    (λ c. arm (table_word shape_at) 0 c.args.w (omega (arith, c.requires, c.in-0.is)) refl)
    (λ c. arm (table_word shape_at) 1 c.args.w (omega (arith, c.requires, c.in-1.is)) refl)
    (λ c. arm (table_word shape_at) 2 c.args.w (omega (arith, c.requires, c.in-2.is)) refl)
    (λ c. arm (table_word shape_at) 3 c.args.w (omega (arith, c.requires, c.in-3.is)) refl)
    (λ c. arm (table_word shape_at) 4 c.args.w (omega (arith, c.requires, c.in-4.is)) refl)
    (λ c. arm (table_word shape_at) 5 c.args.w (omega (arith, c.requires, c.in-5.is)) refl)
    (λ c. arm (table_word shape_at) 6 c.args.w (omega (arith, c.requires, c.in-6.is)) refl)
    (λ c. arm (table_word shape_at) 7 c.args.w (omega (arith, c.requires, c.in-7.is)) refl)
    (λ c. arm (table_word shape_at) 8 c.args.w (omega (arith, c.requires, c.in-8.is)) refl)
    (λ c. arm (table_word shape_at) 8 c.args.w (omega (arith, c.requires, c.in-9.is)) refl)
    (λ c. arm (table_word shape_at) 8 c.args.w (omega (arith, c.requires, c.in-10.is)) refl)
    (λ c. arm (table_word shape_at) 8 c.args.w (omega (arith, c.requires, c.in-11.is)) refl)
    (λ c. arm (table_word shape_at) 8 c.args.w (omega (arith, c.requires, c.in-12.is)) refl)
    (λ c. arm (table_word shape_at) 8 c.args.w (omega (arith, c.requires, c.in-13.is)) refl)
    (λ c. arm (table_word shape_at) 8 c.args.w (omega (arith, c.requires, c.in-14.is)) refl)
    (λ c.
    let l = only 15 (c.args.w % 16) c.in_default.in_default-own.rest (omega arith) in
    arm (table_word shape_at) 8 c.args.w (omega (arith, c.requires, l)) refl))
