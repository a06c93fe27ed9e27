-- `form::lookup` meets its contract.
-- Assumes nothing.
use Rattle.std.proofs.Common.{◌≡◌, ℕ, ◌+◌, ◌*◌, ◌/◌, ◌%◌, ◌^◌, ◌<◌, ltb, sym, ◌∙◌, subst, ap₂, arith, ltb→lt, rules}
use Rattle.instruction.specs.Tables.{table_word, by_column}
use Rattle.instruction.specs.Forms.{forms, form_named}
use Rattle.instruction.specs.Grid.{grid, entry, column, rule_of}
use Rattle.instruction.proofs.Bytes.{read}
use Rattle.instruction.proofs.Every.{holds}
use Rattle.instruction.proofs.form.lookup.Statement.{statement}
use Rattle.instruction.proofs.form.lookup.Tie as tie

-- there are five columns
five : (l : ℕ) → l < 16 → column l < 5
five l h = ltb→lt (column l) 5 (holds (λ k. ltb (column k) 5) 16 tt l h)

small : (x : ℕ) → x < 256 → rule_of x < 70
unfolding rule_of grid form_named forms
small x h = ltb→lt (rule_of x) 70 (holds (λ k. ltb (rule_of k) 70) 256 tt x h)

there : (k w r : ℕ) → k < 80 → w ≡ table_word by_column (k / 8) → r ≡ w / 2 ^ (8 * (k % 8)) % 256 → r ≡ by_column k
unfolding by_column grid form_named forms
there k w r h = read by_column 10 tt k h w r

-- the place of a first byte in the columns
in_column : (x c : ℕ) → x < 256 → c ≡ column (x % 16) → by_column (16 * c + x / 16) ≡ rule_of x
unfolding by_column rule_of
in_column x c h e =
    let p : (16 * c + x / 16) % 16 ≡ x / 16 = omega arith in
    let q : (16 * c + x / 16) / 16 ≡ c = omega arith in
    ap₂ entry p (q ∙ e)

-- the column's number and the place
least : (c : tie.After-column) → c.column.result < 5
least c = subst (λ (n : ℕ). n < 5) (sym c.column.ensures) (five (c.args.first % 16) (omega arith))

byte : (c : tie.Start) → c.args.first < 256
byte c = search rules

returns : tie.Need-returns
returns c =
    let f = c.before in
    let a = f.before in
    let x : ℕ = a.args.first in
    let h : x < 256 = byte a.before in
    let l : a.column.result < 5 = least a in
    let e = there (16 * a.column.result + x / 16) _ _ (omega arith) f.forms.ensures c.byte_of.ensures
    ∙ in_column x a.column.result h a.column.ensures in
    (e, subst (λ (n : ℕ). n < 70) (sym e) (small x h))

pub lookup_spec : {M : Type 1} → statement M
lookup_spec =
    tie.close
    (tie.spec
    (λ c κs. search rules)
    (λ c. let l : c.column.result < 5 = least c in record { fits = omega arith })
    (λ c. let l : c.column.result < 5 = least c in let h : c.args.first < 256 = byte c.before in record { fits = omega arith })
    (λ c κs. let l : c.column.result < 5 = least c in let h : c.args.first < 256 = byte c.before in omega arith)
    (λ c κs. search rules)
    returns)
