-- `image::input_start` meets its contract.
-- Assumes nothing.
use mathlib.Core.Path.{sym, ◌∙◌}
use mathlib.Core.List.{List}
use Prim.Native.Nat.{ℕ}
use native.Mathlib.Omega.{arith}
use borrow.Author.Rules.{rules}
use Rattle.report_text.proofs.Starts.{first_inside, other_length, other_byte, dash_alone}
use Rattle.report_text.proofs.image.input_start.Statement.{statement}
use Rattle.report_text.proofs.image.input_start.Tie as tie

abbrev text : tie.After-end → List ℕ
text c = c.args.text.now

returns : tie.Need-returns-then-end-ne1
returns c = let e = c.before in (omega arith, other_length (text e) e.end.result e.end.ensures c.if-end-ne1.true)

read : tie.Need-bounds-text-0
read c = let e = c.before.before in let h = first_inside (text e) e.end.result e.end.ensures in let k = c.if-end-ne1.false in omega arith

returns-2 : tie.Need-returns-then-text-ne45
returns-2 c =
    let f = c.before.before in
    let e = f.before in
    (omega arith, other_byte (text e) e.end.result e.end.ensures f.if-end-ne1.false c.if-text-ne45.true)

returns-3 : tie.Need-returns
returns-3 c =
    let f = c.before.before in
    let e = f.before in
    let h = first_inside (text e) e.end.result e.end.ensures in
    let k = f.if-end-ne1.false in
    (omega arith, dash_alone (text e) (sym k ∙ e.end.ensures) c.if-text-ne45.false)

pub input_start_spec : {M : Type 1} → statement M
input_start_spec = tie.close (tie.spec (λ c κs. search rules) returns read returns-2 returns-3)
