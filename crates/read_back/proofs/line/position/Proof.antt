-- `line::position` meets its contract.
-- Assumes nothing.
use mathlib.Core.Path.{◌∙◌}
use mathlib.Core.List.{List}
use Prim.Native.Nat.{ℕ}
use borrow.Author.Rules.{rules}
use Rattle.read_back.proofs.Lines.{start_short, start_tab, start_four}
use Rattle.read_back.proofs.line.position.Statement.{statement}
use Rattle.read_back.proofs.line.position.Tie as tie

returns : tie.Need-returns-then-line-lt-START
returns c = start_short c.args.line.now c.if-line-lt-START.true

abbrev line : tie.Else-line-lt-START → List ℕ
line e = e.args.line.now

returns-2 : tie.Need-returns-then-line-ne-TAB
returns-2 c = let e = c.before.before in start_tab (line e) e.if-line-lt-START.false c.if-line-ne-TAB.true

returns-3 : tie.Need-returns
returns-3 c =
    let f = c.before.before in
    let e = f.before.before in
    c.read_four.ensures ∙ start_four (line e) e.if-line-lt-START.false f.if-line-ne-TAB.false

pub position_spec : {M : Type 1} → statement M
position_spec =
    tie.close (tie.spec returns (λ c. search rules) returns-2 (λ c. search rules) (λ c. search rules) (λ c. search rules) (λ c κs. search rules) returns-3)
