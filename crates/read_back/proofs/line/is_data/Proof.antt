-- `line::is_data` meets its contract.
-- Assumes nothing.
use mathlib.Core.Path.{ap, ◌∙◌}
use borrow.Author.Rules.{rules}
use borrow.Author.Tests.{eq-eqb, ne_eqb}
use lib.ListN.{get_or}
use Rattle.text.specs.Bytes.{is_bytes}
use Rattle.targets.proofs.HereIs.{to_end}
use Rattle.read_back.proofs.Lines.{no_tab}
use Rattle.read_back.proofs.line.is_data.Statement.{statement}
use Rattle.read_back.proofs.line.is_data.Tie as tie

returns : tie.Need-returns-then-rest-eq0
returns c = no_tab c.args.rest.now c.if-rest-eq0.true

returns-2 : tie.Need-returns-then-rest-ne-TAB
returns-2 c = let l = c.args.rest.now in rw (ne_eqb (get_or l 0 0) 9 c.if-rest-ne-TAB.true)

returns-3 : tie.Need-returns
returns-3 c =
    let e = c.before.before in
    let l = e.args.rest.now in
    c.is_bytes.ensures ∙ ap (is_bytes 16) (to_end l 1) ∙ rw (eq-eqb (get_or l 0 0) 9 e.if-rest-ne-TAB.false)

pub is_data_spec : {M : Type 1} → statement M
is_data_spec = tie.close (tie.spec returns (λ c. search rules) returns-2 (λ c. search rules) (λ c. search rules) (λ c. search rules)
    (λ c κs. search rules) returns-3)
