-- `line::record` meets its contract.
-- Assumes nothing.
use mathlib.Core.Path.{◌∙◌}
use native.Mathlib.Omega.{arith}
use borrow.Author.Rules.{rules}
use Rattle.read_back.proofs.Records.{made, with_data, with_code, with_places}
use Rattle.read_back.proofs.line.record.Statement.{statement}
use Rattle.read_back.proofs.line.record.Tie as tie

abbrev start : tie.After-shared_slice_known-2-1 → tie.Start
start k = k.before.before

returns : tie.Need-returns-then-letter-eq68
returns c =
    let t = c.before in
    let s = start t.before in
    let a = s.args in
    made c.new.result _ _ _ c.new.ensures ∙ with_data a.line.now s.requires.0 a.p s.requires.1 t.if-letter-eq68.true

returns-2 : tie.Need-returns-then-letter-eq73
returns-2 c =
    let d = c.before in
    let t = d.before in
    let s = start t.before.before in
    let a = s.args in
    made c.new-then-letter-eq73.result _ _ _ c.new-then-letter-eq73.ensures ∙ with_code a.line.now s.requires.0 a.p s.requires.1 t.if-letter-eq73.true
    d.digits.result.now d.digits.ensures

returns-3 : tie.Need-returns
returns-3 c =
    let f = c.before in
    let e = f.before in
    let s = start e.before in
    let a = s.args in
    made c.new-2.result _ _ _ c.new-2.ensures ∙ with_places a.line.now s.requires.0 a.p s.requires.1 f.if-letter-eq73.false e.if-letter-eq68.false

pub record_spec : {M : Type 1} → statement M
record_spec =
    tie.close
    (tie.spec (λ c. let h = c.requires.0.long in omega arith) (λ c. c.requires.0.long) (λ c κs. search rules) returns (λ c κs. search rules)
    (λ c κs. search rules) returns-2
    (λ c. c.requires.0.long) (λ c κs. search rules) returns-3)
