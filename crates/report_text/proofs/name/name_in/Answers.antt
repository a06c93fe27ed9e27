-- Each test of the code is one of the definition.
-- Assumes nothing.
use Rattle.std.proofs.Common.{◌≡◌, List, ℕ, length, arith, rules, sym, ◌∙◌}
use Rattle.report_text.proofs.Names.{unstarted, line_empty, line_long, line_other, line_named}
use Rattle.report_text.proofs.name.name_in.Goals as goal
use Rattle.report_text.proofs.name.name_in.Goals.{then-is_empty-via-then-is_empty, then-is_empty-via-else-is_empty+then-name-gt-MOST, then-is_empty-via-else-is_empty+else-name-gt-MOST+then-not-is_named}

pub returns-in_default : goal.returns-in_default
returns-in_default c = unstarted c.args.line.now c.in_default.ensures.cases

pub returns-then-is_empty : goal.returns-then-is_empty
returns-then-is_empty c =
    let l : List ℕ = c.args.line.now in
    let n : List ℕ = c.in-Some.name.now in
    let k = c.in-Some.ensures.cases in
    elim c.then-is_empty.branch [
      | then-is_empty-via-then-is_empty w ↦ line_empty l n k.0 k.1 (search rules)
      | then-is_empty-via-else-is_empty+then-name-gt-MOST w ↦ line_long l n k.0 k.1 w.if-name-gt-MOST.true
      | then-is_empty-via-else-is_empty+else-name-gt-MOST+then-not-is_named w ↦ line_other l n k.0 k.1 (sym w.is_named.ensures ∙ w.if-not-is_named.true)
    ]

pub returns : goal.returns
returns c =
    let l : List ℕ = c.args.line.now in
    let n : List ℕ = c.in-Some.name.now in
    let k = c.in-Some.ensures.cases in
    (line_named l n k.0 k.1 (search rules) c.if-name-gt-MOST.false (sym c.is_named.ensures ∙ c.if-not-is_named.false), k.1)
