-- `enough::is_enough` meets its contract.
-- Assumes nothing.
use mathlib.Core.Path.{sym}
use Prim.Native.Nat.{◌-◌, ◌/◌}
use native.Mathlib.Omega.{arith}
use borrow.Author.Rules.{rules}
use borrow.Author.Tests.{leb-true}
use Rattle.instruction.proofs.Sign.{never}
use Rattle.report_text.proofs.ReportLengths.{report_most}
use Rattle.report_text.proofs.enough.is_enough.Statement.{statement}
use Rattle.report_text.proofs.enough.is_enough.Tie as tie

returns : tie.Need-returns-then-room-gt-HIGHEST
returns c = λ e. absurd (never (sym e))

returns-2 : tie.Need-returns-then-room
returns-2 c = λ e. absurd (never (sym e))

returns-3 : tie.Need-returns
returns-3 c = λ e.
    let s = c.before.before.before.before in
    let l = leb-true c.empty_lines.result ((s.args.room - 69 - 170) / 69) e in
    omega (arith, l, report_most s.args.text.now, c.empty_lines.ensures, c.if-room.false, c.if-room-gt-HIGHEST.false)

pub is_enough_spec : {M : Type 1} → statement M
is_enough_spec =
    tie.close (tie.spec returns (λ c. search rules) returns-2 (λ c κs. search rules) (λ c. search rules) (λ c. search rules) returns-3)
