-- `whole::report_text` meets its contract.
-- Assumes nothing.
use Prim.Native.Nat.{min, ◌<◌}
use native.Mathlib.Omega.{arith}
use borrow.Author.Rules.{rules}
use lib.ListN.{length}
use Rattle.report_text.specs.Report.{highest, report_of}
use Rattle.report_text.proofs.Writes.{too_short_lem, long_enough}
use Rattle.report_text.proofs.whole.report_text.Statement.{statement}
use Rattle.report_text.proofs.whole.report_text.Tie as tie

abbrev start : tie.After-needed-n → tie.Start
start n = n.before.before.before

returns : tie.Need-returns-then-n-gt-HIGHEST
returns c =
    let n = c.before in
    let a = (start n).args in
    let h : min (length a.room.now) highest < n.needed-n.result = omega (arith, c.if-n-gt-HIGHEST.true) in
    too_short_lem a.text.now a.room.now n.needed-n.result (n.needed-n.ensures.exact h) highest (omega (arith, c.if-n-gt-HIGHEST.true)) h

returns-2 : tie.Need-returns-then-room-n
returns-2 c =
    let n = c.before.before in
    let a = (start n).args in
    let h : min (length a.room.now) highest < n.needed-n.result = omega (arith, c.if-room-n.true) in
    too_short_lem a.text.now a.room.now n.needed-n.result (n.needed-n.ensures.exact h) n.needed-n.result (omega (arith, c.if-n-gt-HIGHEST.false)) h

returns-3 : tie.Need-returns
returns-3 c =
    let w = c.before.before in
    let e = w.before.before in
    let n = e.before.before in
    let a = (start n).args in
    let l = n.needed-n.ensures.enough (omega (arith, e.if-n-gt-HIGHEST.false, e.if-room-n.false)) in
    long_enough a.text.now a.room.now (length (report_of a.text.now)) (omega (arith, l)) (omega (arith, l)) (omega (arith, l)) _ _ w.fill.ensures

pub report_text_spec : {M : Type 1} → statement M
report_text_spec =
    tie.close (tie.spec (λ c κs. search rules) returns returns-2 (λ c κs. search rules) (λ c. search rules) returns-3)
