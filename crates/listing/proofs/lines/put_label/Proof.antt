-- `lines::put_label` meets its contract.
-- Assumes nothing.
use Prim.Native.Nat.{◌≤◌, ◌<◌, ◌+◌, ◌^◌}
use native.Mathlib.Omega.{arith}
use borrow.Author.Rules.{rules}
use Rattle.listing.proofs.Lining.{puts_begin, no_label, label}
use Rattle.text.proofs.Putting.{puts_as, puts_none, puts_then}
use Rattle.listing.proofs.lines.put_label.Statement.{statement}
use Rattle.listing.proofs.lines.put_label.Tie as tie

returns : tie.Need-returns-then-mark-eq0
returns c = let a = c.args in puts_as (no_label a.mark a.p c.if-mark-eq0.true) (puts_none _ _)

put-byte-requires : tie.Need-put_byte-requires
put-byte-requires c κs =
    let j = c.before.before.before in
    let s = j.before.before.before.before in
    let p : s.args.at < 2 ^ 56 = s.requires in
    let h : j.put_start-a.result ≤ s.args.at + 6 = puts_begin s.args.p j.put_start-a.ensures in
    omega arith

returns-2 : tie.Need-returns
returns-2 c =
    let k = c.before.before in
    let j = k.before.before.before.before in
    let e = j.before.before in
    let a = e.args in
    puts_as (label a.mark a.p e.if-mark-eq0.false) (puts_then j.put_start-a.ensures k.put_byte.ensures)

pub put_label_spec : {M : Type 1} → statement M
put_label_spec = tie.close (tie.spec returns (λ c κs. search rules) put-byte-requires (λ c. search rules) returns-2)
