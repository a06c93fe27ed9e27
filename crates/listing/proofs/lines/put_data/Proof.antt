-- `lines::put_data` meets its contract.
-- Assumes nothing.
use Prim.Native.Nat.{◌≤◌, ◌<◌, ◌+◌, ◌^◌}
use native.Mathlib.Omega.{arith}
use borrow.Author.Rules.{rules}
use Rattle.listing.proofs.Lining.{puts_begin, puts_bytes, no_data, data_shown}
use Rattle.text.proofs.Putting.{puts_as, puts_most, puts_none, puts_then}
use Rattle.listing.proofs.lines.put_data.Statement.{statement}
use Rattle.listing.proofs.lines.put_data.Tie as tie

abbrev start : tie.After-all_zero → tie.Start
start z = z.before.before.before

returns : tie.Need-returns-then-all_zero
returns c =
    let z = c.before in
    let a = (start z).args in
    (puts_as (no_data a.p a.bytes.now z.all_zero.result z.all_zero.ensures c.if-all_zero.true) (puts_none _ _), omega arith)

begun : (j : tie.After-put_start-a) → j.put_start-a.result ≤ (start j.before.before.before).args.at + 6
begun j = puts_begin (start j.before.before.before).args.p j.put_start-a.ensures

filled : (k : tie.After-put_bytes-b) → k.put_bytes-b.result ≤ (start k.before.before.before.before.before.before.before).args.at + 131079
filled k =
    let j = k.before.before.before.before in
    let s = start j.before.before.before in
    let h : j.put_start-a.result ≤ s.args.at + 6 = begun j in
    let g : k.put_bytes-b.result ≤ j.put_start-a.result + 131073 = puts_bytes s.args.bytes.now k.put_bytes-b.ensures s.requires.1 in
    omega arith

put-bytes-requires : tie.Need-put_bytes-b-requires
put-bytes-requires c κs =
    let j = c.before.before.before in
    let s = start j.before.before.before in
    let p : s.args.at < 2 ^ 54 = s.requires.0 in
    let h : j.put_start-a.result ≤ s.args.at + 6 = begun j in
    (omega arith, s.requires.1)

put-byte-requires : tie.Need-put_byte-requires
put-byte-requires c κs =
    let k = c.before.before.before in
    let s = start k.before.before.before.before.before.before.before in
    let p : s.args.at < 2 ^ 54 = s.requires.0 in
    let h : k.put_bytes-b.result ≤ s.args.at + 131079 = filled k in
    omega arith

returns-2 : tie.Need-returns
returns-2 c =
    let n = c.before.before in
    let k = n.before.before.before.before in
    let j = k.before.before.before.before in
    let e = j.before.before in
    let z = e.before in
    let a = (start z).args in
    let h : k.put_bytes-b.result ≤ a.at + 131079 = filled k in
    let g : n.put_byte.result ≤ k.put_bytes-b.result + 1 = puts_most n.put_byte.ensures (omega arith) in (
      puts_as (data_shown a.p a.bytes.now z.all_zero.result z.all_zero.ensures e.if-all_zero.false)
          (puts_then j.put_start-a.ensures (puts_then k.put_bytes-b.ensures n.put_byte.ensures)),
      omega arith,
    )

pub put_data_spec : {M : Type 1} → statement M
put_data_spec =
    tie.close
    (tie.spec (λ c κs. search rules) returns (λ c κs. search rules) put-bytes-requires put-byte-requires (λ c. search rules) returns-2)
