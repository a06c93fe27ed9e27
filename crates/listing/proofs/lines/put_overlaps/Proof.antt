-- `lines::put_overlaps` meets its contract.
-- Assumes nothing.
use Prim.Native.Nat.{ℕ, ◌≤◌, ◌<◌, ◌+◌, ◌^◌}
use mathlib.Core.List.{List}
use native.Mathlib.Omega.{arith}
use borrow.Author.Rules.{rules}
use Rattle.views.specs.Overlaps.{overlaps_of}
use Rattle.listing.proofs.Lining.{puts_begin, found_length, no_overlaps, overlaps}
use Rattle.text.proofs.Putting.{puts_as, puts_most, puts_none, puts_then}
use Rattle.listing.proofs.lines.put_overlaps.Statement.{statement}
use Rattle.listing.proofs.lines.put_overlaps.Tie as tie

abbrev start : tie.After-count → tie.Start
start n = n.before.before.before.before.before

abbrev found : tie.After-count → List ℕ
found n = overlaps_of (start n).args.image.now (start n).args.marks.now (start n).args.p

returns : tie.Need-returns-then-count-eq0
returns c =
    let n = c.before in
    let o = n.before in (
      puts_as (no_overlaps (start n).args.p o.overlaps_at-o.result (found n) o.overlaps_at-o.ensures n.count.result n.count.ensures
          c.if-count-eq0.true) (puts_none _ _),
      omega arith,
    )

begun : (j : tie.After-put_start-a) → j.put_start-a.result ≤ (start j.before.before.before).args.at + 6
begun j = puts_begin (start j.before.before.before).args.p j.put_start-a.ensures

put-found-requires : tie.Need-put_found-requires
put-found-requires c κs =
    let j = c.before.before.before in
    let s = start j.before.before.before in
    let p : s.args.at < 2 ^ 54 = s.requires in
    let h : j.put_start-a.result ≤ s.args.at + 6 = begun j in
    omega arith

returns-2 : tie.Need-returns
returns-2 c =
    let k = c.before.before in
    let j = k.before.before.before.before in
    let e = j.before.before in
    let n = e.before in
    let o = n.before in
    let h : j.put_start-a.result ≤ (start n).args.at + 6 = begun j in
    let g : k.put_found.result ≤ j.put_start-a.result + 16 = puts_most k.put_found.ensures (found_length o.overlaps_at-o.result) in (
      puts_as (overlaps (start n).args.p o.overlaps_at-o.result (found n) o.overlaps_at-o.ensures n.count.result n.count.ensures e.if-count-eq0.false)
          (puts_then j.put_start-a.ensures k.put_found.ensures),
      omega arith,
    )

pub put_overlaps_spec : {M : Type 1} → statement M
put_overlaps_spec =
    tie.close
    (tie.spec (λ c κs. search rules) (λ c κs. search rules) returns (λ c κs. search rules) put-found-requires (λ c. search rules) returns-2)
