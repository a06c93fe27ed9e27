-- `message::put_cut` meets its contract.
-- Assumes nothing.
use mathlib.Core.Path.{◌≡◌, refl}
use Prim.Native.Nat.{ℕ, ◌≤◌}
use native.Mathlib.Omega.{arith}
use borrow.Author.Rules.{rules}
use lib.ListN.{length}
use Rattle.text.proofs.Putting.{puts_then}
use Rattle.listing.specs.Hex.{hex2, hex3, hex4}
use Rattle.dis_text.specs.Word.{codes}
use Rattle.dis_text.proofs.message.put_cut.Statement.{statement}
use Rattle.dis_text.proofs.message.put_cut.Tie as tie

abbrev position : tie.After-put-d → tie.After-put_position-b
position c = c.before.before.before.before.before.before

abbrev begun : tie.After-put_position-b → tie.After-put-a
begun c = c.before.before.before.before

abbrev start : tie.After-put_position-b → tie.Start
start c = (begun c).before.before.before.before.before

four : (p : ℕ) → length (hex4 p) ≡ 4
unfolding hex2 hex3 hex4
four p = refl

-- not far
at_most : (c : tie.After-put_position-b) → c.put_position-b.result ≤ 144
at_most c = omega (arith, c.put_position-b.ensures.next, four (start c).args.c.position, (begun c).put-a.ensures.next, (start c).requires)

put-requires-2 : tie.Need-put-d-requires
put-requires-2 c κs = (omega (arith, at_most c.before.before.before.before.before), omega arith)

put-decimal-requires : tie.Need-put_decimal-requires
put-decimal-requires c κs =
    let p = c.before.before.before.before in omega (arith, p.put-d.ensures.next, at_most (position p))

returns : tie.Need-returns
unfolding codes
returns c =
    let p = c.before.before in
    let q = p.before.before.before.before.before in
    let r = position q in (
      puts_then (puts_then (puts_then (begun r).put-a.ensures r.put_position-b.ensures) q.put-d.ensures) p.put_decimal.ensures.0,
      omega (
        arith,
        p.put_decimal.ensures.1,
        q.put-d.ensures.next,
        r.put_position-b.ensures.next,
        four (start r).args.c.position,
        (begun r).put-a.ensures.next,
      ),
    )

pub put_cut_spec : {M : Type 1} → statement M
put_cut_spec =
    tie.close
    (tie.spec (λ c κs. search rules) (λ c κs. search rules) put-requires-2 (λ c. search rules) put-decimal-requires (λ c. search rules) returns)
