-- A step at each field.
-- Assumes nothing.
use Rattle.std.proofs.Common.{◌≡◌, ℕ, ◌+◌, ◌++◌, ◌∷◌, [], ◌∙◌, ◌<◌, ◌≤◌, List, length, map, get_or, drop, refl, arith, add-one, drop-cons}
use lib.ListN.{drop_of_length-le}
use Rattle.listing.specs.Hex.{hex4}
use Rattle.listing.specs.Line.{fields_text}
use Rattle.listing.proofs.Lining.{puts_place}
use Rattle.text.proofs.Putting.{going_start, going_next, going_over, puts_length}
use Rattle.listing.proofs.lines.put_places.Goals as goal

place_next : (ps : List ℕ) (i : ℕ) → i < length ps
    → fields_text (map hex4 (drop i ps)) ≡ (9 ∷ hex4 (get_or ps i 0)) ++ fields_text (map hex4 (drop (i + 1) ps))
unfolding fields_text
place_next ps i h = rw (add-one, drop-cons ps i 0)

place_end : (ps : List ℕ) (i : ℕ) → length ps ≤ i → fields_text (map hex4 (drop i ps)) ≡ (10 ∷ []) ++ []
unfolding fields_text
place_end ps i h = rw (drop_of_length-le ps h)

pub loop-p-init : goal.loop-p-init
loop-p-init c = (omega arith, refl, going_start _ _ _)

pub put_place-a-requires : goal.put_place-a-requires
put_place-a-requires c = omega arith

pub loop-p-preserved : goal.loop-p-preserved
loop-p-preserved c =
    let n = puts_place _ c.put_place-a.ensures in (
      omega arith,
      puts_length c.put_place-a.ensures ∙ c.loop-p.invariant.1,
      going_next c.loop-p.invariant.2 (place_next c.args.places.now c.loop-p.p-index c.loop-p-test.true) c.put_place-a.ensures,
    )

pub put_byte-requires : goal.put_byte-requires
put_byte-requires c = omega arith

pub returns : goal.returns
returns c = going_over (going_next c.loop-p.invariant.2 (place_end c.args.places.now c.loop-p.p-index (omega arith)) c.put_byte.ensures) refl
