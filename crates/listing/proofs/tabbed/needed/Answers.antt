-- No text is longer than so many bytes for each position.
-- Assumes nothing.
use Rattle.std.proofs.Common.{◌≡◌, ◌≤◌, true, false, cond, length, arith, rules, tests}
use Rattle.std.proofs.lemmas.Nat.{mul-le}
use denote.Param.{number}
use Rattle.views.proofs.Viewing.{small}
use Rattle.listing.specs.contracts.tabbed.needed.{CHOSEN-type}
use Rattle.listing.specs.Lent.{text_of}
use Rattle.listing.proofs.Widths.{text_width}
use Rattle.listing.proofs.Answering.{all_covered}
use Rattle.listing.proofs.tabbed.needed.Goals as goal
use Rattle.listing.proofs.tabbed.needed.Goals.{then-this-ne0, else-this-ne0}

pub overflow_mul-most : goal.overflow_mul-most
overflow_mul-most g c =
    let h : length c.args.image.now ≤ 65536 = small c.args.image.now c.args.marks.now c.requires in
    let b : c.if-this-ne0.each ≤ 77 = elim c.if-this-ne0.branch [ then-this-ne0 w ↦ omega arith | else-this-ne0 w ↦ omega arith ] in
    record { fits = omega (arith, mul-le c.if-this-ne0.each (length c.args.image.now) 77 65536 b h) }

pub returns-then-most-room : goal.returns-then-most-room
returns-then-most-room g c =
    let chosen = CHOSEN-type (number g.row.CHOSEN) in
    let e : c.if-this-ne0.each ≡ cond chosen 77 60 = elim c.if-this-ne0.branch [
      | then-this-ne0 w ↦ let f : chosen ≡ true = let x = w.if-this-ne0.true in search (rules, tests) in rw f w.each-is
      | else-this-ne0 w ↦ let f : chosen ≡ false = let x = w.if-this-ne0.false in search (rules, tests) in rw f w.each-is
    ] in
    let a = c.args in
    let h = text_width a.mode a.image.now a.marks.now (λ n. (c.type_inv.image n).fits) chosen in
    all_covered (text_of a.mode a.image.now a.marks.now chosen) a.room _ (rw e h) c.if-most-room.true
