-- By the target marks, or by the index.
-- Assumes nothing.
use Rattle.std.proofs.Common.{◌≡◌, ℕ, ◌<◌, Bool, true, false, List, length, get_or, refl, ap, ◌∙◌, arith}
use mir.Val.{bool_byte}
use Rattle.views.specs.Positions.{bit}
use Rattle.views.specs.Labels.{labels_of}
use Rattle.views.proofs.Labelling.{labels_length}
use Rattle.listing.proofs.Chaining.{label_bit}
use Rattle.listing.proofs.walk.label_at.Goals as goal

byte : (b : Bool) → bool_byte b ≡ bit b
byte true = refl
byte false = refl

pub bounds-labels-p : goal.bounds-labels-p
bounds-labels-p c =
    let s = c.args.lent.now in
    let e : c.in-Labels.labels.now ≡ labels_of s.mode s.image.now s.marks.now = rw c.in-Labels.is at s.told in
    omega (arith, ap length e, labels_length s.mode s.image.now s.marks.now)

pub returns-in-Labels : goal.returns-in-Labels
returns-in-Labels c =
    let s = c.args.lent.now in
    let e : c.in-Labels.labels.now ≡ labels_of s.mode s.image.now s.marks.now = rw c.in-Labels.is at s.told in
    ap (λ (l : List ℕ). get_or l c.args.p 0) e

pub indexed-requires : goal.indexed-requires
indexed-requires c = rw c.in-Index.is at c.args.lent.now.told

pub returns-in-Index : goal.returns-in-Index
returns-in-Index c =
    let s = c.args.lent.now in
    let e = rw (c.indexed.ensures.0, c.indexed.ensures.1, c.indexed.ensures.2) at c.is_labelled.ensures in
    byte c.is_labelled.result ∙ ap bit e ∙ label_bit s.mode s.image.now s.marks.now s.small c.args.p c.requires
