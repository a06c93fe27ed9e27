-- What is not found of `mask::write_mask`: one byte more, and all.
-- Assumes nothing.
use mathlib.Core.Path.{◌≡◌, refl, sym, ap, subst, ◌∙◌}
use mathlib.Core.Bool.{Bool, true, false}
use mathlib.Core.List.{List}
use Prim.Native.Nat.{ℕ, ◌+◌, ◌<◌, ◌≤◌}
use native.Mathlib.Omega.{arith}
use lib.Dec.{ltb}
use lib.ListN.{length, set}
use mir.Val.{bool_byte}
use Rattle.views.specs.Positions.{bit}
use Rattle.views.specs.Mask.{mask_of}
use Rattle.views.proofs.Fronts.{front_next, front_end}
use Rattle.views.proofs.Masking.{Masks, masks_start, masks_next, masks_here, mask_length}
use Rattle.views.proofs.mask.write_mask.Goals as goal

pub loop-p-init : goal.loop-p-init
loop-p-init c = (masks_start c.args.image.now c.args.marks.now, refl)

byte : (b : Bool) → bool_byte b ≡ bit b
byte true = refl
byte false = refl

pub loop-p-preserved : goal.loop-p-preserved
loop-p-preserved c =
    let l = c.loop-p in
    let image = c.args.image.now in
    let m = c.args.marks.now in
    let h = c.loop-p-test.true in
    let e = c.end_with-end.ensures in
    let k : length image ≤ length c.args.mask.now = c.requires.2 in (
      subst (Masks image m (l.p + 1)) (sym e) (masks_next image m l.p l.end h l.invariant.0),
      ap (λ (v : List ℕ). set v l.p (bool_byte (ltb l.p c.end_with-end.result))) l.invariant.1
          ∙ front_next (mask_of image m) c.args.mask.now l.p _ (subst (λ (k : ℕ). l.p < k) (sym (mask_length image m)) h) (omega arith)
          (byte (ltb l.p c.end_with-end.result) ∙ ap (λ (k : ℕ). bit (ltb l.p k)) e ∙ masks_here image m l.p l.end h l.invariant.0),
    )

pub returns : goal.returns
returns c =
    let l = c.loop-p in
    let a = c.args in
    l.invariant.1 ∙ front_end (mask_of a.image.now a.marks.now) a.mask.now l.p (length a.image.now) (omega arith) c.loop-p-test.false
    (mask_length a.image.now a.marks.now)
