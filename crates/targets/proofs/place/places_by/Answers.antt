-- What `places_by` answers, by the two tests of the flow.
-- Assumes nothing.
use Rattle.std.proofs.Common.{◌≡◌, ℕ, false, true, pos, sym, refl, ap, ◌∙◌}
use Rattle.instruction.specs.declared.mode.Mode.{Mode}
use Rattle.targets.specs.At.{place_of}
use Rattle.targets.specs.Targets.{in_mode}
use Rattle.targets.proofs.Openings.{goes_by}
use Rattle.targets.proofs.place.places_by.Goals as goal

-- next as a target, by where the instruction ends
next : (mode : Mode) {n m k : ℕ} → k ≡ place_of (in_mode mode (pos n)) → n ≡ m → k ≡ place_of (in_mode mode (pos m))
next mode e f = e ∙ ap (λ (n : ℕ). place_of (in_mode mode (pos n))) f

pub returns-then-goes_on : goal.returns-then-goes_on
returns-then-goes_on c =
    let a = c.args in
    goes_by a.mode a.image.now a.p (λ k. (c.type_inv.image k).fits) a.flow c.requires.p_value.2 true true
    (sym c.if-is_naming.ensures) (sym c.if-goes_on.ensures) _ _ c.place_at-to.ensures (next a.mode (ap place_of c.next_place.ensures.0) c.requires.p_value.1)

pub returns-then-is_naming : goal.returns-then-is_naming
returns-then-is_naming c =
    let a = c.args in
    goes_by a.mode a.image.now a.p (λ k. (c.type_inv.image k).fits) a.flow c.requires.p_value.2 true false
    (sym c.if-is_naming.ensures) (sym c.if-goes_on.ensures) _ _ c.place_at-to.ensures refl

pub returns-then-goes_on-2 : goal.returns-then-goes_on-2
returns-then-goes_on-2 c =
    let a = c.args in
    goes_by a.mode a.image.now a.p (λ k. (c.type_inv.image k).fits) a.flow c.requires.p_value.2 false true
    (sym c.if-is_naming.ensures) (sym c.if-goes_on-2.ensures) _ _ refl (next a.mode (ap place_of c.next_place-then-goes_on-2.ensures.0) c.requires.p_value.1)

pub returns : goal.returns
returns c =
    let a = c.args in
    goes_by a.mode a.image.now a.p (λ k. (c.type_inv.image k).fits) a.flow c.requires.p_value.2 false false
    (sym c.if-is_naming.ensures) (sym c.if-goes_on-2.ensures) _ _ refl refl
