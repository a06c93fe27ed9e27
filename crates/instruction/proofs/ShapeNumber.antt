-- A shape's number is below 16 and gives the shape back.
-- Assumes nothing.
use Rattle.std.proofs.Common.{◌≡◌, ℕ, ◌<◌, [], ◌∷◌, get_or, sym, refl, ap, ◌∙◌, lit<}
use Rattle.instruction.specs.declared.kind.Shape.{Shape}
use Rattle.instruction.specs.declared.kind.Shape.TheVariants.{Bare, Imm, D9, Ri, ImmD9, ImmRi, D9B3, A12}
use Rattle.instruction.specs.declared.kind.Shape.TheVariants.{A16, R16, R8, D9B3R8, D9R8, RiR8, ImmR8, RiImmR8}
use Rattle.instruction.specs.Tables.{shape_number}

-- the shape with a place
back : ℕ → Shape
back n =
    get_or (Bare ∷ Imm ∷ D9 ∷ Ri ∷ ImmD9 ∷ ImmRi ∷ D9B3 ∷ A12 ∷ A16 ∷ R16 ∷ R8 ∷ D9B3R8 ∷ D9R8 ∷ RiR8 ∷ ImmR8 ∷ RiImmR8 ∷ []) n Bare

shown : (s : Shape) → (shape_number s < 16) × (back (shape_number s) ≡ s)
unfolding back
shown Bare = (lit< tt, refl)
shown Imm = (lit< tt, refl)
shown D9 = (lit< tt, refl)
shown Ri = (lit< tt, refl)
shown ImmD9 = (lit< tt, refl)
shown ImmRi = (lit< tt, refl)
shown D9B3 = (lit< tt, refl)
shown A12 = (lit< tt, refl)
shown A16 = (lit< tt, refl)
shown R16 = (lit< tt, refl)
shown R8 = (lit< tt, refl)
shown D9B3R8 = (lit< tt, refl)
shown D9R8 = (lit< tt, refl)
shown RiR8 = (lit< tt, refl)
shown ImmR8 = (lit< tt, refl)
shown RiImmR8 = (lit< tt, refl)

pub small : (s : Shape) → shape_number s < 16
small s = (shown s).0

pub same : (s t : Shape) → shape_number s ≡ shape_number t → s ≡ t
same s t e = sym (shown s).1 ∙ ap back e ∙ (shown t).1
