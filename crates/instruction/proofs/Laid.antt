-- What a room holds afterwards, from the tests of the code.
-- Assumes nothing.
use Rattle.std.proofs.Common.{◌≡◌, ℕ, ◌<◌, ◌≤◌, true, false, leb, List, [], ◌∷◌, ◌++◌, length, take, drop, ℤ, refl, sym, ◌∙◌, arith, le-leb}
use borrow.Author.Tests.{lt-leb}
use Rattle.instruction.specs.declared.kind.Shape.{Shape}
use Rattle.instruction.specs.declared.kind.Shape.TheVariants.{Bare, Imm, D9, Ri, ImmD9, ImmRi, D9B3, A12, A16, R16, R8, D9B3R8, D9R8, RiR8, ImmR8}
use Rattle.instruction.specs.declared.kind.Shape.TheVariants.{RiImmR8}
use Rattle.instruction.specs.Code.{code_of}
use Rattle.instruction.specs.Layout.{blank, bytes_by, written_room}

-- 1, 2 or 3 bytes
pub size_range : (t : Shape) → (0 < length (blank t)) × (length (blank t) < 4)
unfolding blank
size_range Bare = (omega arith, omega arith)
size_range Imm = (omega arith, omega arith)
size_range D9 = (omega arith, omega arith)
size_range Ri = (omega arith, omega arith)
size_range ImmD9 = (omega arith, omega arith)
size_range ImmRi = (omega arith, omega arith)
size_range D9B3 = (omega arith, omega arith)
size_range A12 = (omega arith, omega arith)
size_range A16 = (omega arith, omega arith)
size_range R16 = (omega arith, omega arith)
size_range R8 = (omega arith, omega arith)
size_range D9B3R8 = (omega arith, omega arith)
size_range D9R8 = (omega arith, omega arith)
size_range RiR8 = (omega arith, omega arith)
size_range ImmR8 = (omega arith, omega arith)
size_range RiImmR8 = (omega arith, omega arith)

module _ (u : ℕ) (t : Shape) (a b c : ℤ) (room : List ℕ) (n : ℕ) (sized : n ≡ length (blank t)) where
  pub too_short_lem : length room < n → (false ≡ leb (length (blank t)) (length room)) × (room ≡ written_room u t a b c room)
  unfolding written_room
  too_short_lem h =
      let e : leb (length (blank t)) (length room) ≡ false = rw (← sized) (lt-leb n (length room) h) in (sym e, rw e refl)

  pub laid : n ≤ length room → (l s : List ℕ) → take (length (blank t)) l ≡ bytes_by u t (code_of a ∷ code_of b ∷ code_of c ∷ []) → s ≡ take n l ++ drop n room
      → (true ≡ leb (length (blank t)) (length room)) × (s ≡ written_room u t a b c room)
  unfolding written_room
  laid h l s f g =
      let e : leb (length (blank t)) (length room) ≡ true = rw (← sized) (le-leb n (length room) h) in
      (sym e, rw e (g ∙ rw (sized, f) refl))
