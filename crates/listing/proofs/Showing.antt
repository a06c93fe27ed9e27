-- Operands as fields: each kind's text, its length, and the fields of a shape one by one.
-- Assumes nothing.
use mathlib.Core.Path.{◌≡◌, refl, ap, ap₂, ◌∙◌}
use mathlib.Core.Bool.{Bool, true, false, cond}
use mathlib.Core.List.{List, [], ◌∷◌, ◌++◌}
use Prim.Native.Nat.{ℕ, ◌<◌, ◌≤◌}
use Prim.Native.Char.{code}
use native.Mathlib.Omega.{arith}
use borrow.Author.Tests.{lt-ltb, le-ltb}
use lib.Dec.{ltb}
use lib.IntN.{nat_abs}
use lib.ListN.{length, length-append}
use Rattle.instruction.specs.Kinds.{kinds_of, three_of}
use Rattle.instruction.specs.declared.kind.Kind.{Kind}
use Rattle.instruction.specs.declared.kind.Kind.TheVariants.{Absent, Immediate, Direct, Register, BitNumber, Page, Far, Short, Long}
use Rattle.instruction.specs.declared.kind.Kinds.{Kinds}
use Rattle.instruction.specs.declared.kind.Shape.{Shape}
use Rattle.instruction.specs.declared.kind.Shape.TheVariants.{Bare, Imm, D9, Ri, ImmD9, ImmRi, D9B3, A12, A16, R16, R8, D9B3R8, D9R8, RiR8, ImmR8, RiImmR8}
use Rattle.instruction.specs.Encode.{form_in}
use Rattle.instruction.specs.Parts.{parts_of}
use Rattle.instruction.specs.declared.instr.Instr.{Instr}
use Rattle.instruction.specs.declared.instr.Parts.{Parts}
use Rattle.instruction.specs.Kinds.{is_given}
use Rattle.listing.specs.Hex.{hex1, hex2, hex3, hex4}
use Rattle.listing.specs.Line.{fields_text}
use Rattle.listing.specs.Operand.{target, shown, shown_all, shown_field, operands_by}
use Rattle.listing.proofs.Hexing.{hex2_length, hex3_length, hex4_length}

pub outside : (t : ℕ) → 65535 < t → code "?" ∷ [] ≡ target t
unfolding target
outside t h = rw (lt-ltb 65535 t h)

pub inside : (t : ℕ) → t ≤ 65535 → hex4 t ≡ target t
unfolding target
inside t h = rw (le-ltb 65535 t h)

-- the text of each kind
module _ (t n : ℕ) (k : Kind) where
  abbrev As : List ℕ → Type 0
  As s = s ≡ shown t k n

  pub is_absent : k ≡ Absent → As []
  unfolding shown
  is_absent e = rw e

  pub is_immediate : k ≡ Immediate → As (code "#" ∷ hex2 n)
  unfolding shown
  is_immediate e = rw e

  pub is_direct : k ≡ Direct → As (hex3 n)
  unfolding shown
  is_direct e = rw e

  pub is_register : k ≡ Register → As (code "@" ∷ code "R" ∷ hex1 n ∷ [])
  unfolding shown
  is_register e = rw e

  pub is_bit : k ≡ BitNumber → As (hex1 n ∷ [])
  unfolding shown
  is_bit e = rw e

  pub is_page : k ≡ Page → As (target t)
  unfolding shown
  is_page e = rw e

  pub is_far : k ≡ Far → As (target t)
  unfolding shown
  is_far e = rw e

  pub is_short : k ≡ Short → As (target t)
  unfolding shown
  is_short e = rw e

  pub is_long : k ≡ Long → As (target t)
  unfolding shown
  is_long e = rw e

-- a field, and none
pub is_field : (t : ℕ) (k : Kind) (n : ℕ) → is_given k ≡ true → 9 ∷ shown t k n ≡ shown_field t k n
is_field t k n e = rw e

pub is_none : (t : ℕ) (k : Kind) (n : ℕ) → is_given k ≡ false → [] ≡ shown_field t k n
is_none t k n e = rw e

-- a field has at most five bytes
target_length : (t : ℕ) → length (9 ∷ target t) ≤ 5
unfolding target
target_length t = by (ltb 65535 t)
  where
    by : (b : Bool) → length (9 ∷ cond b (code "?" ∷ []) (hex4 t)) ≤ 5
    by true = omega arith
    by false = omega (arith, hex4_length t)

pub field_length : (t : ℕ) (k : Kind) (n : ℕ) → length (shown_field t k n) ≤ 5
unfolding shown
field_length t Absent n = omega arith
field_length t Immediate n = omega (arith, hex2_length n)
field_length t Direct n = omega (arith, hex3_length n)
field_length t Register n = omega arith
field_length t BitNumber n = omega arith
field_length t Page n = target_length t
field_length t Far n = target_length t
field_length t Short n = target_length t
field_length t Long n = target_length t

-- three operands, of which those are left out that a shape has not
abbrev pub three : ℕ → Kinds → ℕ → ℕ → ℕ → List ℕ
three t k a b c = shown_field t k.a a ++ (shown_field t k.b b ++ (shown_field t k.c c ++ (10 ∷ [])))

by_shape : (t : ℕ) (s : Shape) (a b c : ℕ) → three t (three_of s) a b c ≡ fields_text (shown_all t (kinds_of s) (a ∷ b ∷ c ∷ []))
unfolding fields_text kinds_of
by_shape t Bare a b c = refl
by_shape t Imm a b c = refl
by_shape t D9 a b c = refl
by_shape t Ri a b c = refl
by_shape t ImmD9 a b c = refl
by_shape t ImmRi a b c = refl
by_shape t D9B3 a b c = refl
by_shape t A12 a b c = refl
by_shape t A16 a b c = refl
by_shape t R16 a b c = refl
by_shape t R8 a b c = refl
by_shape t D9B3R8 a b c = refl
by_shape t D9R8 a b c = refl
by_shape t RiR8 a b c = refl
by_shape t ImmR8 a b c = refl
by_shape t RiImmR8 a b c = refl

module _ (t : ℕ) (i : Instr) (v : Parts) (k : Kinds) where
  pub is_operands : v ≡ parts_of i → k ≡ three_of (form_in i).shape → (a b c : ℕ) → a ≡ nat_abs v.a → b ≡ nat_abs v.b → c ≡ nat_abs v.c
      → three t k a b c ≡ fields_text (operands_by t i)
  unfolding operands_by
  is_operands e f a b c x y z =
      let g : three t k a b c ≡ three t k (nat_abs v.a) (nat_abs v.b) (nat_abs v.c) = rw (x, y, z) in
      g
      ∙ ap₂ (λ (w : Parts) (j : Kinds). three t j (nat_abs w.a) (nat_abs w.b) (nat_abs w.c)) e f
      ∙ by_shape t (form_in i).shape (nat_abs (parts_of i).a) (nat_abs (parts_of i).b) (nat_abs (parts_of i).c)

three_length : (t : ℕ) (k : Kinds) (a b c : ℕ) → length (three t k a b c) ≤ 16
three_length t k a b c =
    omega (
      arith,
      field_length t k.a a,
      field_length t k.b b,
      field_length t k.c c,
      length-append (shown_field t k.a a) (shown_field t k.b b ++ (shown_field t k.c c ++ (10 ∷ []))),
      length-append (shown_field t k.b b) (shown_field t k.c c ++ (10 ∷ [])),
      length-append (shown_field t k.c c) (10 ∷ []),
    )

-- the operands and the end of the line have at most sixteen bytes
pub operands_length : (t : ℕ) (i : Instr) → length (fields_text (operands_by t i)) ≤ 16
operands_length t i =
    let v = parts_of i in
    let k = three_of (form_in i).shape in
    omega (
      arith,
      ap length (is_operands t i v k refl refl (nat_abs v.a) (nat_abs v.b) (nat_abs v.c) refl refl refl),
      three_length t k (nat_abs v.a) (nat_abs v.b) (nat_abs v.c),
    )
