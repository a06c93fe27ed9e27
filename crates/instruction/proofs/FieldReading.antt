-- What a shape reads out of bytes, in closed form: x is the first byte, p the second and q the third. A byte is the sum of its bits.
-- Assumes nothing.
use Rattle.std.proofs.Common.{◌≡◌, ℕ, ◌+◌, ◌*◌, ◌/◌, ◌%◌, List, get_or, ℤ, pos, sym, refl, ap, add-zero, zero-add, arith}
use Rattle.instruction.specs.Bytes.{Bytes}
use Rattle.instruction.specs.Kinds.{kinds_of}
use Rattle.instruction.specs.declared.kind.Shape.{Shape}
use Rattle.instruction.specs.declared.kind.Shape.TheVariants.{Bare, Imm, D9, Ri, ImmD9, ImmRi, D9B3, A12, A16, R16, R8, D9B3R8, D9R8, RiR8, ImmR8}
use Rattle.instruction.specs.declared.kind.Shape.TheVariants.{RiImmR8}
use Rattle.instruction.specs.Code.{short_of}
use Rattle.instruction.specs.Layout.{blank, fields_by}
use Rattle.instruction.specs.declared.layout.Fields.{Fields}
use Rattle.instruction.proofs.Bits.{low8, high8, low3, high3}

abbrev pub make : ℤ → ℤ → ℤ → Fields
make a b c = record { a = a; b = b; c = c }

pub make3 : {a a' b b' c c' : ℤ} → a ≡ a' → b ≡ b' → c ≡ c' → make a b c ≡ make a' b' c'
make3 p q r = cc

unfoldable pub closed : Shape → ℕ → ℕ → ℕ → Fields
closed Bare x p q = make (pos 0) (pos 0) (pos 0)
closed Imm x p q = make (pos p) (pos 0) (pos 0)
closed D9 x p q = make (pos (x % 2 * 256 + p)) (pos 0) (pos 0)
closed Ri x p q = make (pos (x % 4)) (pos 0) (pos 0)
closed ImmD9 x p q = make (pos q) (pos (x % 2 * 256 + p)) (pos 0)
closed ImmRi x p q = make (pos p) (pos (x % 4)) (pos 0)
closed D9B3 x p q = make (pos (x / 16 % 2 * 256 + p)) (pos (x % 8)) (pos 0)
closed A12 x p q = make (pos ((x / 16 % 2 * 8 + x % 8) * 256 + p)) (pos 0) (pos 0)
closed A16 x p q = make (pos (p * 256 + q)) (pos 0) (pos 0)
closed R16 x p q = make (pos (q * 256 + p)) (pos 0) (pos 0)
closed R8 x p q = make (short_of p) (pos 0) (pos 0)
closed D9B3R8 x p q = make (pos (x / 16 % 2 * 256 + p)) (pos (x % 8)) (short_of q)
closed D9R8 x p q = make (pos (x % 2 * 256 + p)) (short_of q) (pos 0)
closed RiR8 x p q = make (pos (x % 4)) (short_of p) (pos 0)
closed ImmR8 x p q = make (pos p) (short_of q) (pos 0)
closed RiImmR8 x p q = make (pos (x % 4)) (pos p) (short_of q)

says : (t : Shape) (s : List ℕ) → Bytes s → fields_by t s ≡ closed t (get_or s 0 0) (get_or s 1 0) (get_or s 2 0)
unfolding fields_by closed blank kinds_of
says Bare s h = make3 refl refl refl
says Imm s h = rw (low8 (get_or s 1 0) (h 1)) (simp (add-zero, zero-add) (make3 (ap pos (omega arith)) refl refl))
says D9 s h = rw (low8 (get_or s 1 0) (h 1)) (simp (add-zero, zero-add) (make3 (ap pos (omega arith)) refl refl))
says Ri s h = make3 (ap pos (omega arith)) refl refl
says ImmD9 s h = rw (low8 (get_or s 1 0) (h 1), low8 (get_or s 2 0) (h 2)) (simp (add-zero, zero-add) (make3 (ap pos (omega arith)) (ap pos (omega arith)) refl))
says ImmRi s h = rw (low8 (get_or s 1 0) (h 1)) (simp (add-zero, zero-add) (make3 (ap pos (omega arith)) (ap pos (omega arith)) refl))
says D9B3 s h = rw (low8 (get_or s 1 0) (h 1)) (simp (add-zero, zero-add, low3) (make3 (ap pos (omega arith)) (ap pos (omega arith)) refl))
says A12 s h = rw (low8 (get_or s 1 0) (h 1)) (simp (add-zero, zero-add, high3) (make3 (ap pos (omega arith)) refl refl))
says A16 s h = rw (high8 (get_or s 1 0) (h 1), low8 (get_or s 2 0) (h 2)) (simp (add-zero, zero-add) (make3 (ap pos (omega arith)) refl refl))
says R16 s h = rw (low8 (get_or s 1 0) (h 1), high8 (get_or s 2 0) (h 2)) (simp (add-zero, zero-add) (make3 (ap pos (omega arith)) refl refl))
says R8 s h = rw (low8 (get_or s 1 0) (h 1)) (simp (add-zero, zero-add) (make3 refl refl refl))
says D9B3R8 s h = rw (low8 (get_or s 1 0) (h 1), low8 (get_or s 2 0) (h 2))
    (simp (add-zero, zero-add, low3) (make3 (ap pos (omega arith)) (ap pos (omega arith)) refl))
says D9R8 s h = rw (low8 (get_or s 1 0) (h 1), low8 (get_or s 2 0) (h 2)) (simp (add-zero, zero-add) (make3 (ap pos (omega arith)) refl refl))
says RiR8 s h = rw (low8 (get_or s 1 0) (h 1)) (simp (add-zero, zero-add) (make3 (ap pos (omega arith)) refl refl))
says ImmR8 s h = rw (low8 (get_or s 1 0) (h 1), low8 (get_or s 2 0) (h 2)) (simp (add-zero, zero-add) (make3 (ap pos (omega arith)) refl refl))
says RiImmR8 s h = rw (low8 (get_or s 1 0) (h 1), low8 (get_or s 2 0) (h 2)) (simp (add-zero, zero-add) (make3 (ap pos (omega arith)) (ap pos (omega arith)) refl))

pub read : (t : Shape) (s : List ℕ) → Bytes s → closed t (get_or s 0 0) (get_or s 1 0) (get_or s 2 0) ≡ fields_by t s
read t s h = sym (says t s h)
