-- What a shape writes, in closed form, for the numbers x, y and z of its operands: a number's bits, each at its place, are the number.
-- Assumes nothing.
use Rattle.std.proofs.Common.{◌≡◌, ℕ, ◌+◌, ◌*◌, ◌/◌, ◌%◌, List, [], ◌∷◌, length, take, sym, refl, ap, add-zero, zero-add, arith}
use Rattle.instruction.specs.declared.kind.Shape.{Shape}
use Rattle.instruction.specs.declared.kind.Shape.TheVariants.{Bare, Imm, D9, Ri, ImmD9, ImmRi, D9B3, A12, A16, R16, R8, D9B3R8, D9R8, RiR8, ImmR8}
use Rattle.instruction.specs.declared.kind.Shape.TheVariants.{RiImmR8}
use Rattle.instruction.specs.Layout.{blank, bytes_by}
use Rattle.instruction.proofs.Bits.{sum8_is, high_is, low2_is, low3, high3_is}

-- the bytes with the fixed bits t; only as many count as the shape has
unfoldable pub written : Shape → ℕ → ℕ → ℕ → ℕ → List ℕ
written Bare t x y z = t % 256 ∷ 0 ∷ 0 ∷ []
written Imm t x y z = t % 256 ∷ x % 256 ∷ 0 ∷ []
written D9 t x y z = (t + x / 256 % 2) % 256 ∷ x % 256 ∷ 0 ∷ []
written Ri t x y z = (t + x % 4) % 256 ∷ 0 ∷ 0 ∷ []
written ImmD9 t x y z = (t + y / 256 % 2) % 256 ∷ y % 256 ∷ x % 256 ∷ []
written ImmRi t x y z = (t + y % 4) % 256 ∷ x % 256 ∷ 0 ∷ []
written D9B3 t x y z = (t + (x / 256 % 2 * 16 + y % 8)) % 256 ∷ x % 256 ∷ 0 ∷ []
written A12 t x y z = (t + (x / 2048 % 2 * 16 + x / 256 % 8)) % 256 ∷ x % 256 ∷ 0 ∷ []
written A16 t x y z = t % 256 ∷ x / 256 % 256 ∷ x % 256 ∷ []
written R16 t x y z = t % 256 ∷ x % 256 ∷ x / 256 % 256 ∷ []
written R8 t x y z = t % 256 ∷ x % 256 ∷ 0 ∷ []
written D9B3R8 t x y z = (t + (x / 256 % 2 * 16 + y % 8)) % 256 ∷ x % 256 ∷ z % 256 ∷ []
written D9R8 t x y z = (t + x / 256 % 2) % 256 ∷ x % 256 ∷ y % 256 ∷ []
written RiR8 t x y z = (t + x % 4) % 256 ∷ y % 256 ∷ 0 ∷ []
written ImmR8 t x y z = t % 256 ∷ x % 256 ∷ y % 256 ∷ []
written RiImmR8 t x y z = (t + x % 4) % 256 ∷ y % 256 ∷ z % 256 ∷ []

pub cons : {u u' : ℕ} {s s' : List ℕ} → u ≡ u' → s ≡ s' → u ∷ s ≡ u' ∷ s'
cons p q = cc

-- a first byte of equal bits on the same fixed ones
on : (t : ℕ) {m n : ℕ} → m ≡ n → (t + m) % 256 ≡ (t + n) % 256
on t e = ap (λ (m : ℕ). (t + m) % 256) e

says : (s : Shape) (t x y z : ℕ) → bytes_by t s (x ∷ y ∷ z ∷ []) ≡ take (length (blank s)) (written s t x y z)
unfolding blank written bytes_by
says Bare t x y z = cons (omega arith) refl
says Imm t x y z = cons (omega arith) (cons (sum8_is x) refl)
says D9 t x y z = cons (omega arith) (cons (sum8_is x) refl)
says Ri t x y z = cons (on t (simp (add-zero, zero-add, low2_is) refl)) refl
says ImmD9 t x y z = cons (omega arith) (cons (sum8_is y) (cons (sum8_is x) refl))
says ImmRi t x y z = cons (on t (simp (add-zero, zero-add, low2_is) refl)) (cons (sum8_is x) refl)
says D9B3 t x y z = cons (on t (simp (add-zero, zero-add, low3) refl)) (cons (sum8_is x) refl)
says A12 t x y z = cons (on t (simp (add-zero, zero-add, high3_is) refl)) (cons (sum8_is x) refl)
says A16 t x y z = cons (omega arith) (cons (high_is x) (cons (sum8_is x) refl))
says R16 t x y z = cons (omega arith) (cons (sum8_is x) (cons (high_is x) refl))
says R8 t x y z = cons (omega arith) (cons (sum8_is x) refl)
says D9B3R8 t x y z = cons (on t (simp (add-zero, zero-add, low3) refl)) (cons (sum8_is x) (cons (sum8_is z) refl))
says D9R8 t x y z = cons (omega arith) (cons (sum8_is x) (cons (sum8_is y) refl))
says RiR8 t x y z = cons (on t (simp (add-zero, zero-add, low2_is) refl)) (cons (sum8_is y) refl)
says ImmR8 t x y z = cons (omega arith) (cons (sum8_is x) (cons (sum8_is y) refl))
says RiImmR8 t x y z = cons (on t (simp (add-zero, zero-add, low2_is) refl)) (cons (sum8_is y) (cons (sum8_is z) refl))

pub write : (s : Shape) (t x y z : ℕ) → take (length (blank s)) (written s t x y z) ≡ bytes_by t s (x ∷ y ∷ z ∷ [])
write s t x y z = sym (says s t x y z)
