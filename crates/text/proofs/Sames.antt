-- Two texts, compared byte by byte.
-- Assumes nothing.
use mathlib.Core.Path.{◌≡◌, refl, sym, ap, ap₂}
use mathlib.Core.Bool.{Bool, true, false, ◌&&◌}
use mathlib.Core.List.{List, [], ◌∷◌, ◌++◌}
use Prim.Native.Nat.{ℕ, suc}
use native.Mathlib.Omega.{arith}
use borrow.Author.Tests.{eqb-true, eq-eqb}
use lib.Dec.{eqb}
use lib.ListN.{length, get_or, take}
use Rattle.instruction.proofs.Sign.{never}
use Rattle.instruction.proofs.Ands.{first_part, second_part}
use Rattle.std.specs.Cmp.Lexicographic.{pointwise}
use Rattle.text.specs.Same.{same}

pub same_true : (s t : List ℕ) → same s t ≡ true → s ≡ t
unfolding same
same_true [] [] e = refl
same_true [] (b ∷ t) e = absurd (never (sym e))
same_true (a ∷ s) [] e = absurd (never (sym e))
same_true (a ∷ s) (b ∷ t) e = ap₂ (λ (x : ℕ) (l : List ℕ). x ∷ l) (eqb-true a b (first_part (eqb a b) (same s t) e))
    (same_true s t (second_part (eqb a b) (same s t) e))

pub same_false : (s t : List ℕ) → (s ≡ t → ⊥) → same s t ≡ false
same_false s t n = by (same s t) refl
  where
    by : (b : Bool) → same s t ≡ b → same s t ≡ false
    by true e = absurd (n (same_true s t e))
    by false e = e

pub other_length : (s t : List ℕ) → (length s ≡ length t → ⊥) → same s t ≡ false
other_length s t n = same_false s t (λ e. n (ap length e))

-- as the library compares two slices
pub by_bytes : (s t : List ℕ) → pointwise eqb s t ≡ same s t
unfolding same
by_bytes [] [] = refl
by_bytes [] (b ∷ t) = refl
by_bytes (a ∷ s) [] = refl
by_bytes (a ∷ s) (b ∷ t) = ap (λ (x : Bool). eqb a b && x) (by_bytes s t)

-- a text whose last byte is c, compared without it
pub same_but_last : (s t : List ℕ) (c : ℕ) → length t ≡ suc (length s) → get_or t (length s) 0 ≡ c → same (s ++ c ∷ []) t ≡ same s (take (length s) t)
unfolding same
same_but_last [] [] c l e = absurd (omega arith)
same_but_last [] (b ∷ []) c l e = rw (eq-eqb c b (sym e))
same_but_last [] (b ∷ b' ∷ t) c l e = absurd (omega arith)
same_but_last (a ∷ s) [] c l e = absurd (omega arith)
same_but_last (a ∷ s) (b ∷ t) c l e = ap (λ (x : Bool). eqb a b && x) (same_but_last s t c (omega arith) e)
