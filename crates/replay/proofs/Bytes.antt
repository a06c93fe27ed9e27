-- Bytes held as one number.
-- Assumes nothing.
use Prim.Native.Nat.{ℕ, zero, suc, ◌/◌, ◌<◌, ◌≤◌}
use native.Mathlib.Omega.{arith}
use mathlib.Core.Path.{◌≡◌, refl, sym, ap, ◌∙◌}
use mathlib.Core.Bool.{Bool, true, false, ◌||◌}
use mathlib.Core.List.{List, [], ◌∷◌, ◌++◌}
use lib.Dec.{eqb}
use lib.ListN.{length, take, drop, replicate}
use borrow.Author.Tests.{eqb-true, eqb-false, eq-eqb, ne_eqb}
use Rattle.std.specs.Int.{w64, to_le_bytes, from_le_bytes}
use Rattle.std.specs.List.{list_any}
use Rattle.views.specs.Positions.{some}
use Rattle.replay.specs.Log.{number_of, bytes_in}

-- ---- a byte 10 among them

same_test : (x y : ℕ) → eqb x y ≡ eqb y x
same_test x y = by (eqb y x) refl
  where
    by : (b : Bool) → eqb y x ≡ b → eqb x y ≡ b
    by true e = eq-eqb x y (sym (eqb-true y x e))
    by false e = ne_eqb x y (λ z. eqb-false y x e (sym z))

pub any_ten : (l : List ℕ) → list_any (λ y. eqb y 10) l ≡ some (eqb 10) l
unfolding some
any_ten [] = refl
any_ten (x ∷ l) = ap (λ (b : Bool). b || list_any (λ y. eqb y 10) l) (same_test x 10) ∙ ap (λ (b : Bool). eqb 10 x || b) (any_ten l)

-- ---- the number: that of eight bytes, of which those that are not held are 0

pub number_held : (l : List ℕ) → length l < 7 → from_le_bytes w64 (l ++ drop (length l) (replicate 8 0)) ≡ number_of l
unfolding number_of
number_held [] h = refl
number_held (a ∷ []) h = omega arith
number_held (a ∷ b ∷ []) h = omega arith
number_held (a ∷ b ∷ c ∷ []) h = omega arith
number_held (a ∷ b ∷ c ∷ d ∷ []) h = omega arith
number_held (a ∷ b ∷ c ∷ d ∷ e ∷ []) h = omega arith
number_held (a ∷ b ∷ c ∷ d ∷ e ∷ f ∷ []) h = omega arith
number_held (a ∷ b ∷ c ∷ d ∷ e ∷ f ∷ g ∷ l) h = absurd (omega arith)

-- ---- written out again

second : (n : ℕ) → n / 256 / 256 ≡ n / 65536
second n = omega arith

third : (n : ℕ) → n / 65536 / 256 ≡ n / 16777216
third n = omega arith

fourth : (n : ℕ) → n / 16777216 / 256 ≡ n / 4294967296
fourth n = omega arith

fifth : (n : ℕ) → n / 4294967296 / 256 ≡ n / 1099511627776
fifth n = omega arith

pub bytes_held : (k n : ℕ) → k ≤ 6 → take k (to_le_bytes w64 n) ≡ bytes_in k n
unfolding bytes_in
bytes_held zero n h = refl
bytes_held (suc zero) n h = refl
bytes_held (suc (suc zero)) n h = refl
bytes_held (suc (suc (suc zero))) n h = rw (second n) refl
bytes_held (suc (suc (suc (suc zero)))) n h = rw (second n, third n) refl
bytes_held (suc (suc (suc (suc (suc zero))))) n h = rw (second n, third n, fourth n) refl
bytes_held (suc (suc (suc (suc (suc (suc zero)))))) n h = rw (second n, third n, fourth n, fifth n) refl
bytes_held (suc (suc (suc (suc (suc (suc (suc k))))))) n h = absurd (omega arith)
