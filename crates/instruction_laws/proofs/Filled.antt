-- A byte that fills a pattern has the pattern's fixed bits, whatever the numbers.
-- Assumes nothing.
use mathlib.Core.Path.{◌≡◌}
use mathlib.Core.Bool.{Bool, true, false, ◌&&◌}
use mathlib.Core.List.{List, [], ◌∷◌}
use Prim.Native.Nat.{ℕ, ◌+◌, ◌*◌, ◌/◌, ◌%◌, ◌^◌, ◌<◌}
use native.Mathlib.Omega.{arith}
use native.Mathlib.Nat.{pow-suc, mul-add-div_right, div-eq_of_lt, zero-add, zero-mul}
use lib.Dec.{T}
use lib.ListN.{length}
use Rattle.instruction.specs.Pattern.{Bit, O, I, of, fixed, agrees, bit_for, value}
use Rattle.instruction.proofs.Writing.{value_lt}

both : (a b : Bool) → T a → T b → T (a && b)
both true b s t = t
both false b s t = absurd s

fixed_digit : (b : Bit) (ns : List ℕ) (d : ℕ) → d ≡ bit_for b ns % 2 → T (fixed b d)
fixed_digit O ns d e = rw e tt
fixed_digit I ns d e = rw e tt
fixed_digit (of l k) ns d e = tt

-- a bit d above the places of v < m, below those of h
regrouped : (h d v m : ℕ) → h * (m * 2) + (d * m + v) ≡ (h * 2 + d) * m + v
regrouped h d v m = omega arith

bit_at : (h d v m : ℕ) → v < m → ((h * 2 + d) * m + v) / m % 2 ≡ d % 2
bit_at h d v m l = rw (mul-add-div_right {m = m} (omega arith) (h * 2 + d) v, div-eq_of_lt l) (omega arith)

above : (p : List Bit) (ns : List ℕ) (h : ℕ) → T (agrees p (h * 2 ^ length p + value p ns))
above [] ns h = tt
above (b ∷ p) ns h =
    rw (pow-suc, regrouped)
    (both (fixed b _) (agrees p _) (fixed_digit b ns _ (bit_at h (bit_for b ns) (value p ns) (2 ^ length p) (value_lt p ns))) (above p ns (h * 2 + bit_for b ns)))

pub filled_agrees : (p : List Bit) (ns : List ℕ) → T (agrees p (value p ns))
filled_agrees p ns = rw (zero-mul, zero-add) at (above p ns 0)
