-- Laws of the data run: where it goes on, and where it ends.
-- Assumes nothing.
use mathlib.Core.Path.{◌≡◌, refl, sym, ap, ◌∙◌}
use mathlib.Core.Bool.{Bool, true, false, cond, ◌&&◌}
use mathlib.Core.List.{List, [], ◌∷◌}
use Prim.Native.Nat.{ℕ, zero, suc, ◌+◌, ◌-◌, ◌≤◌, ◌<◌}
use native.Mathlib.Nat.{not-suc-le-zero, le_of_suc-le-suc}
use native.Mathlib.Numerals.{add-one, sub-one}
use native.Mathlib.Omega.{arith}
use borrow.Author.Tests.{le-ltb, lt-ltb, ltb-true}
use lib.Dec.{eqb, ltb}
use lib.ListN.{length, get_or, take, drop, drop_of_length-le}
use lib.Seq.{take-nil}
use Rattle.std.specs.List.{prefix_len, range_with_len}
use Rattle.views.specs.Positions.{up_from}
use Rattle.views.specs.DataRun.{leading, is_data, run_length, data_run}

-- inside a list, the default is not read
get_d_any : (l : List ℕ) (i d e : ℕ) → i < length l → get_or l i d ≡ get_or l i e
get_d_any [] i d e h = absurd (not-suc-le-zero h)
get_d_any (x ∷ l) zero d e h = refl
get_d_any (x ∷ l) (suc i) d e h = get_d_any l i d e (le_of_suc-le-suc h)

module _ (image mask : List ℕ) (b : ℕ) where
  pub no_byte : length image ≤ b → false ≡ is_data image mask b
  no_byte h = rw (le-ltb b (length image) h)

  pub by_mask : b < length image → b < length mask → eqb (get_or mask b 0) 0 ≡ is_data image mask b
  by_mask i h = rw (lt-ltb b (length image) i, get_d_any mask b 1 0 h)

  pub data_inside : is_data image mask b ≡ true → b < length image
  data_inside e = by (ltb b (length image)) refl
    where
      by : (t : Bool) → ltb b (length image) ≡ t → b < length image
      by true f = ltb-true b (length image) f
      by false f = absurd (let z : false ≡ true = sym (ap (λ (t : Bool). t && eqb (get_or mask b 1) 0) f) ∙ e in let y : ◌≡◌ {A = ℕ} 0 1 = cc in omega arith)

module _ (f : ℕ → Bool) where
  pub leading_on : (k at : ℕ) → 0 < k → f at ≡ true → leading f (up_from k at) ≡ suc (leading f (up_from (k - 1) (at + 1)))
  unfolding leading up_from
  leading_on zero at p h = absurd (not-suc-le-zero p)
  leading_on (suc k) at p h = rw (h, sub-one, add-one)

-- the library counts them alike
pub leading_prefix : (f : ℕ → Bool) (k at : ℕ) → prefix_len f (range_with_len at k) ≡ leading f (up_from k at)
unfolding leading up_from
leading_prefix f zero at = refl
leading_prefix f (suc k) at = by (f at) (leading_prefix f k (suc at))
  where
    by : (t : Bool) → prefix_len f (range_with_len (suc at) k) ≡ leading f (up_from k (suc at))
        → cond t (1 + prefix_len f (range_with_len (at + 1) k)) 0 ≡ cond t (suc (leading f (up_from k (suc at)))) 0
    by true g = rw (add-one, g) (omega arith)
    by false g = refl

-- positions that pass a test one after another, all below n, are at most those from p to n
pub leading_in : (f : ℕ → Bool) (n : ℕ) → ((b : ℕ) → f b ≡ true → b < n) → (k p : ℕ) → p ≤ n → p + leading f (up_from k p) ≤ n
unfolding leading up_from
leading_in f n inside zero p h = omega arith
leading_in f n inside (suc k) p h = by (f p) refl (leading_in f n inside k (suc p))
  where
    by : (t : Bool) → f p ≡ t → (suc p ≤ n → suc p + leading f (up_from k (suc p)) ≤ n) → p + cond t (suc (leading f (up_from k (suc p)))) 0 ≤ n
    by true e g = omega (arith, g (inside p e))
    by false e g = omega arith

pub run_past : (image mask : List ℕ) (p : ℕ) → length image ≤ p → [] ≡ data_run image mask p
unfolding data_run
run_past image mask p h = rw (drop_of_length-le image h, take-nil)

pub run_in : (image mask : List ℕ) (p n : ℕ) → n ≡ run_length image mask p → take ((p + n) - p) (drop p image) ≡ data_run image mask p
unfolding data_run
run_in image mask p n e = let z : (p + n) - p ≡ n = omega arith in rw (z, e)
