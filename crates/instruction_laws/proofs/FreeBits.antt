-- The arithmetic of a first byte: its fixed bits t and what its free bits hold of the numbers, written again and read again.
-- Assumes nothing.
use mathlib.Core.Path.{◌≡◌, ◌∙◌}
use Prim.Native.Nat.{ℕ, ◌+◌, ◌*◌, ◌/◌, ◌%◌, ◌<◌}
use native.Mathlib.Omega.{arith}

-- ---- a first byte x written again, where its bit 4 and its bits 0 to 2 are of one number or of two

wrapped : (t e f x : ℕ) → e ≡ f → t + f ≡ x → x < 256 → (t + e) % 256 ≡ x
wrapped t e f x p q h = omega arith

of_nine : (d b p : ℕ) → d < 2 → b < 8 → p < 256 → (d * 256 + p) / 256 % 2 * 16 + b % 8 ≡ d * 16 + b
of_nine d b p h k l = omega arith

of_twelve : (d b p : ℕ) → d < 2 → b < 8 → p < 256 → ((d * 8 + b) * 256 + p) / 2048 % 2 * 16 + ((d * 8 + b) * 256 + p) / 256 % 8 ≡ d * 16 + b
of_twelve d b p h k l = omega arith

module _ (t x p : ℕ) (h : x < 256) (l : p < 256) (e : t + (x / 16 % 2 * 16 + x % 8) ≡ x) where
  pub again_nine : (t + ((x / 16 % 2 * 256 + p) / 256 % 2 * 16 + x % 8 % 8)) % 256 ≡ x
  again_nine = wrapped t _ (x / 16 % 2 * 16 + x % 8) x (of_nine (x / 16 % 2) (x % 8) p (omega arith) (omega arith) l) e h

  pub again_twelve : (t + (((x / 16 % 2 * 8 + x % 8) * 256 + p) / 2048 % 2 * 16 + ((x / 16 % 2 * 8 + x % 8) * 256 + p) / 256 % 8)) % 256 ≡ x
  again_twelve = wrapped t _ (x / 16 % 2 * 16 + x % 8) x (of_twelve (x / 16 % 2) (x % 8) p (omega arith) (omega arith) l) e h

-- ---- numbers read again

-- the free bits hold what was put there
put : (t e f : ℕ) {u : ℕ} → e < 256 → u ≡ (t + e) % 256 → t + f ≡ u → f ≡ e
put t e f h p q = omega arith

split : (a b c d : ℕ) → b < 8 → d < 8 → a * 16 + b ≡ c * 16 + d → (a ≡ c) × (b ≡ d)
split a b c d h k e = (omega arith, omega arith)

-- a number and its parts
pub nil : (n : ℕ) → n < 1 → 0 ≡ n
nil n h = omega arith

two : (n : ℕ) → n < 4 → n % 4 ≡ n
two n h = omega arith

three : (n : ℕ) → n < 8 → n % 8 ≡ n
three n h = omega arith

pub byte : (n : ℕ) → n < 256 → n % 256 ≡ n
byte n h = omega arith

nine : (n d : ℕ) → n < 512 → d ≡ n / 256 % 2 → d * 256 + n % 256 ≡ n
nine n d h e = omega arith

twelve : (n d b : ℕ) → n < 4096 → d ≡ n / 2048 % 2 → b ≡ n / 256 % 8 → (d * 8 + b) * 256 + n % 256 ≡ n
twelve n d b h e f = omega arith

-- by what a first byte u holds: bit 8 of n; two bits of n; bit 8 of n and three bits of m; bits 11 to 8 of n
module _ (t u n : ℕ) where
  pub bit8 : n < 512 → u ≡ (t + n / 256 % 2) % 256 → t + u % 2 ≡ u → u % 2 * 256 + n % 256 ≡ n
  bit8 h p e = nine n (u % 2) h (put t (n / 256 % 2) (u % 2) (omega arith) p e)

  pub low2 : n < 4 → u ≡ (t + n % 4) % 256 → t + u % 4 ≡ u → u % 4 ≡ n
  low2 h p e = put t (n % 4) (u % 4) (omega arith) p e ∙ two n h

  both : (d b : ℕ) → d < 2 → b < 8 → u ≡ (t + (d * 16 + b)) % 256 → t + (u / 16 % 2 * 16 + u % 8) ≡ u → (u / 16 % 2 ≡ d) × (u % 8 ≡ b)
  both d b h k p e = split (u / 16 % 2) (u % 8) d b (omega arith) k (put t (d * 16 + b) (u / 16 % 2 * 16 + u % 8) (omega arith) p e)

  pub bit8b3 : (m : ℕ) → n < 512 → m < 8 → u ≡ (t + (n / 256 % 2 * 16 + m % 8)) % 256 → t + (u / 16 % 2 * 16 + u % 8) ≡ u
      → (u / 16 % 2 * 256 + n % 256 ≡ n) × (u % 8 ≡ m)
  bit8b3 m h k p e = let r = both (n / 256 % 2) (m % 8) (omega arith) (omega arith) p e in (nine n (u / 16 % 2) h r.0, r.1 ∙ three m k)

  pub high4 : n < 4096 → u ≡ (t + (n / 2048 % 2 * 16 + n / 256 % 8)) % 256 → t + (u / 16 % 2 * 16 + u % 8) ≡ u → (u / 16 % 2 * 8 + u % 8) * 256 + n % 256 ≡ n
  high4 h p e = let r = both (n / 2048 % 2) (n / 256 % 8) (omega arith) (omega arith) p e in twelve n (u / 16 % 2) (u % 8) h r.0 r.1
