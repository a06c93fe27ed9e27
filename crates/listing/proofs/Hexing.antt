-- Hex digits, bytes in hex one by one, and their length.
-- Assumes nothing.
use mathlib.Core.Path.{◌≡◌, refl}
use mathlib.Core.List.{List, [], ◌∷◌, ◌++◌}
use Prim.Native.Nat.{ℕ, ◌+◌, ◌*◌, ◌≤◌, ◌<◌}
use native.Mathlib.Numerals.{add-one}
use native.Mathlib.Omega.{arith}
use lib.ListN.{length, get_or, drop, drop_of_length-le, length-append}
use lib.Seq.{drop-cons}
use borrow.Author.Tests.{lt-ltb, le-ltb}
use Rattle.listing.specs.Hex.{letter_of, hex2, hex3, hex4, hexes}

-- one digit: up to 9, and from 10 on
module _ (d : ℕ) where
  pub low : d < 10 → 48 + d ≡ letter_of d
  low h = rw (lt-ltb d 10 h)

  pub high : 10 ≤ d → 55 + d ≡ letter_of d
  high h = rw (le-ltb d 10 h)

pub hexes_more : (bs : List ℕ) (i : ℕ) → i < length bs → hexes (drop i bs) ≡ hex2 (get_or bs i 0) ++ hexes (drop (i + 1) bs)
unfolding hexes
hexes_more bs i h = rw (add-one, drop-cons bs i 0)

pub hexes_end : (bs : List ℕ) (i : ℕ) → length bs ≤ i → hexes (drop i bs) ≡ []
unfolding hexes
hexes_end bs i h = rw (drop_of_length-le bs h)

pub hex2_length : (n : ℕ) → length (hex2 n) ≡ 2
unfolding hex2
hex2_length n = refl

pub hex3_length : (n : ℕ) → length (hex3 n) ≡ 3
unfolding hex3 hex2
hex3_length n = refl

pub hex4_length : (n : ℕ) → length (hex4 n) ≡ 4
unfolding hex4 hex3 hex2
hex4_length n = refl

pub hexes_length : (bs : List ℕ) → length (hexes bs) ≡ 2 * length bs
unfolding hexes
hexes_length [] = refl
hexes_length (b ∷ bs) = omega (arith, length-append (hex2 b) (hexes bs), hex2_length b, hexes_length bs)
