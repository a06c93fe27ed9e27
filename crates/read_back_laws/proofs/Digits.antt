-- Hex as the writer prints it, read back: its digits are digits, and the numbers come back.
-- Assumes nothing.
use mathlib.Core.Path.{◌≡◌, refl, ap}
use mathlib.Core.Bool.{Bool, true, false}
use mathlib.Core.List.{List, [], ◌∷◌, ◌++◌}
use Prim.Native.Nat.{ℕ, ◌+◌, ◌*◌, ◌/◌, ◌%◌, ◌<◌}
use native.Mathlib.Nat.{mod-lt, div-div-eq-div-mul}
use native.Mathlib.Omega.{arith}
use lib.Dec.{T, ltb, eqb, eqb→eq, lit<}
use Rattle.instruction.proofs.Every.{holds}
use Rattle.text.specs.Bytes.{bytes_of}
use Rattle.text.specs.Four.{four_of}
use Rattle.text.specs.Hex.{digit_of, all_hex}
use Rattle.listing.specs.Hex.{letter_of, hex1, hex2, hex3, hex4, hexes}
pub use Rattle.read_back.proofs.HexBack.{digit_is, bytes_hex}

is : (b : Bool) → T b → b ≡ true
is true t = refl
is false t = absurd t

sixteenth : (n : ℕ) → n % 16 < 16
sixteenth n = mod-lt n (lit< tt)

pub digit_back : (n : ℕ) → digit_of (hex1 n) ≡ n % 16
unfolding hex1 digit_of
digit_back n = eqb→eq _ _ (holds (λ k. eqb (digit_of (letter_of k)) k) 16 tt (n % 16) (sixteenth n))

-- no digit is a tab or a byte 10
pub digit_above : (n : ℕ) → ltb 10 (hex1 n) ≡ true
unfolding hex1
digit_above n = is _ (holds (λ k. ltb 10 (letter_of k)) 16 tt (n % 16) (sixteenth n))

-- four digits
sum : (p a b c d x y z : ℕ) → p ≡ a * 16 + z → a ≡ b * 16 + y → b ≡ c * 16 + x → c ≡ d → ((d * 16 + x) * 16 + y) * 16 + z ≡ p
sum p a b c d x y z e f g h = omega arith

halved : (n a : ℕ) → n / 16 ≡ a → n ≡ a * 16 + n % 16
halved n a e = omega arith

four : (p : ℕ) → p < 65536 → ((p / 4096 % 16 * 16 + p / 256 % 16) * 16 + p / 16 % 16) * 16 + p % 16 ≡ p
four p h =
    sum p (p / 16) (p / 256) (p / 4096) (p / 4096 % 16) (p / 256 % 16) (p / 16 % 16) (p % 16)
    (halved p (p / 16) refl) (halved (p / 16) (p / 256) (div-div-eq-div-mul p 16 16)) (halved (p / 256) (p / 4096) (div-div-eq-div-mul p 256 16)) (omega arith)

pub four_back : (p : ℕ) (t : List ℕ) → p < 65536 → four_of (hex4 p ++ t) ≡ p
unfolding four_of hex4 hex3 hex2
four_back p t h = rw (digit_back (p / 4096), digit_back (p / 256), digit_back (p / 16), digit_back p) (four p h)

pub four_hex : (p : ℕ) → all_hex (hex4 p) ≡ true
unfolding all_hex hex4 hex3 hex2
four_hex p = rw (digit_is (p / 4096), digit_is (p / 256), digit_is (p / 16), digit_is p)

-- each of these is a byte
abbrev pub Small : List ℕ → Type 0
Small [] = Unit {0}
Small (b ∷ bs) = (b < 256) × Small bs

pub bytes_back : (bs : List ℕ) → Small bs → bytes_of (hexes bs) ≡ bs
unfolding bytes_of hexes hex2
bytes_back [] s = refl
bytes_back (b ∷ bs) s =
    let h : b < 256 = s.0 in
    let e : b / 16 % 16 * 16 + b % 16 ≡ b = omega arith in
    rw (digit_back (b / 16), digit_back b, e) (ap (λ (l : List ℕ). b ∷ l) (bytes_back bs s.1))
