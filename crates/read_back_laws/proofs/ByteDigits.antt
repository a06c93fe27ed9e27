-- Bytes written in hex are digits, and are read as the same bytes.
-- Assumes nothing.
use mathlib.Core.Path.{◌≡◌, refl, sym, ap, ◌∙◌}
use mathlib.Core.Bool.{true, false}
use mathlib.Core.List.{List, [], ◌∷◌}
use Prim.Native.Nat.{ℕ, suc, ◌*◌, ◌≤◌}
use native.Mathlib.Omega.{arith}
use lib.Dec.{eqb}
use lib.ListN.{length}
use borrow.Author.Tests.{le-leb, eq-eqb, ne_eqb}
use Rattle.instruction.specs.Bytes.{Bytes}
use Rattle.instruction.proofs.Sign.{never}
use Rattle.text.specs.Bytes.{bytes_of, is_bytes}
use Rattle.text.specs.Cut.{up_to}
use Rattle.text.specs.Hex.{is_digit, all_hex}
use Rattle.instruction.proofs.Ands.{first_part, second_part}
use Rattle.listing.specs.Hex.{hexes}
use Rattle.listing.proofs.Hexing.{hexes_length}
use Rattle.read_back_laws.proofs.Digits.{Small, bytes_back, bytes_hex}

-- no digit is a byte 10
pub not_ten : (b : ℕ) → is_digit b ≡ true → eqb b 10 ≡ false
not_ten b e = ne_eqb b 10 (λ f. never (sym e ∙ ap is_digit f))

-- so digits are whole as a line
digits_whole : (l : List ℕ) → all_hex l ≡ true → up_to 10 l ≡ l
unfolding all_hex up_to
digits_whole [] e = refl
digits_whole (b ∷ l) e =
    rw (not_ten b (first_part (is_digit b) (all_hex l) e)) (ap (λ (t : List ℕ). b ∷ t) (digits_whole l (second_part (is_digit b) (all_hex l) e)))

pub hexes_whole : (l : List ℕ) → up_to 10 (hexes l) ≡ hexes l
hexes_whole l = digits_whole (hexes l) (bytes_hex l)

small : (l : List ℕ) → Bytes l → Small l
small [] B = tt
small (b ∷ l) B = (B 0, small l (λ p. B (suc p)))

pub hexes_bytes : (l : List ℕ) → Bytes l → bytes_of (hexes l) ≡ l
hexes_bytes l B = bytes_back l (small l B)

-- they are a line of image bytes
pub hexes_line : (l : List ℕ) → Bytes l → 1 ≤ length l → length l ≤ 32 → is_bytes 32 (hexes l) ≡ true
unfolding is_bytes
hexes_line l B h k =
    let e = hexes_length l in
    rw (hexes_bytes l B, eq-eqb (length (hexes l)) (length l * 2) (omega arith), le-leb 1 (length l) h, le-leb (length l) 32 k, bytes_hex l)
