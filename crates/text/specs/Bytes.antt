-- Bytes in upper-case hex, two digits each. Document 01, 'The listing': 'image bytes in upper-case hex'.
-- Assumes nothing.
use Rattle.std.specs.Prelude.{ℕ, ◌+◌, ◌*◌, Bool, ◌&&◌, List, [], ◌∷◌, eqb, leb, length}
use Rattle.text.specs.Hex.{digit_of, all_hex}

-- each two digits are a byte
unfoldable pub bytes_of : List ℕ → List ℕ
bytes_of [] = []
bytes_of (a ∷ []) = []
bytes_of (a ∷ b ∷ l) = (digit_of a * 16 + digit_of b) ∷ bytes_of l

-- 1 to `most` bytes, no digit left over, and nothing but digits
unfoldable pub is_bytes : ℕ → List ℕ → Bool
is_bytes most l = eqb (length l) (length (bytes_of l) * 2) && leb 1 (length (bytes_of l)) && leb (length (bytes_of l)) most && all_hex l
