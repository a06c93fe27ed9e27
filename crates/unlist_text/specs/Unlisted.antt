-- What `unlist` prints of a listing read back: the image as the listing program's image lines, or one line of `R`, tab, the number of the
-- refusal, tab, its value. The program is ours: document 02, W1 asks for the reader that it stands on, and not for it.
-- Assumes nothing.
use Rattle.std.specs.Prelude.{ℕ, zero, suc, List, [], ◌∷◌, ◌++◌, ℤ, nat_abs, length, take, drop, replicate}
use Rattle.instruction.specs.Answer.{Answer, accepted, refused}
use Rattle.instruction.specs.declared.mode.Mode.TheVariants.{Unwrapped}
use Rattle.listing.specs.Hex.{hexes}
use Rattle.read_back.specs.Back.{back_answer, back_image}
use Rattle.list_text.specs.Refusal.{value_line}

-- bytes on k lines at most, 32 to a line, each ended by byte 10
unfoldable pub lines_of : ℕ → List ℕ → List ℕ
lines_of zero bytes = []
lines_of (suc k) [] = []
lines_of (suc k) (b ∷ bs) = hexes (take 32 (b ∷ bs)) ++ 10 ∷ lines_of k (drop 32 (b ∷ bs))

-- an image as image lines, the last of 1 to 32 bytes
unfoldable pub image_text : List ℕ → List ℕ
image_text bytes = lines_of (length bytes) bytes

-- the one value of a refusal
abbrev pub value_of : List ℤ → ℕ
value_of [] = 0
value_of (v ∷ vs) = nat_abs v

-- the image and the marks that a listing of n bytes is read into
abbrev pub empty_room : ℕ → List ℕ
empty_room n = replicate n 0

-- of this image, or of the refusal
abbrev pub printed : List ℕ → Answer ℕ → List ℕ
printed image (accepted k) = image_text image
printed image (refused r vs) = value_line r (value_of vs)

unfoldable pub unlisted_of : List ℕ → ℕ → List ℕ
unlisted_of text n = let room = empty_room n in printed (back_image Unwrapped text n room room) (back_answer Unwrapped text n room room)
