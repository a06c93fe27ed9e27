-- One word of the command line of `dis`. The program is ours: the documents ask for the library under it, and not for it.
-- Assumes nothing.
use Rattle.std.specs.Prelude.{ℕ, ◌+◌, ◌*◌, ◌-◌, Bool, true, cond, ◌&&◌, List, [], ◌∷◌, leb, ltb, length, Option, Some, None}
use Prim.Native.Char.{code}
use Prim.Native.String.{String, [] as none, ◌∷◌ as ◌then◌}
use Rattle.text.specs.Hex.{within, value_of}
use Rattle.text.specs.Same.{same}
use Rattle.dis_text.specs.declared.word.Word.{Word}
use Rattle.dis_text.specs.declared.word.Word.TheVariants.{Number, Wraps, NoArrivals, Pin}

-- the bytes of a text
unfoldable pub codes : String → List ℕ
codes none = []
codes (c then s) = code c ∷ codes s

-- the value of a hex digit of either case; 65,536, which none has, for any other byte
abbrev pub value_in : ℕ → ℕ
value_in b = cond (within 97 102 b) (b - 87) (value_of b)

-- every byte is such a digit
unfoldable pub all_digits : List ℕ → Bool
all_digits [] = true
all_digits (b ∷ bs) = ltb (value_in b) 16 && all_digits bs

-- digits after others, which stand for n
unfoldable pub number_from : ℕ → List ℕ → ℕ
number_from n [] = n
number_from n (b ∷ bs) = number_from (n * 16 + value_in b) bs

-- 1 to 4 digits
unfoldable pub is_number : List ℕ → Bool
is_number w = leb 1 (length w) && leb (length w) 4 && all_digits w

-- the number that a word stands for, if it does
unfoldable pub number_in : List ℕ → Option ℕ
number_in w = cond (is_number w) (Some (number_from 0 w)) None

-- none where it is none of these
unfoldable pub word_of : List ℕ → Option Word
word_of w =
    cond (same w (codes "--wrapping")) (Some Wraps)
    (cond (same w (codes "--no-arrivals")) (Some NoArrivals)
    (cond (same w (codes "--pin")) (Some Pin)
    (cond (is_number w) (Some (Number (number_from 0 w))) None)))
