-- One line of a listing, without its byte 10. Document 01, 'The listing': tab-parted; each line has a letter and a position, and then by its
-- letter. Document 02, W1: `L`, `O` and `A` are judged by form only; an `I` line has the mnemonic and the fields of its bytes; `D` holds 1
-- to 16 bytes.
-- Assumes nothing.
use Rattle.std.specs.Prelude.{ℕ, Bool, true, false, cond, ◌&&◌, List, [], ◌∷◌, ◌++◌, eqb, length, get_or, drop}
use Prim.Native.Char.{code}
use Rattle.instruction.specs.declared.mode.Mode.{Mode}
use Rattle.text.specs.Bytes.{bytes_of, is_bytes}
use Rattle.text.specs.Cut.{fields}
use Rattle.text.specs.Four.{is_four, all_four, four_of}
use Rattle.text.specs.Same.{same}
use Rattle.listing.specs.Lines.{code_line}
use Rattle.read_back.specs.declared.place.Record.{Record}

-- its field with the number k, from 0; an empty one where there is none
abbrev pub field_on : ℕ → List ℕ → List ℕ
field_on k line = get_or (fields line) k []

-- its letter: the first byte
abbrev pub letter_on : List ℕ → ℕ
letter_on line = get_or line 0 0

-- its position: the field after the letter
abbrev pub position_on : List ℕ → ℕ
position_on line = four_of (field_on 1 line)

-- its bytes: the field after the position
abbrev pub bytes_on : List ℕ → List ℕ
bytes_on line = bytes_of (field_on 2 line)

-- all its fields after the position
abbrev pub further_on : List ℕ → List (List ℕ)
further_on line = drop 2 (fields line)

-- each line begins with a letter alone and a position of four digits
unfoldable pub is_start : List ℕ → Bool
is_start line = eqb (length (field_on 0 line)) 1 && is_four (field_on 1 line)

-- what stands after the position: nothing in `L`
abbrev pub is_label : List (List ℕ) → Bool
is_label [] = true
is_label (f ∷ fs) = false

-- one position or more in `O` and `A`
abbrev pub is_found : List (List ℕ) → Bool
is_found [] = false
is_found (f ∷ fs) = all_four (f ∷ fs)

-- one field of 1 to 16 bytes in `D`
abbrev pub is_data : List (List ℕ) → Bool
is_data [] = false
is_data (f ∷ []) = is_bytes 16 f
is_data (f ∷ g ∷ fs) = false

-- `I`, judged whole: the line is the one that the writer prints for these bytes at this position
unfoldable pub is_code : Mode → ℕ → List ℕ → List ℕ → Bool
is_code mode p bytes line = same (line ++ 10 ∷ []) (code_line mode p bytes)

-- by the letter
abbrev pub by_letter : Mode → ℕ → List ℕ → Bool
by_letter mode c line =
    cond (eqb c (code "L")) (is_label (further_on line))
    (cond (eqb c (code "O")) (is_found (further_on line))
    (cond (eqb c (code "A")) (is_found (further_on line))
    (cond (eqb c (code "I")) (is_code mode (position_on line) (bytes_on line) line)
    (cond (eqb c (code "D")) (is_data (further_on line)) false))))

unfoldable pub is_line : Mode → List ℕ → Bool
is_line mode line = is_start line && by_letter mode (letter_on line) line

-- `I` and `D` have bytes
abbrev pub has_bytes : ℕ → Bool
has_bytes c = cond (eqb c (code "I")) true (eqb c (code "D"))

-- the letter, the position, and how many bytes or further fields there are
unfoldable pub record_of : List ℕ → Record
record_of line = record {
  letter = letter_on line;
  position = position_on line;
  count = cond (has_bytes (letter_on line)) (length (bytes_on line)) (length (further_on line));
}
