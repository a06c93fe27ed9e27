-- A line by the places of its bytes: serves inner functions alone. The letter is the first, the position stands from the third on, and what
-- follows it from the seventh.
-- Assumes nothing.
use Rattle.std.specs.Prelude.{ℕ, ◌/◌, ◌≤◌, Bool, true, false, cond, ◌&&◌, List, [], ◌∷◌, eqb, leb, length, get_or, take, drop, ◌≡◌}
use Prim.Native.Char.{code}
use Rattle.instruction.specs.declared.mode.Mode.{Mode}
use Rattle.text.specs.Bytes.{bytes_of, is_bytes}
use Rattle.text.specs.Cut.{up_to}
use Rattle.text.specs.Four.{four_of}
use Rattle.text.specs.Hex.{all_hex}
use Rattle.read_back.specs.Line.{field_on, letter_on, position_on, bytes_on, further_on, is_code, has_bytes}
use Rattle.read_back.specs.declared.place.Record.{Record}

abbrev pub position_at : List ℕ → ℕ
position_at line = four_of (drop 2 line)

-- the digits from its eighth byte to a tab or the end
abbrev pub digits_at : List ℕ → List ℕ
digits_at line = up_to 9 (drop 7 line)

abbrev pub bytes_at : List ℕ → List ℕ
bytes_at line = bytes_of (digits_at line)

-- a byte, a tab and four digits
unfoldable pub is_start_at : List ℕ → Bool
is_start_at line = leb 6 (length line) && (eqb (get_or line 1 0) 9 && all_hex (take 4 (drop 2 line)))

-- the position of a line that begins so; 65,536, which none has, of any other
unfoldable pub position_in : List ℕ → ℕ
position_in line = cond (is_start_at line) (position_at line) 65536

-- a tab and four digits, for each further position
unfoldable pub are_places : List ℕ → Bool
are_places [] = true
are_places (t ∷ []) = false
are_places (t ∷ a ∷ []) = false
are_places (t ∷ a ∷ b ∷ []) = false
are_places (t ∷ a ∷ b ∷ c ∷ []) = false
are_places (t ∷ a ∷ b ∷ c ∷ d ∷ rest) = eqb t 9 && (all_hex (a ∷ b ∷ c ∷ d ∷ []) && are_places rest)

-- what stands after the position, by the letter
abbrev pub is_label_rest : List ℕ → Bool
is_label_rest rest = eqb (length rest) 0

abbrev pub is_found_rest : List ℕ → Bool
is_found_rest rest = leb 1 (length rest) && are_places rest

abbrev pub is_data_rest : List ℕ → Bool
is_data_rest rest = eqb (get_or rest 0 0) 9 && is_bytes 16 (drop 1 rest)

abbrev pub by_letter_at : Mode → ℕ → List ℕ → Bool
by_letter_at mode c line =
    cond (eqb c (code "L")) (is_label_rest (drop 6 line))
    (cond (eqb c (code "O")) (is_found_rest (drop 6 line))
    (cond (eqb c (code "A")) (is_found_rest (drop 6 line))
    (cond (eqb c (code "I")) (is_code mode (position_at line) (bytes_at line) line)
    (cond (eqb c (code "D")) (is_data_rest (drop 6 line)) false))))

unfoldable pub is_line_at : Mode → List ℕ → Bool
is_line_at mode line = is_start_at line && by_letter_at mode (letter_on line) line

unfoldable pub record_at : List ℕ → Record
record_at line = record {
  letter = letter_on line;
  position = position_at line;
  count = cond (has_bytes (letter_on line)) (length (bytes_at line)) (length (drop 6 line) / 5);
}

-- what stands at these places are the fields
pub record Spaced (line : List ℕ) : Type 0 where
  pub long : 6 ≤ length line
  pub position : position_at line ≡ position_on line
  pub digits : digits_at line ≡ field_on 2 line
  pub halves : letter_on line ≡ code "D" → length (drop 6 line) / 2 ≡ length (bytes_on line)
  pub count : has_bytes (letter_on line) ≡ false → length (drop 6 line) / 5 ≡ length (further_on line)
