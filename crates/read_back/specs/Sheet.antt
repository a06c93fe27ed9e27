-- What the lines read so far give: the bytes and the marks. Document 02, W1: zero where nothing is listed; `I` sets mark 2; bytes that
-- contradict an earlier line are malformed.
-- Assumes nothing.
use Rattle.std.specs.Prelude.{ℕ, suc, ◌+◌, ◌-◌, Bool, true, false, cond, ◌&&◌, ◌||◌, List, [], ◌∷◌, map, eqb, ltb, length, get_or, set, replicate}
use Prim.Native.Char.{code}
use Rattle.std.proofs.lemmas.List.Edits.{sets}
use Rattle.reach.specs.Mark.{traced}
use Rattle.read_back.specs.Line.{letter_on, position_on, bytes_on, has_bytes, record_of}
use Rattle.read_back.specs.declared.place.Record.{Record}

-- for each position of the image its byte and one more, or 0 where nothing is listed; and the marks
pub record Sheet : Type 0 where
  pub cells : List ℕ
  pub marks : List ℕ

-- before the first line, for an image of n bytes
abbrev pub empty_sheet : ℕ → Sheet
empty_sheet n = record { cells = replicate n 0; marks = replicate n 0 }

-- the bytes that a line lists
abbrev pub listed_on : List ℕ → List ℕ
listed_on line = cond (has_bytes (letter_on line)) (bytes_on line) []

-- a byte contradicts nothing that was listed there before
abbrev pub fits : ℕ → ℕ → Bool
fits cell b = eqb cell 0 || eqb cell (suc b)

-- nor do bytes from p on
unfoldable pub agree : List ℕ → ℕ → List ℕ → Bool
agree cells p [] = true
agree cells p (b ∷ bs) = fits (get_or cells p 0) b && agree cells (suc p) bs

-- bytes from p on reach past n
abbrev pub reach : ℕ → ℕ → List ℕ → Bool
reach n p [] = false
reach n p (b ∷ bs) = ltb n (p + length (b ∷ bs))

-- the marks after a line with this record
abbrev pub marked_by : Record → List ℕ → List ℕ
marked_by r marks = cond (eqb r.letter (code "I")) (set marks r.position traced) marks

-- the sheet after a line
unfoldable pub sheet_with : Sheet → List ℕ → Sheet
sheet_with sheet line = record {
  cells = sets sheet.cells (position_on line) (map suc (listed_on line));
  marks = marked_by (record_of line) sheet.marks;
}

-- the bytes on it: nothing listed is 0
abbrev pub image_on : Sheet → List ℕ
image_on sheet = map (λ (c : ℕ). c - 1) sheet.cells
