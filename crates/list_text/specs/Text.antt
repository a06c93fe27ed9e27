-- What the listing program's input says. Document 01, 'The listing', and refusal 13 with the first bad line, from 1; then refusal 11.
-- Assumes nothing.
use Rattle.std.specs.Prelude.{ℕ, suc, ◌+◌, Bool, not, ◌||◌, List, [], ◌∷◌, ◌++◌, ltb, pos, length, Result, Ok, Err}
use Rattle.instruction.specs.Answer.{Answer, accepted, refused, Refusal, refuse, judge, after, laid}
use Rattle.text.specs.Bytes.{bytes_of, is_bytes}
use Rattle.text.specs.Cut.{lines}
use Rattle.list_text.specs.Bytes.{bytes_in_lines}
use Rattle.list_text.specs.Entries.{is_entries, entries_in}
use Rattle.list_text.specs.declared.parsed.Input.{Input}
use Rattle.list_text.specs.declared.parsed.ParseError.{ParseError}
use Rattle.list_text.specs.declared.parsed.ParseError.TheVariants.{Malformed, NoRoom}

-- the first line, which is empty where there is none, and the others
abbrev pub first : List (List ℕ) → List ℕ
first [] = []
first (l ∷ ls) = l

abbrev pub others : List (List ℕ) → List (List ℕ)
others [] = []
others (l ∷ ls) = ls

-- line 1, which is empty in an empty input, and the lines of image bytes
abbrev pub entry_line : List ℕ → List ℕ
entry_line text = first (lines text)

abbrev pub image_lines : List ℕ → List (List ℕ)
image_lines text = others (lines text)

-- what an input holds
abbrev pub entries_of : List ℕ → List ℕ
entries_of text = entries_in (entry_line text)

abbrev pub image_of : List ℕ → List ℕ
image_of text = bytes_in_lines (image_lines text)

-- a line with the number k is bad
abbrev pub bad : Bool → ℕ → Refusal
bad b k = refuse b 13 (pos k ∷ [])

-- the lines of image bytes, the first of which has the number k, with n bytes before them: at most 16,384 bytes in all
unfoldable pub image_refusals : ℕ → ℕ → List (List ℕ) → List Refusal
image_refusals k n [] = []
image_refusals k n (l ∷ ls) =
    bad (not (is_bytes 32 l) || ltb 16384 (n + length (bytes_of l))) k ∷ image_refusals (suc k) (n + length (bytes_of l)) ls

-- the lines in their order: the first bad one speaks
abbrev pub refusals_in : List (List ℕ) → List Refusal
refusals_in ls = bad (not (is_entries (first ls))) 1 ∷ image_refusals 2 0 (others ls)

unfoldable pub input_refusals : List ℕ → List Refusal
input_refusals text = refusals_in (lines text)

-- how many entries and how many bytes
abbrev pub counts : ℕ → ℕ → Input
counts entries bytes = record { entries = entries; bytes = bytes }

unfoldable pub counts_of : List ℕ → Input
counts_of text = counts (length (entries_of text)) (length (image_of text))

-- document 01's number and values of each answer; 11 has two
abbrev pub parsed_of : Result Input ParseError → Answer Input
parsed_of (Ok c) = accepted c
parsed_of (Err (Malformed k)) = refused 13 (pos k ∷ [])
parsed_of (Err (NoRoom c)) = refused 11 (pos c.entries ∷ pos c.bytes ∷ [])

-- 13, then 11 with the entries and the bytes needed, where either room is too short
unfoldable pub parse_answer : List ℕ → List ℕ → List ℕ → Answer Input
parse_answer text entries image =
    judge
    (input_refusals text
    ++ refuse (ltb (length entries) (length (entries_of text)) || ltb (length image) (length (image_of text))) 11
    (pos (length (entries_of text)) ∷ pos (length (image_of text)) ∷ [])
    ∷ [])
    (counts_of text)

-- what was read is laid over the beginning of a room; a refusal changes nothing
unfoldable pub parse_entries : List ℕ → List ℕ → List ℕ → List ℕ
parse_entries text entries image = after (parse_answer text entries image) (laid (entries_of text) entries) entries

unfoldable pub parse_image : List ℕ → List ℕ → List ℕ → List ℕ
parse_image text entries image = after (parse_answer text entries image) (laid (image_of text) image) image
