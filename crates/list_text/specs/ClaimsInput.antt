-- What is claimed of an input and its answer. Document 01, 'The listing' and 'Forms by place'.
-- Assumes nothing.
use Rattle.std.specs.Prelude.{ℕ, ◌<◌, ◌≤◌, List, ◌≡◌, length}
use Rattle.instruction.specs.Answer.{Answer, accepted, refused, judge, Apart}
use Rattle.list_text.specs.Text.{counts_of, entries_of, image_of, input_refusals, parsed_of, parse_answer}
use Rattle.list_text.specs.declared.parsed.Input.{Input}

-- the number and values of the answers tell all cases and all values apart
abbrev pub ParsedApart : Type 0
ParsedApart = Apart parsed_of

-- every line is good
abbrev pub Valid : List ℕ → Type 0
Valid text = ◌≡◌ {A = Answer Input} (judge (input_refusals text) (counts_of text)) (accepted (counts_of text))

-- rooms for 256 entries and 16,384 bytes are enough for every valid input
abbrev pub MostHeld : Type 0
MostHeld = (text : List ℕ) → Valid text → (length (entries_of text) ≤ 256) × (length (image_of text) ≤ 16384)

-- the number of a refusal, 0 for none
abbrev pub refusal_of : Answer Input → ℕ
refusal_of (accepted c) = 0
refusal_of (refused n vs) = n

-- an input longer than the longest valid one is 13, whatever is lent
abbrev pub TooLong : Type 0
TooLong = (text entries image : List ℕ) → 50432 < length text → refusal_of (parse_answer text entries image) ≡ 13
