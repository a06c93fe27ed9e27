-- Document 02, W2: of an instruction that the end cuts off one or two bytes are missing.
-- Assumes nothing.
use Rattle.std.specs.Prelude.{ℕ, ◌+◌, ◌<◌, List, ◌⊎◌, ◌≡◌, ℤ, pos, length, get_or, drop}
use Rattle.instruction.specs.Bytes.{Bytes}
use Rattle.instruction.specs.Answer.{refused}
use Rattle.instruction.specs.CutOff.{cut_values}
use Rattle.instruction.specs.Decode.{cut_at, decode_answer}
use Rattle.instruction.specs.Forms.{form_at, form_of, size_of}

-- the third value of refusal 5
abbrev pub missing_in : List ℤ → ℤ
missing_in vs = get_or vs 2 (pos 0)

abbrev pub OneOrTwo : List ℤ → Type 0
OneOrTwo vs = (missing_in vs ≡ pos 1) ⊎ (missing_in vs ≡ pos 2)

-- wherever an instruction starts before the end and ends after it
abbrev pub CutMissing : Type 0
CutMissing =
    (s : List ℕ) (p : ℕ) → get_or s p 0 < 256 → p < length s → length s < p + size_of (form_at (form_of (get_or s p 0))) → OneOrTwo (cut_values (cut_at s p))

-- so decode answers no other number
abbrev pub DecodeMissing : Type 0
DecodeMissing = (s : List ℕ) → Bytes s → (vs : List ℤ) → decode_answer s ≡ refused 5 vs → OneOrTwo vs

-- what refusal 5 tells of a place is, but for the position, what decode says of the bytes from there on
abbrev pub CutFrom : Type 0
CutFrom = (s : List ℕ) (p : ℕ) → cut_at (drop p s) 0 ≡ record { position = 0; first = (cut_at s p).first; missing = (cut_at s p).missing }
