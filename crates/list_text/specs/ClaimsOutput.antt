-- What is claimed of the listing program's output. Document 01, 'The listing', and document 02, W2.
-- Assumes nothing.
use Rattle.std.specs.Prelude.{ℕ, ◌≤◌, ◌<◌, List, ◌⊎◌, ◌≡◌, ℤ, length, take}
use Rattle.instruction.specs.Answer.{refused}
use Rattle.instruction_laws.specs.Missing.{OneOrTwo}
use Rattle.list_text.specs.Output.{text_listed, output_of}
use Rattle.list_text.specs.Refusal.{number_line}

-- no output is longer than 60 bytes for each of 16,384 positions, whatever the input: a room of that length is never too short
abbrev pub OutputFits : Type 0
OutputFits = (text : List ℕ) → length (output_of text) ≤ 983040

-- a text longer than the longest valid one is malformed, and that is all that is printed of it
abbrev pub LongOutput : Type 0
LongOutput = (text : List ℕ) → 50432 < length text → output_of text ≡ number_line 13

-- so what follows the first 50,433 bytes does not matter: the program need not read it
abbrev pub OutputCut : Type 0
OutputCut = (text : List ℕ) → output_of (take 50433 text) ≡ output_of text

-- the third field of 5 is 1 or 2
abbrev pub ListedMissing : Type 0
ListedMissing = (text : List ℕ) (vs : List ℤ) → text_listed text ≡ refused 5 vs → OneOrTwo vs

-- nothing is refused but a malformed input and an instruction cut off
abbrev pub OnlyTwo : Type 0
OnlyTwo = (text : List ℕ) (n : ℕ) (vs : List ℤ) → text_listed text ≡ refused n vs → (n ≡ 13) ⊎ (n ≡ 5)
