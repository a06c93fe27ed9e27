-- What is claimed of the output of `dis`.
-- Assumes nothing.
use Rattle.std.specs.Prelude.{ℕ, ◌^◌, ◌<◌, ◌≤◌, List, ◌⊎◌, ◌≡◌, ℤ, length}
use Rattle.instruction.specs.Answer.{refused, Apart}
use Rattle.instruction.specs.Bytes.{Bytes}
use Rattle.dis_text.specs.Output.{dis_of, printed, shown_of}

-- the number and values of the answers tell all cases and all values apart
abbrev pub ShownApart : Type 0
ShownApart = Apart shown_of

-- no output is longer than 77 bytes for each of 65,536 positions, of any words whose bytes a machine counts: a room of that length is never
-- too short
abbrev pub DisFits : Type 0
DisFits = (words image : List ℕ) → length words < 2 ^ 63 → Bytes image → length (printed (dis_of words image)) ≤ 5046272

-- nothing is refused but a word that may not stand there, a file that is too long and an instruction cut off
abbrev pub OnlyThree : Type 0
OnlyThree = (words image : List ℕ) (n : ℕ) (vs : List ℤ) → dis_of words image ≡ refused n vs → (n ≡ 13) ⊎ ((n ≡ 1) ⊎ (n ≡ 5))
