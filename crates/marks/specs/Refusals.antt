-- What every call over marks refuses first, and when a mark is damaged. Document 01, 'Marks and steps', and refusals 1, 2 and 6.
-- Assumes nothing.
use Rattle.std.specs.Prelude.{ℕ, Bool, List, [], ◌∷◌, ltb, pos, length, Result, Ok, Err}
use Rattle.instruction.specs.Answer.{Answer, accepted, refused, Refusal, refuse}
use Rattle.reach.specs.Pins.{pinned}
use Rattle.marks.specs.declared.sizes.SizeError.{SizeError}
use Rattle.marks.specs.declared.sizes.SizeError.TheVariants.{LongImage, ShortMarks}

-- 1: an image over 65,536; 2: marks shorter than the image
abbrev pub size_refusals : List ℕ → List ℕ → List Refusal
size_refusals image marks =
    refuse (ltb 65536 (length image)) 1 (pos (length image) ∷ [])
    ∷ refuse (ltb (length marks) (length image)) 2 (pos (length marks) ∷ [])
    ∷ []

-- either of them, as an answer of any call that refuses by both
abbrev pub size_refused : {A : Type 0} → SizeError → Answer A
size_refused (LongImage n) = refused 1 (pos n ∷ [])
size_refused (ShortMarks n) = refused 2 (pos n ∷ [])

abbrev pub sized_of : Result (Unit {0}) SizeError → Answer (Unit {0})
sized_of (Ok u) = accepted u
sized_of (Err e) = size_refused e

-- a byte over 4, the mark of a pinned position. Document 02, W8; document 01 has no 4, and there it is a byte over 3
abbrev pub damaged : ℕ → Bool
damaged v = ltb pinned v
