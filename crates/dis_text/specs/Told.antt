-- Of inner functions: a refusal, as the enums that are handed on hold it.
-- Assumes nothing.
use Rattle.std.specs.Prelude.{ℕ, List, [], ◌∷◌, ◌++◌, ℤ, pos}
use Rattle.instruction.specs.CutOff.{cut_values}
use Rattle.instruction.specs.declared.answer.CutOff.{CutOff}
use Rattle.listing.specs.Hex.{hex4}
use Rattle.list_text.specs.Decimal.{decimal}
use Rattle.marks.specs.declared.sizes.SizeError.TheVariants.{LongImage, ShortMarks}
use Rattle.trace.specs.declared.run.RunError.TheVariants.{Size, ShortOrder, Cut}
use Rattle.dis_text.specs.Word.{codes}
use Rattle.dis_text.specs.declared.message.DisError.{DisError}
use Rattle.dis_text.specs.declared.message.DisError.TheVariants.{Run, Bad}

-- its number and its values
abbrev pub number_of : DisError → ℕ
number_of (Run (Size (LongImage n))) = 1
number_of (Run (Size (ShortMarks n))) = 2
number_of (Run (ShortOrder n)) = 3
number_of (Run (Cut c)) = 5
number_of (Bad k) = 13

abbrev pub values_of : DisError → List ℤ
values_of (Run (Size (LongImage n))) = pos n ∷ []
values_of (Run (Size (ShortMarks n))) = pos n ∷ []
values_of (Run (ShortOrder n)) = pos n ∷ []
values_of (Run (Cut c)) = cut_values c
values_of (Bad k) = pos k ∷ []

-- the words of 5 and of 13
abbrev pub cut_reason : CutOff → List ℕ
cut_reason c = codes "the file ends inside the instruction at " ++ hex4 c.position ++ codes ", bytes missing: " ++ decimal c.missing

abbrev pub bad_reason : ℕ → List ℕ
bad_reason k = codes "not understood: argument " ++ decimal k
