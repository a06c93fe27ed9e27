-- Of a text that is too long the program prints 13 and nothing else, so what follows its first 50,433 bytes does not matter.
-- Assumes nothing.
use Prim.Native.Nat.{◌<◌}
use native.Mathlib.Omega.{arith}
use mathlib.Core.Logic.{inl, inr, ⊎_elim}
use mathlib.Core.Path.{◌≡◌, refl, sym, ap, ◌∙◌}
use lib.ListN.{length, take}
use lib.Seq.{take_all, length-take-le}
use Rattle.instruction.specs.Answer.{Answer, accepted, refused, judge}
use Rattle.instruction.proofs.Accepting.{differ}
use Rattle.reach.proofs.Cases.{lt_or_le}
use Rattle.trace.specs.Run.{and_then}
use Rattle.list_text.specs.ClaimsOutput.{LongOutput, OutputCut}
use Rattle.list_text.specs.Output.{output_text, traced_text, text_listed, output_of}
use Rattle.list_text.specs.Refusal.{number_line}
use Rattle.list_text.specs.Text.{counts_of, entries_of, image_of, input_refusals}
use Rattle.list_text.specs.declared.parsed.Input.{Input}
use Rattle.list_text.proofs.Longest.{Thirteen, lines_13, longest}

pub long_output : LongOutput
unfolding output_of text_listed
long_output text h = by (judge (input_refusals text) (counts_of text)) refl (lines_13 text)
  where
    by : (r : Answer Input) → judge (input_refusals text) (counts_of text) ≡ r → Thirteen r (counts_of text)
        → output_text (and_then r (traced_text (image_of text) (entries_of text))) ≡ number_line 13
    by (accepted c) e (inl v) = let k = longest text (e ∙ v) in absurd (omega arith)
    by (accepted c) e (inr q) = absurd (omega arith)
    by (refused n vs) e (inl v) = absurd (differ v)
    by (refused n vs) e (inr q) = rw q

pub output_cut : OutputCut
output_cut text = ⊎_elim long (λ h. ap output_of (take_all 50433 text h)) (lt_or_le 50433 (length text))
  where
    long : 50433 < length text → output_of (take 50433 text) ≡ output_of text
    long h =
        let l = length-take-le 50433 text (omega arith) in
        long_output (take 50433 text) (omega (arith, l)) ∙ sym (long_output text (omega arith))
