-- The program refuses nothing but 13 and 5, and of 5 one or two bytes are missing.
-- Assumes nothing.
use mathlib.Core.Path.{◌≡◌, sym, ap, ◌∙◌}
use mathlib.Core.List.{List, []}
use mathlib.Core.Logic.{◌⊎◌, inl, inr}
use Prim.Native.Nat.{ℕ, ◌≤◌}
use native.Mathlib.Omega.{arith}
use lib.IntN.{ℤ}
use lib.ListN.{length}
use Rattle.instruction.proofs.Accepting.{differ}
use Rattle.instruction.specs.Answer.{accepted, refused, judge}
use Rattle.instruction.proofs.Judging.{accepts}
use Rattle.instruction_laws.specs.Missing.{OneOrTwo}
use Rattle.instruction.specs.declared.mode.Mode.TheVariants.{Unwrapped}
use Rattle.trace_laws.proofs.ClaimsMissingFew.{run_missing}
use Rattle.list_text.specs.ClaimsInput.{Valid, refusal_of}
use Rattle.list_text.specs.Text.{counts_of, entries_of, image_of, input_refusals}
use Rattle.list_text.proofs.Longest.{Thirteen, lines_13, most_held}
use Rattle.listing.specs.declared.tabbed.Arrivals.TheVariants.{Declined}
use Rattle.list_text.specs.ClaimsOutput.{ListedMissing, OnlyTwo}
use Rattle.list_text.specs.Output.{lent_room, traced_text, text_listed}
use Rattle.list_text.proofs.ImageBytes.{image_bytes}
use Rattle.list_text.proofs.Images.{answer}
use Rattle.list_text.proofs.Parts.{or_refused}
use Rattle.list_text.proofs.RunRefused.{run_five, run_refused}

-- a line refuses with 13, or the lines are good and the run refuses
abbrev Why : List ℕ → ℕ → List ℤ → Type 0
Why text n vs = (n ≡ 13) ⊎ ((length (image_of text) ≤ 16384) × (answer Unwrapped (image_of text) (entries_of text) [] ≡ refused n vs))

why : (text : List ℕ) (n : ℕ) (vs : List ℤ) → text_listed text ≡ refused n vs → Why text n vs
unfolding text_listed
why text n vs e = by (or_refused (judge (input_refusals text) (counts_of text)) _ n vs e)
  where
    line : Thirteen (judge (input_refusals text) (counts_of text)) (counts_of text) → judge (input_refusals text) (counts_of text) ≡ refused n vs → n ≡ 13
    line (inl v) f = absurd (differ (sym f ∙ v))
    line (inr r) f = ap refusal_of (sym f) ∙ r

    by : (judge (input_refusals text) (counts_of text) ≡ refused n vs)
        ⊎ (((c : _) × (judge (input_refusals text) (counts_of text) ≡ accepted c)) × (traced_text (image_of text) (entries_of text) ≡ refused n vs)) → Why text n vs
    by (inl f) = inl (line (lines_13 text) f)
    by (inr a) =
        let c = a.0.0 in
        let g : judge (input_refusals text) (counts_of text) ≡ accepted c = a.0.1 in
        let v : Valid text = g ∙ ap accepted (sym (accepts (input_refusals text) (counts_of text) c g)) in
        let small = (most_held text v).1 in
        inr (small, run_refused Unwrapped (image_of text) (entries_of text) [] (omega (arith, small)) Declined n vs a.1)

pub only_two : OnlyTwo
only_two text n vs e = by (why text n vs e)
  where
    by : Why text n vs → (n ≡ 13) ⊎ (n ≡ 5)
    by (inl f) = inl f
    by (inr r) = inr (run_five Unwrapped (image_of text) (entries_of text) [] (omega (arith, r.0)) n vs r.1)

pub listed_missing : ListedMissing
listed_missing text vs e = by (why text 5 vs e)
  where
    by : Why text 5 vs → OneOrTwo vs
    by (inl f) = absurd (omega (arith, f))
    by (inr r) = run_missing Unwrapped (image_of text) (lent_room (image_of text)) (lent_room (image_of text)) (entries_of text) [] (length (image_of text)) vs
        (image_bytes text) r.1
