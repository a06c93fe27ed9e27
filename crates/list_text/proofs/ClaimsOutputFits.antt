-- Every output fits: a refusal has at most six bytes, a listing sixty for each position.
-- Assumes nothing.
use mathlib.Core.Path.{◌≡◌, refl, sym, ap, ◌∙◌}
use mathlib.Core.List.{List, []}
use mathlib.Core.Logic.{◌⊎◌, inl, inr}
use Prim.Native.Nat.{ℕ, ◌≤◌, ◌<◌}
use native.Mathlib.Omega.{arith}
use lib.IntN.{ℤ, nat_abs}
use lib.ListN.{length}
use Rattle.instruction.specs.Bytes.{Bytes}
use Rattle.instruction.specs.Answer.{Answer, accepted, refused, judge}
use Rattle.instruction.proofs.Judging.{accepts}
use Rattle.instruction_laws.specs.Missing.{OneOrTwo, missing_in}
use Rattle.instruction.specs.declared.mode.Mode.TheVariants.{Unwrapped}
use Rattle.list_text.specs.ClaimsInput.{Valid}
use Rattle.list_text.specs.Text.{counts_of, entries_of, image_of, input_refusals}
use Rattle.list_text.proofs.Longest.{most_held}
use Rattle.listing.specs.declared.tabbed.Arrivals.TheVariants.{Declined}
use Rattle.listing_laws.proofs.ClaimsRoomBound.{listing_bound}
use Rattle.list_text.specs.ClaimsOutput.{OutputFits}
use Rattle.list_text.specs.Output.{refusal_line, traced_text, text_listed, output_text, output_of}
use Rattle.list_text.specs.Decimal.{width}
use Rattle.list_text.proofs.Decimals.{width_one}
use Rattle.list_text.proofs.RefusalPutting.{number_length, value_length}
use Rattle.list_text.proofs.ClaimsOutputOnly.{only_two, listed_missing}
use Rattle.list_text.proofs.ImageBytes.{image_bytes}
use Rattle.list_text.proofs.Images.{marks, accepted_listing}
use Rattle.list_text.proofs.Parts.{or_accepted}

-- 13 alone, or 5 with 1 or 2
line_short : (text : List ℕ) (n : ℕ) (vs : List ℤ) → text_listed text ≡ refused n vs → length (refusal_line n vs) ≤ 6
unfolding width
line_short text n vs e = by (only_two text n vs e)
  where
    missing : (v : ℕ) → v < 10 → nat_abs (missing_in vs) ≡ v → length (refusal_line 5 vs) ≤ 6
    missing v h f = rw f (omega (arith, value_length 5 v 1 1 refl (sym (width_one v h))))

    five : OneOrTwo vs → length (refusal_line 5 vs) ≤ 6
    five (inl f) = missing 1 (omega arith) (ap nat_abs f)
    five (inr f) = missing 2 (omega arith) (ap nat_abs f)

    by : (n ≡ 13) ⊎ (n ≡ 5) → length (refusal_line n vs) ≤ 6
    by (inl f) = rw f (omega (arith, number_length 13 2 refl))
    by (inr f) = rw f (five (listed_missing text vs (e ∙ ap (λ (k : ℕ). refused k vs) f)))

shown_fits : (r : Answer (List ℕ)) → ((out : List ℕ) → r ≡ accepted out → length out ≤ 983040)
    → ((n : ℕ) (vs : List ℤ) → r ≡ refused n vs → length (refusal_line n vs) ≤ 6) → length (output_text r) ≤ 983040
shown_fits (accepted out) f g = f out refl
shown_fits (refused n vs) f g = omega (arith, g n vs refl)

-- what is accepted is a listing
listed : (image entries out : List ℕ) → length image ≤ 16384 → Bytes image → traced_text image entries ≡ accepted out → length out ≤ 983040
listed image entries out h B e =
    omega (arith, ap length (accepted_listing Unwrapped image entries [] Declined out e), listing_bound Unwrapped image (marks Unwrapped image entries []) B)

pub output_fits : OutputFits
unfolding output_of text_listed
output_fits text = shown_fits _ by (line_short text)
  where
    by : (out : List ℕ) → text_listed text ≡ accepted out → length out ≤ 983040
    by out e =
        let a = or_accepted (judge (input_refusals text) (counts_of text)) (traced_text (image_of text) (entries_of text)) out e in
        let c = a.0.0 in
        let g : judge (input_refusals text) (counts_of text) ≡ accepted c = a.0.1 in
        let v : Valid text = g ∙ ap accepted (sym (accepts (input_refusals text) (counts_of text) c g)) in
        listed (image_of text) (entries_of text) out (most_held text v).1 (image_bytes text) a.1
