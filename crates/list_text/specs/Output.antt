-- The whole output of the listing program. Document 01, 'The listing': it runs with the image length as limit and prints the listing, or
-- one line of `R`, tab, refusal number (13 before 5).
-- Assumes nothing.
use Rattle.std.specs.Prelude.{ℕ, cond, List, [], eqb, ℤ, pos, nat_abs, length, get_or, replicate}
use Rattle.instruction.specs.Answer.{Answer, accepted, refused, judge}
use Rattle.instruction.specs.declared.mode.Mode.{Mode}
use Rattle.instruction.specs.declared.mode.Mode.TheVariants.{Unwrapped}
use Rattle.trace.specs.Run.{and_then, run_answer, run_marks}
use Rattle.views.specs.View.{view_refusals}
use Rattle.list_text.specs.Text.{counts_of, entries_of, image_of, input_refusals}
use Rattle.listing.specs.Walk.{listing_of}
use Rattle.listing.specs.declared.tabbed.Arrivals.{Arrivals}
use Rattle.listing.specs.declared.tabbed.Arrivals.TheVariants.{Declined}
use Rattle.list_text.specs.Refusal.{number_line, value_line}

-- the line of a refusal: `R` and its number; after 5 a third field, how many bytes are missing, the third of its values. Document 02, W2
abbrev pub refusal_line : ℕ → List ℤ → List ℕ
refusal_line n vs = cond (eqb n 5) (value_line n (nat_abs (get_or vs 2 (pos 0)))) (number_line n)

-- the marks and the order list that a run is lent: one for each byte of the image
abbrev pub lent_room : List ℕ → List ℕ
lent_room image = replicate (length image) 0

-- the listing of a run in this image from these entries with these pins, in a mode, with arrivals as they are chosen; or a refusal
unfoldable pub traced_with : Mode → List ℕ → List ℕ → List ℕ → Arrivals → Answer (List ℕ)
traced_with mode image entries pins arrivals =
    let room = lent_room image in
    let m = run_marks mode image room room entries pins (length image) in
    and_then (run_answer mode image room room entries pins (length image)) (judge (view_refusals image m) (listing_of mode image m arrivals))

-- of the listing program: with no pins and no arrivals
abbrev pub traced_text : List ℕ → List ℕ → Answer (List ℕ)
traced_text image entries = traced_with Unwrapped image entries [] Declined

-- the same of a text; a line that is malformed first
unfoldable pub text_listed : List ℕ → Answer (List ℕ)
text_listed text = and_then (judge (input_refusals text) (counts_of text)) (traced_text (image_of text) (entries_of text))

-- the listing, or the line of its refusal
abbrev pub output_text : Answer (List ℕ) → List ℕ
output_text (accepted out) = out
output_text (refused n vs) = refusal_line n vs

unfoldable pub output_of : List ℕ → List ℕ
output_of text = output_text (text_listed text)
