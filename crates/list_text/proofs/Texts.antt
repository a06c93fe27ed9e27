-- What is read of a text: all its lines are good, or one refuses.
-- Assumes nothing.
use mathlib.Core.Path.{◌≡◌, refl, sym, ap, ◌∙◌}
use mathlib.Core.List.{List}
use Prim.Native.Nat.{ℕ, ◌-◌, ◌≤◌}
use native.Mathlib.Omega.{arith}
use lib.IntN.{ℤ}
use lib.ListN.{length, take, drop, replicate, length-replicate}
use lib.Seq.{take_at}
use borrow.Author.Tests.{le-ltb}
use Rattle.instruction.proofs.Accepting.{differ}
use Rattle.instruction.specs.Answer.{Answer, accepted, refused, judge, after, laid}
use Rattle.instruction.proofs.Judging.{pass, done, first_of, past_all, accepts}
use Rattle.trace.specs.Run.{and_then}
use Rattle.list_text.specs.ClaimsInput.{Valid}
use Rattle.list_text.specs.Text.{counts_of, entries_of, image_of, input_refusals, parse_answer, parse_entries, parse_image}
use Rattle.list_text.specs.declared.parsed.Input.{Input}
use Rattle.list_text.proofs.Longest.{most_held}
use Rattle.list_text.specs.Output.{text_listed, traced_text, output_text, output_of, refusal_line}

module _ (text : List ℕ) where
  abbrev entries : List ℕ
  entries = replicate 256 0

  abbrev image : List ℕ
  image = replicate 16384 0

  abbrev judged : Answer Input
  judged = judge (input_refusals text) (counts_of text)

  -- the rooms are long enough
  valid_parses : Valid text → parse_answer text entries image ≡ accepted (counts_of text)
  unfolding parse_answer
  valid_parses v =
      let b = most_held text v in
      past_all _ (counts_of text) (counts_of text) (input_refusals text) v
      ∙ pass _ _ _ (rw (le-ltb (length entries) (length (entries_of text)) (room 256 b.0), le-ltb (length image) (length (image_of text)) (room 16384 b.1)))
      ∙ done (counts_of text)
    where
      room : (k : ℕ) {n : ℕ} → n ≤ k → n ≤ length (replicate {A = ℕ} k 0)
      room k h = let e = length-replicate {A = ℕ} k 0 in omega arith

  invalid_parses : (n : ℕ) (vs : List ℤ) → judged ≡ refused n vs → parse_answer text entries image ≡ refused n vs
  unfolding parse_answer
  invalid_parses n vs e = first_of _ (counts_of text) (counts_of text) (input_refusals text) n vs e

  is_valid : (r : Answer Input) → judged ≡ r → (c : Input) → accepted c ≡ parse_answer text entries image → Valid text
  is_valid (accepted d) e c f = e ∙ ap accepted (sym (accepts (input_refusals text) (counts_of text) d e))
  is_valid (refused n vs) e c f = absurd (differ (sym (f ∙ invalid_parses n vs e)))

  pub accepted_valid : (c : Input) → accepted c ≡ parse_answer text entries image → Valid text × (c ≡ counts_of text)
  accepted_valid c f =
      let v = is_valid judged refl c f in
      (v, let g : accepted c ≡ accepted (counts_of text) = f ∙ valid_parses v in cc)

  -- a refusal is that of a line
  pub refused_line : (n : ℕ) (vs : List ℤ) → refused n vs ≡ parse_answer text entries image → (r : Answer Input) → judged ≡ r → judged ≡ refused n vs
  refused_line n vs f (accepted d) e =
      absurd (differ (f ∙ valid_parses (e ∙ ap accepted (sym (accepts (input_refusals text) (counts_of text) d e)))))
  refused_line n vs f (refused k us) e = e ∙ sym (f ∙ invalid_parses k us e)

  pub refused_output : (n : ℕ) (vs : List ℤ) → refused n vs ≡ parse_answer text entries image → refusal_line n vs ≡ output_of text
  unfolding output_of text_listed
  refused_output n vs f = sym (ap (λ (r : Answer Input). output_text (and_then r (traced_text (image_of text) (entries_of text)))) (refused_line n vs f judged refl))

  module _ (v : Valid text) where
    pub valid_output : output_text (traced_text (image_of text) (entries_of text)) ≡ output_of text
    unfolding output_of text_listed
    valid_output = sym (ap (λ (r : Answer Input). output_text (and_then r (traced_text (image_of text) (entries_of text)))) v)

    -- what stands in the rooms afterwards
    pub read_entries : (l : List ℕ) → l ≡ parse_entries text entries image → (n : ℕ) → n ≡ length (entries_of text) → take (n - 0) (drop 0 l) ≡ entries_of text
    unfolding parse_entries
    read_entries l e n f =
        let z : n - 0 ≡ length (entries_of text) = omega arith in
        ap (take (n - 0)) (e ∙ ap (λ (r : Answer Input). after r (laid (entries_of text) entries) entries) (valid_parses v))
        ∙ take_at (entries_of text) _ (n - 0) (sym z)

    pub read_image : (l : List ℕ) → l ≡ parse_image text entries image → (n : ℕ) → n ≡ length (image_of text) → take (n - 0) (drop 0 l) ≡ image_of text
    unfolding parse_image
    read_image l e n f =
        let z : n - 0 ≡ length (image_of text) = omega arith in
        ap (take (n - 0)) (e ∙ ap (λ (r : Answer Input). after r (laid (image_of text) image) image) (valid_parses v)) ∙ take_at (image_of text) _ (n - 0) (sym z)
