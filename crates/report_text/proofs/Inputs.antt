-- What is reported of an input's text: that of its image and entries, or 13 of a bad line.
-- Assumes nothing.
use mathlib.Core.Path.{◌≡◌, refl, sym, ap, ap₂, subst, ◌∙◌}
use mathlib.Core.Logic.{⊎_elim}
use mathlib.Core.List.{List, []}
use Prim.Native.Nat.{ℕ, ◌-◌, ◌≤◌}
use native.Mathlib.Omega.{arith}
use lib.IntN.{ℤ}
use lib.ListN.{length, take, replicate, length-replicate, length-take}
use Rattle.std.proofs.Common.{Err}
use Rattle.instruction.specs.Answer.{Answer, accepted, refused, judge}
use Rattle.instruction.proofs.Judging.{refuses_too, accepts_too}
use Rattle.text.specs.Cut.{lines}
use Rattle.list_text.specs.ClaimsInput.{Valid}
use Rattle.list_text.specs.Text.{counts_of, entries_of, image_of, input_refusals, parsed_of, parse_answer, parse_entries, parse_image}
use Rattle.list_text.specs.declared.parsed.Input.{Input}
use Rattle.list_text.specs.declared.parsed.ParseError.{ParseError}
use Rattle.list_text.specs.declared.parsed.ParseError.TheVariants.{Malformed, NoRoom}
use Rattle.list_text.proofs.Longest.{most_held}
use Rattle.list_text.proofs.Texts.{accepted_valid, read_entries, read_image, refused_line}
use Rattle.report_text.specs.Image.{traced, of_lines, input_answer}
use Rattle.report_text.proofs.ClaimsOnly.{input_only}

-- what an input with good lines left in rooms for the longest
pub record Read (text : List ℕ) (k : Input) (es bs : List ℕ) : Type 0 where
  pub good : Valid text
  pub few_entries : k.entries ≤ length es
  pub few_bytes : k.bytes ≤ length bs
  pub entries_are : take k.entries es ≡ entries_of text
  pub image_is : take k.bytes bs ≡ image_of text
  pub small : length (take k.bytes bs) ≤ 16384

pub input_read : (text : List ℕ) (k : Input) (old_es old_bs es bs : List ℕ) → old_es ≡ replicate 256 0 → old_bs ≡ replicate 16384 0
    → accepted k ≡ parse_answer text old_es old_bs → es ≡ parse_entries text old_es old_bs → bs ≡ parse_image text old_es old_bs
    → length es ≡ length old_es → length bs ≡ length old_bs → Read text k es bs
unfolding counts_of
input_read text k old_es old_bs es bs e b r p q m n =
    let v = accepted_valid text k (r ∙ ap₂ (λ (x y : List ℕ). parse_answer text x y) e b) in
    let h = most_held text v.0 in
    let l : length es ≡ 256 = m ∙ ap length e ∙ length-replicate {A = ℕ} 256 0 in
    let o : length bs ≡ 16384 = n ∙ ap length b ∙ length-replicate {A = ℕ} 16384 0 in
    let i : k.entries ≤ 256 = subst (λ (d : Input). d.entries ≤ 256) (sym v.1) h.0 in
    let j : k.bytes ≤ 16384 = subst (λ (d : Input). d.bytes ≤ 16384) (sym v.1) h.1 in
    let x : k.entries ≡ k.entries - 0 = omega arith in
    let y : k.bytes ≡ k.bytes - 0 = omega arith in
    record {
      good = v.0;
      few_entries = omega arith;
      few_bytes = omega arith;
      entries_are =
          ap (λ (z : ℕ). take z es) x
          ∙ read_entries text v.0 es (p ∙ ap₂ (λ (x y : List ℕ). parse_entries text x y) e b) k.entries (ap (λ (d : Input). d.entries) v.1);
      image_is =
          ap (λ (z : ℕ). take z bs) y
          ∙ read_image text v.0 bs (q ∙ ap₂ (λ (x y : List ℕ). parse_image text x y) e b) k.bytes (ap (λ (d : Input). d.bytes) v.1);
      small = omega (arith, length-take k.bytes bs);
    }

module _ (text : List ℕ) where
  answered : (r : Answer ℕ) → judge (input_refusals text) 0 ≡ r → of_lines r (traced (image_of text) (entries_of text)) ≡ input_answer (lines text)
  unfolding input_answer input_refusals
  answered r e = sym (ap (λ (q : Answer ℕ). of_lines q (traced (image_of text) (entries_of text))) e)

  pub valid_input : Valid text → traced (image_of text) (entries_of text) ≡ input_answer (lines text)
  valid_input v = answered (accepted 0) (accepts_too (input_refusals text) (counts_of text) 0 v)

  pub refused_input : (n : ℕ) (vs : List ℤ) → refused n vs ≡ parse_answer text (replicate 256 0) (replicate 16384 0) → refused n [] ≡ input_answer (lines text)
  refused_input n vs f =
      answered (refused n vs)
      (refuses_too (input_refusals text) (counts_of text) 0 n vs (refused_line text n vs f (judge (input_refusals text) (counts_of text)) refl))

  -- in rooms for the longest an input is refused by a bad line alone
  pub bad_input : (old_es old_bs : List ℕ) → old_es ≡ replicate 256 0 → old_bs ≡ replicate 16384 0 → (r : ParseError)
      → parsed_of (Err r) ≡ parse_answer text old_es old_bs → refused 13 [] ≡ input_answer (lines text)
  bad_input old_es old_bs e b (Malformed n) f = refused_input 13 _ (f ∙ ap₂ (λ (x y : List ℕ). parse_answer text x y) e b)
  bad_input old_es old_bs e b (NoRoom n) f =
      let g = refused_input 11 _ (f ∙ ap₂ (λ (x y : List ℕ). parse_answer text x y) e b) in
      ⊎_elim (λ h. absurd (omega (arith, h))) (λ h. absurd (omega (arith, h))) (input_only (lines text) 11 [] (sym g))
