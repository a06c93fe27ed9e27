-- A text that is read into rooms for the longest input: what stands in them afterwards, as much of it as was counted.
-- Assumes nothing.
use mathlib.Core.Path.{◌≡◌, ap, ap₂, ◌∙◌}
use mathlib.Core.List.{List}
use Prim.Native.Nat.{ℕ, ◌-◌, ◌≤◌}
use native.Mathlib.Omega.{arith}
use lib.ListN.{length, take, drop, replicate, length-replicate}
use Rattle.instruction.specs.Answer.{accepted}
use Rattle.list_text.specs.ClaimsInput.{Valid}
use Rattle.list_text.specs.Text.{counts_of, entries_of, image_of, parse_answer, parse_entries, parse_image}
use Rattle.list_text.specs.declared.parsed.Input.{Input}
use Rattle.list_text.proofs.Longest.{most_held}
use Rattle.list_text.proofs.Texts.{accepted_valid, read_entries, read_image}

pub record Read (text : List ℕ) (c : Input) (entries image : List ℕ) : Type 0 where
  pub valid : Valid text
  pub few_entries : c.entries ≤ length entries
  pub few_bytes : c.bytes ≤ length image
  pub small : length (image_of text) ≤ 16384
  pub entries_read : take c.entries entries ≡ entries_of text
  pub image_read : take c.bytes image ≡ image_of text

-- the rooms, before and after
module _ (text e₀ i₀ : List ℕ) (e : e₀ ≡ replicate 256 0) (i : i₀ ≡ replicate 16384 0) where
  pub parsed : parse_answer text e₀ i₀ ≡ parse_answer text (replicate 256 0) (replicate 16384 0)
  parsed = ap₂ (λ (x y : List ℕ). parse_answer text x y) e i

  all_of : (l : List ℕ) (n : ℕ) (x : List ℕ) → take (n - 0) (drop 0 l) ≡ x → take n l ≡ x
  all_of l n x h = let z : n ≡ n - 0 = omega arith in ap (λ (k : ℕ). take k l) z ∙ h

  pub read : (c : Input) → accepted c ≡ parse_answer text e₀ i₀ → (entries image : List ℕ) → entries ≡ parse_entries text e₀ i₀
      → image ≡ parse_image text e₀ i₀ → length entries ≡ length e₀ → length image ≡ length i₀ → Read text c entries image
  unfolding counts_of
  read c h entries image f g k l =
      let v = accepted_valid text c (h ∙ parsed) in
      let b = most_held text v.0 in
      let ne = ap length e ∙ length-replicate {A = ℕ} 256 0 in
      let ni = ap length i ∙ length-replicate {A = ℕ} 16384 0 in
      let ce : c.entries ≡ length (entries_of text) = ap (λ (d : Input). d.entries) v.1 in
      let ci : c.bytes ≡ length (image_of text) = ap (λ (d : Input). d.bytes) v.1 in
      record {
        valid = v.0;
        few_entries = omega (arith, b.0, ce, ne, k);
        few_bytes = omega (arith, b.1, ci, ni, l);
        small = b.1;
        entries_read = all_of entries c.entries (entries_of text)
            (read_entries text v.0 entries (f ∙ ap₂ (λ (x y : List ℕ). parse_entries text x y) e i) c.entries ce);
        image_read = all_of image c.bytes (image_of text)
            (read_image text v.0 image (g ∙ ap₂ (λ (x y : List ℕ). parse_image text x y) e i) c.bytes ci);
      }
