-- The longest valid input, and what a valid input holds at most.
-- Assumes nothing.
use mathlib.Core.Path.{◌≡◌, refl, ap, ◌∙◌}
use mathlib.Core.Logic.{◌⊎◌, inl, inr}
use mathlib.Core.Bool.{Bool, true, false, cond, not, ◌||◌}
use mathlib.Core.List.{List, [], ◌∷◌}
use Prim.Native.Nat.{ℕ, suc, ◌+◌, ◌*◌, ◌≤◌}
use native.Mathlib.Omega.{arith}
use lib.Dec.{ltb}
use lib.IntN.{pos}
use lib.ListN.{length, length-map}
use borrow.Author.Tests.{ltb-false, not-false}
use Rattle.instruction.specs.Answer.{Answer, accepted, refused, judge}
use Rattle.instruction.proofs.Judging.{first_of}
use Rattle.instruction.proofs.Accepting.{passed}
use Rattle.instruction.proofs.Neither.{neither}
use Rattle.text.specs.Bytes.{bytes_of, is_bytes}
use Rattle.text.specs.Cut.{lines, fields}
use Rattle.text.specs.Four.{four_of}
use Rattle.text.proofs.Pairs.{bytes_parts}
use Rattle.list_text.specs.Bytes.{bytes_in_lines}
use Rattle.list_text.specs.ClaimsInput.{Valid, MostHeld, refusal_of, TooLong}
use Rattle.list_text.specs.Entries.{is_entries}
use Rattle.list_text.specs.Text.{entry_line, image_lines, image_refusals, input_refusals, counts_of, parse_answer}
use Rattle.list_text.specs.declared.parsed.Input.{Input}
use Rattle.list_text.proofs.Totals.{total, all_there, with_first, longest_first}
use Rattle.list_text.proofs.Turns.{more_bytes, no_bytes}

-- a line of n bytes takes at most 3 * n bytes
pub image_most : (k n : ℕ) (ls : List (List ℕ)) (c d : Input) → n ≤ 16384 → judge (image_refusals k n ls) c ≡ accepted d
    → (total ls + n * 3 ≤ 49152) × (n + length (bytes_in_lines ls) ≤ 16384)
unfolding image_refusals
image_most k n [] c d h e = (omega arith, omega (arith, ap length no_bytes))
image_most k n (l ∷ ls) c d h e =
    let m = length (bytes_of l) in
    let p = passed _ _ c e in
    let t = neither (not (is_bytes 32 l)) (ltb 16384 (n + m)) p.0 in
    let g = not-false (is_bytes 32 l) t.0 in
    let o = ltb-false 16384 (n + m) t.1 in
    let r = image_most (suc k) (n + m) ls c d o p.1 in
    let b = bytes_parts 32 l g in
    (omega (arith, r.0, b.0, b.1), omega (arith, r.1, more_bytes l ls))

module _ (text : List ℕ) (v : Valid text) where
  parts : (is_entries (entry_line text) ≡ true) × (judge (image_refusals 2 0 (image_lines text)) (counts_of text) ≡ accepted (counts_of text))
  unfolding input_refusals
  parts =
      let p = passed _ _ (counts_of text) v in (not-false (is_entries (entry_line text)) p.0, p.1)

  most_image : (total (image_lines text) + 0 * 3 ≤ 49152) × (0 + length (bytes_in_lines (image_lines text)) ≤ 16384)
  most_image = image_most 2 0 (image_lines text) (counts_of text) (counts_of text) (omega arith) parts.1

  pub longest : length text ≤ 50432
  longest =
      omega (arith, all_there 10 [] text, with_first (lines text), (longest_first (entry_line text) parts.0).0, most_image.0)

  held : (length (fields (entry_line text)) ≤ 256) × (length (bytes_in_lines (image_lines text)) ≤ 16384)
  held = ((longest_first (entry_line text) parts.0).1, omega (arith, most_image.1))

pub most_held : MostHeld
most_held text v = (omega (arith, (held text v).0, length-map (fields (entry_line text)) four_of), (held text v).1)

-- accepted, or refused with 13
abbrev pub Thirteen : Answer Input → Input → Type 0
Thirteen r c = (r ≡ accepted c) ⊎ (refusal_of r ≡ 13)

one_line : (t : Bool) (k : ℕ) (rest : Answer Input) (c : Input) → Thirteen rest c → Thirteen (cond t (refused 13 (pos k ∷ [])) rest) c
one_line true k rest c r = inr refl
one_line false k rest c r = r

image_13 : (k n : ℕ) (ls : List (List ℕ)) (c : Input) → Thirteen (judge (image_refusals k n ls) c) c
unfolding image_refusals judge
image_13 k n [] c = inl refl
image_13 k n (l ∷ ls) c = one_line (not (is_bytes 32 l) || ltb 16384 (n + length (bytes_of l))) k _ c (image_13 (suc k) (n + length (bytes_of l)) ls c)

pub lines_13 : (text : List ℕ) → Thirteen (judge (input_refusals text) (counts_of text)) (counts_of text)
unfolding input_refusals judge
lines_13 text = one_line (not (is_entries (entry_line text))) 1 _ (counts_of text) (image_13 2 0 (image_lines text) (counts_of text))

pub too_long : TooLong
unfolding parse_answer
too_long text entries image h = by (lines_13 text)
  where
    told : (r : Answer Input) → judge (input_refusals text) (counts_of text) ≡ r → refusal_of r ≡ 13 → refusal_of (parse_answer text entries image) ≡ 13
    told (accepted c) e f = absurd (omega arith)
    told (refused n vs) e f = ap refusal_of (first_of _ (counts_of text) (counts_of text) (input_refusals text) n vs e) ∙ f

    by : Thirteen (judge (input_refusals text) (counts_of text)) (counts_of text) → refusal_of (parse_answer text entries image) ≡ 13
    by (inl v) = let k = longest text v in absurd (omega arith)
    by (inr e) = told (judge (input_refusals text) (counts_of text)) refl e
