-- The lines of image bytes, judged line by line.
-- Assumes nothing.
use mathlib.Core.Path.{◌≡◌, refl, sym, ap, ◌∙◌}
use mathlib.Core.Bool.{true, false}
use mathlib.Core.List.{List, [], ◌∷◌}
use Prim.Native.Nat.{ℕ, suc, ◌+◌, ◌-◌, ◌≤◌, ◌<◌}
use native.Mathlib.Numerals.{add-one}
use native.Mathlib.Omega.{arith}
use lib.IntN.{pos}
use lib.ListN.{length, take, drop, length-append}
use borrow.Author.Tests.{lt-ltb, le-ltb}
use Rattle.std.specs.Prelude.{Option, Some, None}
use Rattle.instruction.specs.Answer.{Answer, accepted, refused, judge}
use Rattle.instruction.proofs.Judging.{pass, stop, done}
use Rattle.text.specs.Bytes.{bytes_of, is_bytes}
use Rattle.text.specs.Cut.{up_to, lines}
use Rattle.text.proofs.Cuts.{line_next, lines_end}
use Rattle.text.proofs.Pairs.{bytes_parts}
use Rattle.list_text.specs.Bytes.{bytes_line, bytes_in_lines}
use Rattle.list_text.specs.Text.{counts, image_refusals}
use Rattle.list_text.specs.declared.parsed.Input.{Input}
use Rattle.list_text.proofs.Pairs.{bad_line, good_line}

-- a line that is bad, or holds too much, and one that is good
module _ (k n : ℕ) (l : List ℕ) (ls : List (List ℕ)) (c : Input) where
  first_bad : is_bytes 32 l ≡ false → judge (image_refusals k n (l ∷ ls)) c ≡ refused 13 (pos k ∷ [])
  unfolding image_refusals
  first_bad e = stop _ _ _ (rw e)

  module _ (e : is_bytes 32 l ≡ true) where
    first_over : 16384 < n + length (bytes_of l) → judge (image_refusals k n (l ∷ ls)) c ≡ refused 13 (pos k ∷ [])
    unfolding image_refusals
    first_over h = stop _ _ _ (rw (e, lt-ltb 16384 (n + length (bytes_of l)) h))

    first_good : n + length (bytes_of l) ≤ 16384 → judge (image_refusals k n (l ∷ ls)) c ≡ judge (image_refusals (suc k) (n + length (bytes_of l)) ls) c
    unfolding image_refusals
    first_good h = pass _ _ _ (rw (e, le-ltb 16384 (n + length (bytes_of l)) h))

pub more_bytes : (l : List ℕ) (ls : List (List ℕ)) → length (bytes_in_lines (l ∷ ls)) ≡ length (bytes_of l) + length (bytes_in_lines ls)
unfolding bytes_in_lines
more_bytes l ls = length-append (bytes_of l) (bytes_in_lines ls)

pub no_bytes : bytes_in_lines [] ≡ []
unfolding bytes_in_lines
no_bytes = refl

module _ (text : List ℕ) (from entries : ℕ) where
  -- the bytes of the lines from a place on
  abbrev left : ℕ → List ℕ
  left at = bytes_in_lines (lines (drop at text))

  abbrev all : Input
  all = counts entries (length (left from))

  -- of the lines from a place on, with k for their first and n bytes before them
  abbrev said : ℕ → ℕ → ℕ → Answer Input
  said at k n = judge (image_refusals k n (lines (drop at text))) all

  -- what is said of the lines from here is what is said of all
  pub record Judging (at k n : ℕ) : Type 0 where
    pub few : n ≤ 16384
    pub count : k ≤ n + 2
    pub total : n + length (left at) ≡ length (left from)
    pub same : said at k n ≡ said from 2 0

  pub judge_start : Judging from 2 0
  judge_start = record { few = omega arith; count = omega arith; total = omega arith; same = refl }

  module _ (at k n : ℕ) (j : Judging at k n) where
    pub judge_end : length text ≤ at → (c : Input) → c.entries ≡ entries → c.bytes ≡ n → accepted c ≡ said from 2 0
    unfolding image_refusals
    judge_end h c a b =
        let e = lines_end text at h in
        let t : n ≡ length (left from) = omega (arith, j.total, ap (λ (ls : List (List ℕ)). length (bytes_in_lines ls)) e, ap length no_bytes) in
        let m : c.bytes ≡ length (left from) = b ∙ t in
        let s : c ≡ all = rw (← a, ← m) in
        ap accepted s ∙ sym (ap (λ (ls : List (List ℕ)). judge (image_refusals k n ls) all) e ∙ done all) ∙ j.same

    module _ (e : ℕ) (p : e ≡ at + length (up_to 10 (drop at text))) (h : at < length text) where
      abbrev line : List ℕ
      line = take (e - at) (drop at text)

      next : lines (drop at text) ≡ line ∷ lines (drop (e + 1) text)
      next = line_next text at e p h

      here : said at k n ≡ judge (image_refusals k n (line ∷ lines (drop (e + 1) text))) all
      here = ap (λ (ls : List (List ℕ)). judge (image_refusals k n ls) all) next

      pub judge_bad : (r : Option ℕ) → r ≡ bytes_line line → r ≡ None → refused 13 (pos k ∷ []) ≡ said from 2 0
      judge_bad r f g = sym (here ∙ first_bad k n line _ all (bad_line line (sym f ∙ g))) ∙ j.same

      pub judge_over : (r : Option ℕ) → r ≡ bytes_line line → (m : ℕ) → r ≡ Some m → 16384 < n + m → refused 13 (pos k ∷ []) ≡ said from 2 0
      judge_over r f m g o =
          let w = good_line line m (sym f ∙ g) in
          sym (here ∙ first_over k n line _ all w.0 (rw w.1 o)) ∙ j.same

      pub judge_next : (r : Option ℕ) → r ≡ bytes_line line → (m : ℕ) → r ≡ Some m → n + m ≤ 16384 → Judging (e + 1) (k + 1) (n + m)
      judge_next r f m g o =
          let w = good_line line m (sym f ∙ g) in
          let y = (bytes_parts 32 line w.0).1 in
          record {
            few = o;
            count = omega (arith, j.count, w.1, y);
            total = omega (arith, j.total, w.1, ap (λ (ls : List (List ℕ)). length (bytes_in_lines ls)) next, more_bytes line (lines (drop (e + 1) text)));
            same = rw (add-one, ← w.1) (sym (here ∙ first_good k n line _ all w.0 (rw w.1 o)) ∙ j.same);
          }
