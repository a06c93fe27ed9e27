-- Line 1 and the lines after it.
-- Assumes nothing.
use mathlib.Core.Path.{◌≡◌, refl, sym, ap, ◌∙◌}
use mathlib.Core.Bool.{Bool, true, false}
use mathlib.Core.List.{List, [], ◌∷◌}
use Prim.Native.Nat.{ℕ, ◌+◌, ◌-◌, ◌≤◌}
use native.Mathlib.Omega.{arith}
use lib.IntN.{pos}
use lib.ListN.{length, take, drop, length-map}
use lib.Seq.{sets}
use Rattle.std.specs.Prelude.{Option, Some, None}
use Rattle.std.proofs.lemmas.Option.{cond_some}
use Rattle.instruction.specs.Answer.{refused, judge, laid}
use Rattle.instruction.proofs.Judging.{pass, stop}
use Rattle.text.specs.Cut.{cut, up_to, lines, fields}
use Rattle.text.specs.Four.{four_of}
use Rattle.text.proofs.Cuts.{line_next}
use Rattle.list_text.specs.Bytes.{bytes_in_lines}
use Rattle.list_text.specs.Entries.{entries_in, is_entries, entries_line}
use Rattle.list_text.specs.Text.{first, others, entry_line, image_lines, entries_of, image_of, counts, counts_of, image_refusals, input_refusals}
use Rattle.list_text.proofs.LaidRooms.{laid_over}

-- where line 1 ends at e
pub split : (t : List ℕ) (e : ℕ) → e ≡ 0 + length (up_to 10 (drop 0 t)) → (entry_line t ≡ take (e - 0) (drop 0 t)) × (image_lines t ≡ lines (drop (e + 1) t))
unfolding cut up_to
split [] e p = let z : e ≡ 0 = omega arith in rw z (refl, refl)
split (b ∷ t) e p = let n = line_next (b ∷ t) 0 e p (omega arith) in (ap first n, ap others n)

-- what a judged line tells
bad_line : (l : List ℕ) → entries_line l ≡ None → is_entries l ≡ false
unfolding entries_line
bad_line l e = by (is_entries l) refl
  where
    by : (b : Bool) → is_entries l ≡ b → is_entries l ≡ false
    by true f = let g : Some (length (fields l)) ≡ None = rw f at e in cc
    by false f = f

good_line : (l : List ℕ) (n : ℕ) → entries_line l ≡ Some n → (is_entries l ≡ true) × (length (fields l) ≡ n)
unfolding entries_line
good_line l n e = cond_some (is_entries l) (length (fields l)) n e

module _ (t : List ℕ) (e : ℕ) (p : e ≡ 0 + length (up_to 10 (drop 0 t))) where
  abbrev line : List ℕ
  line = take (e - 0) (drop 0 t)

  abbrev rest : List (List ℕ)
  rest = lines (drop (e + 1) t)

  pub first_bad : (r : Option ℕ) → r ≡ entries_line line → r ≡ None → refused 13 (pos 1 ∷ []) ≡ judge (input_refusals t) (counts_of t)
  unfolding input_refusals
  first_bad r f g =
      let b : is_entries (entry_line t) ≡ false = ap is_entries (split t e p).0 ∙ bad_line line (sym f ∙ g) in
      sym (stop _ _ _ (rw b))

  pub first_good : (r : Option ℕ) → r ≡ entries_line line → (n : ℕ) → r ≡ Some n → judge (image_refusals 2 0 rest) (counts n (length (bytes_in_lines rest)))
      ≡ judge (input_refusals t) (counts_of t)
  unfolding input_refusals counts_of
  first_good r f n g =
      let w = good_line line n (sym f ∙ g) in
      let s = split t e p in
      let b : is_entries (entry_line t) ≡ true = ap is_entries s.0 ∙ w.0 in
      let m : length (entries_of t) ≡ n = length-map (fields (entry_line t)) four_of ∙ ap (λ (l : List ℕ). length (fields l)) s.0 ∙ w.1 in
      sym
      (pass _ _ _ (rw b)
      ∙ ap (λ (ls : List (List ℕ)). judge (image_refusals 2 0 ls) (counts (length (entries_of t)) (length (bytes_in_lines ls)))) s.1
      ∙ ap (λ (k : ℕ). judge (image_refusals 2 0 rest) (counts k (length (bytes_in_lines rest)))) m)

  -- how much there is to write
  pub entries_fit : (k : ℕ) → length (entries_of t) ≤ k → length (fields line) ≤ k
  entries_fit k h =
      omega (arith, length-map (fields (entry_line t)) four_of ∙ ap (λ (l : List ℕ). length (fields l)) (split t e p).0)

  pub image_fits : (k : ℕ) → length (image_of t) ≤ k → length (bytes_in_lines rest) ≤ k
  image_fits k h = omega (arith, ap (λ (ls : List (List ℕ)). length (bytes_in_lines ls)) (split t e p).1)

  pub put_whole : (room image : List ℕ) → length (entries_of t) ≤ length room → length (image_of t) ≤ length image → (room' : List ℕ)
      → room' ≡ sets room 0 (entries_in line) → (image' : List ℕ) → image' ≡ sets image 0 (bytes_in_lines rest)
      → (room' ≡ laid (entries_of t) room) × (image' ≡ laid (image_of t) image)
  put_whole room image h k room' f image' g =
      let s = split t e p in (
        f ∙ ap (λ (l : List ℕ). sets room 0 (entries_in l)) (sym s.0) ∙ laid_over (entries_of t) room h,
        g ∙ ap (λ (ls : List (List ℕ)). sets image 0 (bytes_in_lines ls)) (sym s.1) ∙ laid_over (image_of t) image k,
      )
