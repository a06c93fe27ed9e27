-- Where the lines of an input begin in the lines of an image: at the second, and after a `-` that stands alone.
-- Assumes nothing.
use mathlib.Core.Path.{◌≡◌, refl, sym, ap, ◌∙◌}
use mathlib.Core.Bool.{Bool, true, false, cond}
use mathlib.Core.List.{List, [], ◌∷◌}
use Prim.Native.Nat.{ℕ, suc, ◌+◌, ◌-◌, ◌<◌, ◌≤◌}
use native.Mathlib.Omega.{arith}
use lib.Dec.{eqb}
use lib.ListN.{length, get_or, take, drop}
use lib.Seq.{length-take-le, get_or-take}
use borrow.Author.Tests.{ne_eqb}
use Rattle.instruction.proofs.Ands.{not_first, not_second}
use Rattle.text.specs.Cut.{before, cut, up_to, lines}
use Rattle.text.proofs.Cuts.{end_inside, line_next, lines_end}
use Rattle.list_text.specs.Text.{others}
use Rattle.list_text.proofs.Firsts.{split}
use Rattle.report_text.specs.Image.{is_dash, input_lines, input_answer}

-- a first line of another length, or that begins with another byte
module _ (t : List ℕ) (e : ℕ) (p : e ≡ 0 + length (up_to 10 (drop 0 t))) where
  line_long : length (take (e - 0) (drop 0 t)) ≡ e
  line_long = let h = end_inside 10 t 0 (omega arith) in let k = length-take-le (e - 0) t (omega arith) in omega arith

  pub first_inside : e ≤ length t
  first_inside = let h = end_inside 10 t 0 (omega arith) in omega arith

  other_line : (is_dash (take (e - 0) (drop 0 t)) ≡ false) → input_answer (lines t) ≡ input_answer (input_lines (lines t))
  unfolding cut
  other_line n = by t p n
    where
      by : (t : List ℕ) → e ≡ 0 + length (up_to 10 (drop 0 t)) → is_dash (take (e - 0) (drop 0 t)) ≡ false
          → input_answer (lines t) ≡ input_answer (input_lines (lines t))
      by [] p n = refl
      by (b ∷ t) p n =
          let s = line_next (b ∷ t) 0 e p (omega arith) in
          ap input_answer (s ∙ sym (ap input_lines s ∙ rw n))

  pub other_length : (e ≡ 1 → ⊥) → input_answer (lines t) ≡ input_answer (input_lines (lines t))
  other_length n = other_line (not_first _ _ (ne_eqb _ 1 (λ k. n (sym line_long ∙ k))))

  pub other_byte : e ≡ 1 → (get_or t 0 0 ≡ 45 → ⊥) → input_answer (lines t) ≡ input_answer (input_lines (lines t))
  other_byte k n =
      other_line (not_second (eqb (length (take (e - 0) (drop 0 t))) 1) _ (ne_eqb _ 45 (λ j. n (sym (get_or-take (e - 0) t 0 0 (omega arith)) ∙ j))))

-- one `-` alone
pub dash_alone : (t : List ℕ) → 1 ≡ 0 + length (up_to 10 (drop 0 t)) → get_or t 0 0 ≡ 45 → input_answer (lines (drop 1 t)) ≡ input_answer (input_lines (lines t))
unfolding cut up_to input_answer
dash_alone [] p e = absurd (omega arith)
dash_alone (b ∷ []) p e = rw e
dash_alone (b ∷ c ∷ t) p e = by (eqb c 10) (rw e at p)
  where
    rest : Bool → List (List ℕ)
    rest x = cond x ([] ∷ lines t) (before c (lines t))

    by : (x : Bool) → 1 ≡ 0 + suc (length (cond x [] (c ∷ up_to 10 t)))
        → input_answer (rest x) ≡ input_answer (input_lines (cond (eqb b 10) ([] ∷ rest x) (before b (rest x))))
    by true q = rw e
    by false q = absurd (omega arith)

-- the second line, if the first ends at e
module _ (t : List ℕ) (e : ℕ) (p : e ≡ length (up_to 10 t)) where
  starts : e ≡ 0 + length (up_to 10 (drop 0 t))
  starts = omega arith

  pub second_inside : e < length t → (e + 1 ≤ length t) × (lines (drop (e + 1) t) ≡ others (lines t))
  second_inside h = (omega arith, sym (split t e starts).1)

  pub second_none : length t ≤ e → (e ≤ length t) × (lines (drop e t) ≡ others (lines t))
  second_none h = (first_inside t e starts, lines_end t e h ∙ sym ((split t e starts).1 ∙ lines_end t (e + 1) (omega arith)))
