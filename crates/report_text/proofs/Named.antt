-- What is reported of an image's text: its first line names it, or 13.
-- Assumes nothing.
use mathlib.Core.Path.{◌≡◌, refl, sym, ap, ◌∙◌}
use mathlib.Core.Bool.{Bool, true, false, cond}
use mathlib.Core.List.{List, []}
use Prim.Native.Nat.{ℕ, ◌+◌, ◌-◌, ◌≤◌}
use native.Mathlib.Omega.{arith}
use lib.Dec.{eqb, leb}
use lib.ListN.{length, get_or, take, drop, length-drop}
use borrow.Author.Tests.{leb-true}
use Rattle.instruction.specs.Answer.{Answer, refused}
use Rattle.instruction.proofs.Ands.{first_part, second_part}
use Rattle.text.specs.Cut.{up_to, lines}
use Rattle.targets.proofs.HereIs.{to_end}
use Rattle.list_text.specs.Text.{first, others}
use Rattle.list_text.proofs.Firsts.{split}
use Rattle.report_text.specs.Image.{input_lines, input_answer, image_answer}
use Rattle.report_text.specs.Name.{is_name_line}
use Rattle.report_text.specs.declared.figures.Figures.{Figures}

-- the first line ends at e
module _ (t : List ℕ) (e : ℕ) (p : e ≡ 0 + length (up_to 10 (drop 0 t))) where
  answered : (b : Bool) → is_name_line (take e t) ≡ b
      → cond b (input_answer (input_lines (others (lines t)))) (refused 13 []) ≡ image_answer (lines t)
  unfolding image_answer
  answered b f =
      sym (ap (λ (x : Bool). cond x (input_answer (input_lines (others (lines t)))) (refused 13 [])) (ap is_name_line (split t e p).0 ∙ ap (λ (n : ℕ). is_name_line (take n t)) (let z : e - 0 ≡ e = omega arith in z) ∙ f))

  pub unnamed : is_name_line (take e t) ≡ false → refused 13 [] ≡ image_answer (lines t)
  unnamed = answered false

  -- the second line begins at i, and in the text from there on the input's lines at j
  pub named : is_name_line (take e t) ≡ true → (i : ℕ) → lines (drop i t) ≡ others (lines t) → (rest : List ℕ) → rest ≡ take (length t - i) (drop i t)
      → (j : ℕ) → input_answer (lines (drop j rest)) ≡ input_answer (input_lines (lines rest))
      → (r : Answer Figures) → r ≡ input_answer (lines (take (length rest - j) (drop j rest))) → r ≡ image_answer (lines t)
  named z i f rest g j h r q =
      q ∙ ap (λ (s : List ℕ). input_answer (lines s)) (to_end rest j) ∙ h
      ∙ ap (λ (s : List ℕ). input_answer (input_lines (lines s))) (g ∙ to_end t i)
      ∙ ap (λ (ls : List (List ℕ)). input_answer (input_lines ls)) f
      ∙ answered true z
