-- An image that is complete: the record afterwards and what is put.
-- Assumes nothing.
use Prim.Native.Nat.{ℕ, ◌≤◌}
use mathlib.Core.Bool.{Bool, true, false, cond}
use mathlib.Core.List.{List, []}
use mathlib.Core.Path.{◌≡◌, refl, sym, ap, subst, ◌∙◌}
use Rattle.instruction.specs.Answer.{Answer}
use Rattle.text.specs.Cut.{lines}
use Rattle.text.specs.Puts.{Puts}
use Rattle.text.proofs.Putting.{puts_as}
use Rattle.list_text.specs.Refusal.{number_line}
use Rattle.list_text.specs.Text.{first}
use Rattle.report_text.specs.Name.{name_of}
use Rattle.report_text.specs.Image.{image_answer}
use Rattle.report_text.specs.Sums.{adding, fitting}
use Rattle.report_text.specs.Report.{image_line}
use Rattle.report_text.specs.Term.{image_out, image_term, Finishing}
use Rattle.report_text.specs.declared.figures.Figures.{Figures}
use Rattle.report_text.specs.declared.sums.Sums.{Sums}
use Rattle.report_text.specs.declared.term.Term.{Term}

-- an image whose sums fit, and one whose sums do not
module _ (s : Sums) (i : List (List ℕ)) where
  pub out_on : fitting (adding s (image_answer i)) ≡ true → (image_out s i ≡ image_line (name_of (first i)) (image_answer i)) ×
      (image_term s i ≡ record { sums = adding s (image_answer i); held = 0; fresh = true; over = false })
  unfolding image_out image_term
  out_on e = (rw e refl, rw e refl)

  pub out_over : fitting (adding s (image_answer i)) ≡ false
      → (image_out s i ≡ number_line 22) × (image_term s i ≡ record { sums = s; held = 0; fresh = true; over = true })
  unfolding image_out image_term
  out_over e = (rw e refl, rw e refl)

module _ (s : Sums) (text out out' : List ℕ) (a : Answer Figures) (e : a ≡ image_answer (lines text)) (n : ℕ) (m : n ≤ 159) where
  abbrev image : List (List ℕ)
  image = lines text

  pub finish_over : fitting (adding s a) ≡ false → Puts (number_line 22) 0 out out' n
      → Finishing s text out out' (record { term = record { sums = s; held = 0; fresh = true; over = true }; printed = n })
  finish_over f p =
      let o = out_over s image (ap (λ (x : Answer Figures). fitting (adding s x)) (sym e) ∙ f) in
      record { put = puts_as (sym o.0) p; term_is = sym o.1; most = m }

  pub finish_on : (t : Sums) → t ≡ adding s a → fitting (adding s a) ≡ true → (l : List ℕ) → l ≡ first image → Puts (image_line (name_of l) a) 0 out out' n
      → Finishing s text out out' (record { term = record { sums = t; held = 0; fresh = true; over = false }; printed = n })
  finish_on t g f l k p =
      let o = out_on s image (ap (λ (x : Answer Figures). fitting (adding s x)) (sym e) ∙ f) in
      record {
        put = puts_as (ap (λ (x : List ℕ). image_line (name_of x) a) k ∙ ap (image_line (name_of (first image))) e ∙ sym o.0) p;
        term_is = ap (λ (x : Sums). record { sums = x; held = 0; fresh = true; over = false }) (g ∙ ap (adding s) e) ∙ sym o.1;
        most = m;
      }
