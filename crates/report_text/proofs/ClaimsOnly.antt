-- Nothing is refused but a malformed image and an instruction cut off.
-- Assumes nothing.
use mathlib.Core.Path.{◌≡◌, refl, sym, ap, ◌∙◌}
use mathlib.Core.Bool.{Bool, true, false, cond}
use mathlib.Core.List.{List, [], ◌∷◌}
use mathlib.Core.Logic.{◌⊎◌, inl, inr}
use Prim.Native.Nat.{ℕ, suc, ◌+◌, ◌≤◌}
use native.Mathlib.Omega.{arith}
use lib.IntN.{ℤ}
use lib.ListN.{length}
use Rattle.instruction.specs.Answer.{Answer, accepted, refused, judge}
use Rattle.instruction.specs.declared.mode.Mode.TheVariants.{Unwrapped}
use Rattle.instruction.proofs.Accepting.{differ, passed}
use Rattle.instruction.proofs.Carried.{Each, carries}
use Rattle.instruction.proofs.Judging.{accepts, accepts_too}
use Rattle.text.specs.Bytes.{bytes_of}
use Rattle.trace.specs.Run.{RunResult, run_answer, run_marks}
use Rattle.list_text.specs.Bytes.{bytes_in_lines}
use Rattle.list_text.specs.Entries.{entries_in}
use Rattle.list_text.specs.Output.{lent_room}
use Rattle.list_text.specs.Text.{first, others, counts, image_refusals, refusals_in}
use Rattle.list_text.specs.declared.parsed.Input.{Input}
use Rattle.list_text.proofs.Longest.{image_most}
use Rattle.list_text.proofs.RunRefused.{run_five}
use Rattle.report_text.specs.ClaimsReport.{OnlyThirteenAndFive}
use Rattle.report_text.specs.Image.{of_run, traced, input_lines, of_lines, input_answer, image_answer}
use Rattle.report_text.specs.Name.{is_name_line}

-- a refused run
traced_five : (image entries : List ℕ) → length image ≤ 16384 → (n : ℕ) (vs : List ℤ) → traced image entries ≡ refused n vs → n ≡ 5
unfolding traced
traced_five image entries h n vs e = by answer refl e
  where
    answer : Answer RunResult
    answer = run_answer Unwrapped image (lent_room image) (lent_room image) entries [] (length image)

    m : List ℕ
    m = run_marks Unwrapped image (lent_room image) (lent_room image) entries [] (length image)

    by : (r : Answer RunResult) → answer ≡ r → of_run image m r ≡ refused n vs → n ≡ 5
    by (accepted c) f g = absurd (differ (sym g))
    by (refused k us) f g = let q : n ≡ k = cc in q ∙ run_five Unwrapped image entries [] (omega (arith, h)) k us f

-- a bad line
abbrev Thirteen : ℕ → List ℤ → Type 0
Thirteen n vs = n ≡ 13

image_13 : (k n : ℕ) (ls : List (List ℕ)) → Each Thirteen (image_refusals k n ls)
unfolding image_refusals
image_13 k n [] = tt
image_13 k n (l ∷ ls) = (refl, image_13 (suc k) (n + length (bytes_of l)) ls)

module _ (ls : List (List ℕ)) where
  -- good lines hold no more than an image may have
  pub few : (a : ℕ) → judge {A = ℕ} (refusals_in ls) 0 ≡ accepted a → length (bytes_in_lines (others ls)) ≤ 16384
  few a e =
      let c : Input = counts 0 0 in
      let z : judge {A = ℕ} (refusals_in ls) 0 ≡ accepted 0 = e ∙ ap accepted (sym (accepts (refusals_in ls) 0 a e)) in
      let v : judge (refusals_in ls) c ≡ accepted c = accepts_too (refusals_in ls) 0 c z in
      omega (arith, (image_most 2 0 (others ls) c c (omega arith) (passed _ _ c v).1).1)

  pub input_only : (n : ℕ) (vs : List ℤ) → input_answer ls ≡ refused n vs → (n ≡ 13) ⊎ (n ≡ 5)
  unfolding input_answer
  input_only n vs e = by (judge {A = ℕ} (refusals_in ls) 0) refl e
    where
      by : (r : Answer ℕ) → judge {A = ℕ} (refusals_in ls) 0 ≡ r → of_lines r (traced (bytes_in_lines (others ls)) (entries_in (first ls))) ≡ refused n vs
          → (n ≡ 13) ⊎ (n ≡ 5)
      by (accepted a) f g = inr (traced_five (bytes_in_lines (others ls)) (entries_in (first ls)) (few a f) n vs g)
      by (refused k us) f g =
          let q : n ≡ k = cc in inl (q ∙ carries Thirteen (refusals_in ls) 0 k us (refl, image_13 2 0 (others ls)) (sym f))

pub only_thirteen_and_five : OnlyThirteenAndFive
unfolding image_answer
only_thirteen_and_five i n vs e = by (is_name_line (first i)) e
  where
    by : (t : Bool) → cond t (input_answer (input_lines (others i))) (refused 13 []) ≡ refused n vs → (n ≡ 13) ⊎ (n ≡ 5)
    by true f = input_only (input_lines (others i)) n vs f
    by false f = let q : n ≡ 13 = cc in inl q
