-- What is held of an image's text is enough: of a longer one the rest does not matter.
-- Assumes nothing.
use Prim.Native.Nat.{ℕ, zero, suc, ◌+◌, ◌-◌, ◌≤◌, ◌<◌, min}
use native.Mathlib.Omega.{arith}
use mathlib.Core.Bool.{Bool, true, false, cond, ◌&&◌}
use mathlib.Core.List.{List, [], ◌∷◌}
use mathlib.Core.Logic.{◌⊎◌, inl, inr, ⊎_elim}
use mathlib.Core.Path.{◌≡◌, refl, sym, ap, ap₂, ◌∙◌}
use lib.Dec.{eqb, leb}
use lib.IntN.{ℤ}
use lib.ListN.{length, get_or, take, drop, length-take, length-drop}
use lib.Seq.{take_all, length-take-le}
use Prim.Native.Char.{code}
use borrow.Author.Tests.{leb-true, ne_eqb}
use Rattle.instruction.specs.Answer.{Answer, accepted, refused, judge}
use Rattle.instruction.proofs.Accepting.{differ}
use Rattle.instruction.proofs.Ands.{first_part, second_part, not_first, not_second}
use Rattle.instruction.proofs.Judging.{refuses_too}
use Rattle.instruction.proofs.Sign.{never}
use Rattle.reach.proofs.Cases.{lt_or_le}
use Rattle.text.specs.Cut.{before, cut, up_to, lines}
use Rattle.list_text.specs.Bytes.{bytes_in_lines}
use Rattle.list_text.specs.Entries.{entries_in}
use Rattle.list_text.specs.ClaimsInput.{refusal_of}
use Rattle.list_text.specs.Text.{first, others, refusals_in, input_refusals, counts_of}
use Rattle.list_text.specs.declared.parsed.Input.{Input}
use Rattle.list_text.proofs.Longest.{Thirteen, lines_13, longest}
use Rattle.report_text.specs.Name.{is_name, all_named, name_in, is_name_line, name_of}
use Rattle.report_text.specs.Image.{is_dash, input_lines, of_lines, traced, input_answer, image_answer}
use Rattle.report_text.specs.Term.{most}
use Rattle.report_text.specs.declared.figures.Figures.{Figures}
use Rattle.report_text.proofs.Firsts.{first_is, others_are, up_to_taken}

-- a line that names an image is short
pub name_line_short : (l : List ℕ) → is_name_line l ≡ true → length l ≤ 34
unfolding is_name_line is_name
name_line_short l e =
    let t : Bool = eqb (get_or l 1 0) 9 in
    let n : is_name (name_in l) ≡ true = second_part t (is_name (name_in l)) (second_part (eqb (get_or l 0 0) (code "N")) (t && is_name (name_in l)) e) in
    let m = leb-true (length (name_in l)) 32 (first_part (leb (length (name_in l)) 32) (all_named (name_in l)) (second_part (leb 1 (length (name_in l))) _ n)) in
    omega (arith, length-drop 2 l)

long_line : (l : List ℕ) → 34 < length l → is_name_line l ≡ false
long_line l h = by (is_name_line l) refl
  where
    by : (x : Bool) → is_name_line l ≡ x → is_name_line l ≡ false
    by true e = let k = name_line_short l e in absurd (omega arith)
    by false e = e

-- a text that is too long for the listing program is 13
module _ (text : List ℕ) (h : 50432 < length text) where
  refused_13 : (vs : List ℤ) × (judge {A = ℕ} (input_refusals text) 0 ≡ refused 13 vs)
  refused_13 = by (judge (input_refusals text) (counts_of text)) refl (lines_13 text)
    where
      by : (r : Answer Input) → judge (input_refusals text) (counts_of text) ≡ r → Thirteen r (counts_of text)
          → (vs : List ℤ) × (judge {A = ℕ} (input_refusals text) 0 ≡ refused 13 vs)
      by (accepted c) e (inl v) = let k = longest text (e ∙ v) in absurd (omega arith)
      by (accepted c) e (inr q) = absurd (omega arith)
      by (refused n vs) e (inl v) = absurd (differ v)
      by (refused n vs) e (inr q) = (vs, refuses_too (input_refusals text) (counts_of text) 0 n vs e ∙ ap (λ (k : ℕ). refused k vs) q)

  long_input : input_answer (lines text) ≡ refused 13 []
  unfolding input_answer input_refusals
  long_input = ap (λ (r : Answer ℕ). of_lines r (traced (bytes_in_lines (others (lines text))) (entries_in (first (lines text))))) refused_13.1

-- the line for no entries
before_twice : (b c : ℕ) (ls : List (List ℕ)) → is_dash (first (before b (before c ls))) ≡ false
before_twice b c [] = refl
before_twice b c (l ∷ ls) = not_first (eqb (suc (suc (length l))) 1) _ (ne_eqb (suc (suc (length l))) 1 (λ e. omega arith))

dash_text : (b c : ℕ) (t : List ℕ) → is_dash (first (lines (b ∷ c ∷ t))) ≡ true → input_lines (lines (b ∷ c ∷ t)) ≡ lines (c ∷ t)
unfolding cut
dash_text b c t e = by (eqb b 10) refl (eqb c 10) refl e
  where
    rest : Bool → List (List ℕ)
    rest y = cond y ([] ∷ lines t) (before c (lines t))

    by : (x : Bool) → eqb b 10 ≡ x → (y : Bool) → eqb c 10 ≡ y → is_dash (first (cond x ([] ∷ rest y) (before b (rest y)))) ≡ true
        → input_lines (cond x ([] ∷ rest y) (before b (rest y))) ≡ rest y
    by true p y q f = absurd (never (sym f))
    by false p true q f = rw f refl
    by false p false q f = absurd (never (sym f ∙ before_twice b c (lines t)))

no_dash : (ls : List (List ℕ)) → is_dash (first ls) ≡ false → input_lines ls ≡ ls
no_dash [] e = refl
no_dash (l ∷ ls) e = rw e refl

long_lines : (t : List ℕ) → 50433 < length t → input_answer (input_lines (lines t)) ≡ refused 13 []
long_lines [] h = absurd (omega arith)
long_lines (b ∷ []) h = absurd (omega arith)
long_lines (b ∷ c ∷ t) h = by (is_dash (first (lines (b ∷ c ∷ t)))) refl
  where
    by : (x : Bool) → is_dash (first (lines (b ∷ c ∷ t))) ≡ x → input_answer (input_lines (lines (b ∷ c ∷ t))) ≡ refused 13 []
    by true e = ap input_answer (dash_text b c t e) ∙ long_input (c ∷ t) (omega arith)
    by false e = ap input_answer (no_dash (lines (b ∷ c ∷ t)) e) ∙ long_input (b ∷ c ∷ t) (omega arith)

-- a bad first line
module _ (ls : List (List ℕ)) (e : is_name_line (first ls) ≡ false) where
  bad_answer : image_answer ls ≡ refused 13 []
  unfolding image_answer
  bad_answer = rw e refl

  bad_name : name_of (first ls) ≡ code "-" ∷ []
  unfolding name_of
  bad_name = rw e refl

-- a good one with too long a text after it
long_answer : (h : List ℕ) → is_name_line (first (lines h)) ≡ true → 51200 ≤ length h → image_answer (lines h) ≡ refused 13 []
unfolding image_answer
long_answer h e k =
    let s = name_line_short (first (lines h)) e in
    let u = ap length (first_is h) in
    let d = length-drop (suc (length (up_to 10 h))) h in
    rw e (ap (λ (r : List (List ℕ)). input_answer (input_lines r)) (others_are h) ∙ long_lines (drop (suc (length (up_to 10 h))) h) (omega arith))

abbrev Same : List ℕ → List ℕ → Type 0
Same h k = (image_answer (lines h) ≡ image_answer (lines k)) × (name_of (first (lines h)) ≡ name_of (first (lines k)))

held_long : (h : List ℕ) → 51200 < length h → Same (take most h) h
held_long h k = by (is_name_line (first (lines h))) refl
  where
    first_taken : first (lines (take most h)) ≡ take most (first (lines h))
    first_taken = first_is (take most h) ∙ up_to_taken most h ∙ ap (take most) (sym (first_is h))

    short : is_name_line (take most (first (lines h))) ≡ is_name_line (first (lines h)) → is_name_line (first (lines h)) ≡ false → Same (take most h) h
    short e f =
        let g : is_name_line (first (lines (take most h))) ≡ false = ap is_name_line first_taken ∙ e ∙ f in
        (bad_answer (lines (take most h)) g ∙ sym (bad_answer (lines h) f), bad_name (lines (take most h)) g ∙ sym (bad_name (lines h) f))

    by : (x : Bool) → is_name_line (first (lines h)) ≡ x → Same (take most h) h
    by true e =
        let s = name_line_short (first (lines h)) e in
        let f : first (lines (take most h)) ≡ first (lines h) = first_taken ∙ take_all most (first (lines h)) (omega arith) in
        let l = length-take-le most h (omega arith) in
        (long_answer (take most h) (ap is_name_line f ∙ e) (omega arith) ∙ sym (long_answer h e (omega arith)), ap name_of f)
    by false e =
        ⊎_elim
        (λ g. short
        (long_line (take most (first (lines h))) (let l = length-take-le most (first (lines h)) (omega arith) in omega arith) ∙ sym
        (long_line (first (lines h)) (omega arith))) e)
        (λ g. short (ap is_name_line (take_all most (first (lines h)) g)) e) (lt_or_le most (length (first (lines h))))

pub held_enough : (h : List ℕ) → Same (take most h) h
held_enough h =
    ⊎_elim (held_long h) (λ k. let e = take_all most h k in (ap (λ (x : List ℕ). image_answer (lines x)) e, ap (λ (x : List ℕ). name_of (first (lines x))) e))
    (lt_or_le most (length h))
