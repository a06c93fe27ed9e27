-- Empty lines counted byte by byte, and part by part; and that each image but one is ended by one of them.
-- Assumes nothing.
use Prim.Native.Nat.{ℕ, zero, suc, ◌+◌, ◌≤◌, ◌<◌}
use native.Mathlib.Nat.{zero-add}
use native.Mathlib.Omega.{arith}
use mathlib.Core.Bool.{Bool, true, false, cond, ◌&&◌}
use mathlib.Core.List.{List, [], ◌∷◌, ◌++◌}
use mathlib.Core.Path.{◌≡◌, refl, ap}
use lib.Dec.{eqb}
use lib.ListN.{length, get_or, take, drop, length-append, length-drop, length-map}
use lib.Seq.{drop-cons}
use mir.Val.{bool_byte}
use Rattle.instruction.proofs.Ands.{second_part}
use Rattle.reach.proofs.Count.{one}
use Rattle.text.specs.Cut.{lines}
use Rattle.report_text.specs.Empty.{ends_empty, empty_lines, is_quiet}
use Rattle.report_text.specs.Images.{images_of}
use Rattle.report_text.proofs.Counts.{a_byte}
use Rattle.report_text.proofs.ImageTexts.{ended_text, texts, texts_images}

-- two bytes or more, and fewer
pub empty_next : (l : List ℕ) (j : ℕ) → suc j < length l
    → empty_lines (drop j l) ≡ bool_byte (ends_empty (get_or l j 0) (get_or l (suc j) 0)) + empty_lines (drop (suc j) l)
unfolding empty_lines
empty_next l j h = rw (drop-cons l j 0 (omega arith), drop-cons l (suc j) 0 h, a_byte (ends_empty (get_or l j 0) (get_or l (suc j) 0)))

pub empty_few : (l : List ℕ) → length l ≤ 1 → empty_lines l ≡ 0
unfolding empty_lines
empty_few [] h = refl
empty_few (a ∷ []) h = refl
empty_few (a ∷ b ∷ t) h = absurd (omega arith)

pub empty_most : (l : List ℕ) → empty_lines l ≤ length l
unfolding empty_lines
empty_most [] = omega arith
empty_most (a ∷ []) = omega arith
empty_most (a ∷ b ∷ t) = by (ends_empty a b) (empty_most (b ∷ t))
  where
    by : (x : Bool) → empty_lines (b ∷ t) ≤ suc (length t) → one x + empty_lines (b ∷ t) ≤ suc (suc (length t))
    by true r = omega arith
    by false r = omega arith

-- two parts that have one byte in common
pub empty_parts : (k : ℕ) (l : List ℕ) → empty_lines (take (suc k) l) + empty_lines (drop k l) ≡ empty_lines l
unfolding empty_lines
empty_parts zero [] = refl
empty_parts zero (a ∷ l) = zero-add (empty_lines (a ∷ l))
empty_parts (suc k) [] = refl
empty_parts (suc k) (a ∷ []) = let z = empty_few (drop k []) (omega (arith, length-drop {A = ℕ} k [])) in omega arith
empty_parts (suc k) (a ∷ b ∷ t) = let r = empty_parts k (b ∷ t) in omega arith

-- where none is counted, none ends
pub quiet_none : (f : Bool) (p : List ℕ) → 0 < length p → (f && eqb (get_or p 0 0) 10) ≡ false → empty_lines p ≡ 0 → is_quiet f p ≡ true
unfolding is_quiet empty_lines
quiet_none f [] h e z = absurd (omega arith)
quiet_none f (b ∷ []) h e z = rw e
quiet_none f (b ∷ c ∷ t) h e z =
    let k = by (ends_empty b c) refl z in rw e (quiet_none (eqb b 10) (c ∷ t) (omega arith) k.0 k.1)
  where
    by : (x : Bool) → ends_empty b c ≡ x → one x + empty_lines (c ∷ t) ≡ 0 → (ends_empty b c ≡ false) × (empty_lines (c ∷ t) ≡ 0)
    by true i j = absurd (omega arith)
    by false i j = (i, omega arith)

-- the images
ended_most : (h : List ℕ) → length (ended_text h) ≤ 1
ended_most [] = omega arith
ended_most (b ∷ h) = omega arith

texts_most : (a : ℕ) (h t : List ℕ) → length (texts (eqb a 10) h t) ≤ empty_lines (a ∷ t) + 1
unfolding texts empty_lines
texts_most a h [] = ended_most h
texts_most a h (b ∷ t) = by (ends_empty a b) refl (λ k. texts_most b k t)
  where
    by : (x : Bool) → ends_empty a b ≡ x → ((k : List ℕ) → length (texts (eqb b 10) k t) ≤ empty_lines (b ∷ t) + 1)
        → length (cond x (ended_text h ++ texts true [] t) (texts (eqb b 10) (h ++ b ∷ []) t)) ≤ one x + empty_lines (b ∷ t) + 1
    by true e r =
        let q = ap (λ (f : Bool). length (texts f [] t)) (second_part (eqb a 10) (eqb b 10) e) in
        omega (arith, q, r [], ended_most h, length-append (ended_text h) (texts true [] t))
    by false e r = omega (arith, r (h ++ b ∷ []))

first_texts : (t : List ℕ) → length (texts true [] t) ≤ empty_lines t + 1
unfolding texts empty_lines
first_texts [] = omega arith
first_texts (b ∷ t) = by (eqb b 10) refl
  where
    by : (x : Bool) → eqb b 10 ≡ x → length (cond x (texts true [] t) (texts (eqb b 10) (b ∷ []) t)) ≤ empty_lines (b ∷ t) + 1
    by true e = let q = ap (λ (f : Bool). length (texts f [] t)) e in omega (arith, q, texts_most b [] t)
    by false e = texts_most b (b ∷ []) t

pub images_most : (text : List ℕ) → length (images_of text) ≤ empty_lines text + 1
images_most text = omega (arith, ap length (texts_images text), length-map (texts true [] text) lines, first_texts text)
