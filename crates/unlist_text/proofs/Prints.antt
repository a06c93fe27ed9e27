-- What is printed for each answer of the reader, which is lent rooms for the longest image.
-- Assumes nothing.
use mathlib.Core.Path.{◌≡◌, refl, sym, ap, ◌∙◌}
use mathlib.Core.Bool.{Bool, true, false}
use mathlib.Core.List.{List, [], ◌∷◌}
use Prim.Native.Nat.{ℕ, ◌≤◌}
use native.Mathlib.Omega.{arith}
use borrow.Author.Tests.{ltb-true, ltb-false}
use lib.Dec.{ltb}
use lib.IntN.{pos}
use lib.ListN.{length, take, length-take, length-replicate}
use lib.Seq.{take_all}
use Rattle.instruction.specs.Answer.{Answer, accepted, refused}
use Rattle.instruction.specs.declared.mode.Mode.TheVariants.{Unwrapped}
use Rattle.read_back.specs.Back.{back_answer, back_image}
use Rattle.read_back.proofs.BackLengths.{back_length, put_back}
use Rattle.read_back.proofs.Backs.{too_long, by_lines}
use Rattle.unlist_text.specs.Unlisted.{image_text, empty_room, printed, unlisted_of}
use Rattle.list_text.specs.Refusal.{value_line}

-- the same text printed
module _ (text : List ℕ) (n : ℕ) (x y : List ℕ) (e : length x ≡ 65536) (f : length y ≡ 65536) where
  abbrev room : List ℕ
  room = empty_room n

  long : length room ≡ n
  long = length-replicate n 0

  answer_is : back_answer Unwrapped text n x y ≡ back_answer Unwrapped text n room room
  answer_is = by (ltb 65536 n) refl
    where
      by : (b : Bool) → ltb 65536 n ≡ b → back_answer Unwrapped text n x y ≡ back_answer Unwrapped text n room room
      by true t = let h = ltb-true 65536 n t in sym (too_long Unwrapped text n x y h).0 ∙ (too_long Unwrapped text n room room h).0
      by false t =
          let h = ltb-false 65536 n t in
          sym (by_lines Unwrapped text n x y h (omega arith) (omega arith)) ∙ by_lines Unwrapped text n room room h (omega (arith, long)) (omega (arith, long))

  pub refused_print : (r v : ℕ) → refused r (pos v ∷ []) ≡ back_answer Unwrapped text n x y → value_line r v ≡ unlisted_of text n
  unfolding unlisted_of
  refused_print r v g = ap (λ (a : Answer ℕ). printed (back_image Unwrapped text n room room) a) (g ∙ answer_is)

  pub accepted_print : (k : ℕ) → accepted k ≡ back_answer Unwrapped text n x y → (image bytes : List ℕ) → image ≡ back_image Unwrapped text n x y
      → bytes ≡ take n image → image_text bytes ≡ unlisted_of text n
  unfolding unlisted_of
  accepted_print k g image bytes i b =
      let a : accepted k ≡ back_answer Unwrapped text n room room = g ∙ answer_is in
      let w : take n (back_image Unwrapped text n room room) ≡ back_image Unwrapped text n room room =
      take_all n _ (omega (arith, back_length Unwrapped text n room room (omega (arith, long)), long)) in
      ap image_text (b ∙ ap (take n) i ∙ put_back Unwrapped text n x y k g ∙ sym (put_back Unwrapped text n room room k a) ∙ w)
      ∙ ap (λ (c : Answer ℕ). printed (back_image Unwrapped text n room room) c) a

-- no more than there are
pub first_few : (n : ℕ) (l bytes : List ℕ) → bytes ≡ take n l → length bytes ≤ length l
first_few n l bytes e = omega (arith, ap length e, length-take n l)
