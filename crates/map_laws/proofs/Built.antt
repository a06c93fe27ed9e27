-- What an accepted build says: sound marks, enough words, and the bits that it leaves.
-- Assumes nothing.
use Prim.Native.Nat.{ℕ, ◌+◌, ◌*◌, ◌/◌, ◌%◌, ◌<◌, ◌≤◌}
use native.Mathlib.Omega.{arith}
use mathlib.Core.Path.{◌≡◌, refl, sym, ap, subst, ◌∙◌}
use mathlib.Core.Bool.{Bool, false, ◌&&◌}
use mathlib.Core.List.{List, [], ◌∷◌, ◌++◌}
use lib.Dec.{ltb}
use lib.ListN.{length, get_or, drop, get_or-append}
use borrow.Author.Tests.{lt-ltb, le-ltb, ltb-false}
use Rattle.instruction.specs.Answer.{Answer, accepted, Refusal, judge}
use Rattle.instruction.proofs.Accepting.{passed}
use Rattle.map.specs.Bits.{one}
use Rattle.map.proofs.Digits.{one_digits}
use Rattle.map.specs.Words.{words_for, code_at}
use Rattle.views.specs.Mask.{masked, mask_of}
use Rattle.views.specs.View.{Sound, view_refusals, room_answer, view_answer}
use Rattle.views.proofs.Viewing.{shown_as}
use Rattle.map.specs.Packed.{packed}
use Rattle.map.specs.Build.{build_answer, build_words}
use Rattle.map.proofs.Packing.{inside, map_at}
use Rattle.map.proofs.Marking.{packed_mask, packed_length}

-- a list of refusals that goes on: where the whole accepts, its beginning does, and so does the rest
halves : (rs qs : List Refusal) (a k : ℕ) → judge (rs ++ qs) a ≡ accepted k → ◌≡◌ {A = Answer ℕ} (judge rs 0) (accepted 0) × (judge qs a ≡ accepted k)
unfolding judge
halves [] qs a k e = (refl, e)
halves (r ∷ rs) qs a k e =
    let f = passed r (rs ++ qs) a e in
    let g = halves rs qs a k f.1 in
    (rw f.0 g.0, g.1)

pub record Done (image m ws : List ℕ) : Type 0 where
  pub sound : Sound image m
  pub room : words_for (length image) ≤ length ws
  pub words : build_words image m ws ≡ packed (mask_of image m) ++ drop (words_for (length image)) ws

-- sound marks and enough words are enough
pub builds : (image m ws : List ℕ) → Sound image m → words_for (length image) ≤ length ws → (build_answer image m ws ≡ accepted (words_for (length image)))
    × (build_words image m ws ≡ packed (mask_of image m) ++ drop (words_for (length image)) ws)
builds image m ws s h =
    let f = shown_as image m (packed (mask_of image m)) ws s (words_for (length image)) (packed_length image m) h _ refl in (sym f.0, sym f.1)

pub built : (image m ws : List ℕ) (k : ℕ) → build_answer image m ws ≡ accepted k → Done image m ws
unfolding view_answer room_answer
built image m ws k e =
    let f = halves (view_refusals image m) _ (length (packed (mask_of image m))) k e in
    let h = ltb-false (length ws) (length (packed (mask_of image m))) (passed _ _ _ f.1).0 in
    let room : words_for (length image) ≤ length ws = subst (λ (i : ℕ). i ≤ length ws) (packed_length image m) h in
    record { sound = f.0; room = room; words = (builds image m ws f.0 room).1 }

-- ---- the bits

module _ (image m rest : List ℕ) where
  abbrev n : ℕ
  n = length image

  -- position q of the words needed
  pub bit_is : (q : ℕ) → q < 64 * words_for n → code_at (packed (mask_of image m) ++ rest) q ≡ (ltb q n && masked image m q)
  unfolding code_at inside
  bit_is q h =
      ap (λ (w : ℕ). one w (q % 64))
      (get_or-append (packed (mask_of image m)) rest 0 (q / 64) (subst (λ (k : ℕ). q / 64 < k) (sym (packed_length image m)) (omega arith))
      ∙ ap (λ (ws : List ℕ). get_or ws (q / 64) 0) (packed_mask image m)
      ∙ map_at n (masked image m) (q / 64) (omega arith))
      ∙ one_digits (inside n (masked image m)) 64 (64 * (q / 64)) (q % 64) (omega arith)
      ∙ ap (inside n (masked image m)) (let e : 64 * (q / 64) + q % 64 ≡ q = omega arith in e)

  pub bit_inside : (q : ℕ) → q < n → code_at (packed (mask_of image m) ++ rest) q ≡ masked image m q
  bit_inside q h = bit_is q (omega arith) ∙ ap (λ (b : Bool). b && masked image m q) (lt-ltb q n h)

  pub bit_past : (q : ℕ) → n ≤ q → q < 64 * words_for n → code_at (packed (mask_of image m) ++ rest) q ≡ false
  bit_past q h k = bit_is q k ∙ ap (λ (b : Bool). b && masked image m q) (le-ltb q n h)
