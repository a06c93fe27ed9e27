-- The whole listing: the refusals in their order, and what is laid over the rooms.
-- Assumes nothing.
use mathlib.Core.Path.{◌≡◌, sym, ap, ◌∙◌}
use mathlib.Core.Bool.{Bool, true, false, cond}
use mathlib.Core.List.{List, [], ◌∷◌, ◌++◌, map}
use Prim.Native.Nat.{ℕ, zero, suc, ◌+◌, ◌≤◌, ◌<◌}
use native.Mathlib.Omega.{arith}
use borrow.Author.Tests.{lt-ltb, le-ltb}
use lib.IntN.{ℤ, pos}
use lib.ListN.{length, get_or, set, drop, replicate}
use Rattle.std.specs.Prelude.{Result, Ok, Err}
use lib.Seq.{sets, get_or-drop}
use Rattle.instruction.specs.Answer.{Answer, accepted, refused, judge, after, laid}
use Rattle.instruction.specs.declared.mode.Mode.{Mode}
use Rattle.text.specs.Bytes.{bytes_of}
use Rattle.text.specs.Cut.{lines}
use Rattle.text.proofs.Pairs.{bytes_small}
use Rattle.read_back.specs.Back.{restore_refused, restored_of, line_refusals, sheet_after, back_answer, back_image, back_marks}
use Rattle.read_back.specs.LinesLeave.{LinesLeave}
use Rattle.read_back.specs.Noted.{marks_in}
use Rattle.read_back.specs.Line.{field_on, letter_on, position_on, has_bytes}
use Rattle.read_back.specs.Order.{start}
use Rattle.read_back.specs.Sheet.{Sheet, empty_sheet, listed_on, sheet_with}
use Rattle.read_back.specs.declared.back.RestoreError.{RestoreError}
use Rattle.read_back.specs.declared.back.RestoreError.TheVariants.{Size, NoRoom, Malformed, PastEnd}
use Rattle.marks.specs.declared.sizes.SizeError.TheVariants.{LongImage, ShortMarks}
use Rattle.read_back.proofs.Keeping.{bytes_in, bytes_at_lem}
use Rattle.read_back.proofs.Noting.{marks_length}

-- ---- cells stay below 257

abbrev pub Bounded : List ℕ → Type 0
Bounded l = (i : ℕ) → get_or l i 0 ≤ 256

set_bounded : (l : List ℕ) (i a : ℕ) → a ≤ 256 → Bounded l → Bounded (set l i a)
set_bounded [] i a h b j = b j
set_bounded (x ∷ l) zero a h b zero = h
set_bounded (x ∷ l) zero a h b (suc j) = b (suc j)
set_bounded (x ∷ l) (suc i) a h b zero = b 0
set_bounded (x ∷ l) (suc i) a h b (suc j) = set_bounded l i a h (λ k. b (suc k)) j

sets_bounded : (bs l : List ℕ) (p : ℕ) → ((k : ℕ) → get_or bs k 0 < 256) → Bounded l → Bounded (sets l p (map suc bs))
sets_bounded [] l p s b = b
sets_bounded (x ∷ bs) l p s b = sets_bounded bs (set l p (suc x)) (suc p) (λ k. s (suc k)) (set_bounded l p (suc x) (s 0) b)

listed_small : (l : List ℕ) (k : ℕ) → get_or (listed_on l) k 0 < 256
listed_small l k = by (has_bytes (letter_on l))
  where
    by : (b : Bool) → get_or (cond b (bytes_of (field_on 2 l)) []) k 0 < 256
    by true = bytes_small (field_on 2 l) k
    by false = omega arith

after_bounded : (ls : List (List ℕ)) (s : Sheet) → Bounded s.cells → Bounded (sheet_after s ls).cells
unfolding sheet_after sheet_with
after_bounded [] s b = b
after_bounded (l ∷ ls) s b = after_bounded ls (sheet_with s l) (sets_bounded (listed_on l) s.cells (position_on l) (listed_small l) b)

zeros_bounded : (n : ℕ) → Bounded (replicate n 0)
zeros_bounded zero i = omega arith
zeros_bounded (suc n) zero = omega arith
zeros_bounded (suc n) (suc i) = zeros_bounded n i

-- ---- so what is put back are bytes

abbrev Bytes : List ℕ → Type 0
Bytes l = (i : ℕ) → get_or l i 0 < 256

pub zeros_small : (n : ℕ) → Bytes (replicate n 0)
zeros_small zero i = omega arith
zeros_small (suc n) zero = omega arith
zeros_small (suc n) (suc i) = zeros_small n i

joined_small : (l k : List ℕ) → Bytes l → Bytes k → Bytes (l ++ k)
joined_small [] k a b i = b i
joined_small (x ∷ l) k a b zero = a 0
joined_small (x ∷ l) k a b (suc i) = joined_small l k (λ j. a (suc j)) b i

pub back_bytes : (mode : Mode) (text : List ℕ) (n : ℕ) (image marks : List ℕ) → Bytes image → Bytes (back_image mode text n image marks)
unfolding back_image
back_bytes mode text n image marks b = by (back_answer mode text n image marks)
  where
    cells : List ℕ
    cells = (sheet_after (empty_sheet n) (lines text)).cells

    read : Bytes (bytes_in cells)
    read i = omega (arith, bytes_at_lem cells i, after_bounded (lines text) (empty_sheet n) (zeros_bounded n) i)

    by : (a : Answer ℕ) → Bytes (after a (laid (bytes_in cells) image) image)
    by (accepted k) = joined_small (bytes_in cells) (drop (length (bytes_in cells)) image) read
        (λ i. rw (get_or-drop (length (bytes_in cells)) image i 0) (b (length (bytes_in cells) + i)))
    by (refused k vs) = b

module _ (mode : Mode) (text : List ℕ) (n : ℕ) (image marks : List ℕ) where
  -- what is answered and left
  abbrev pub Is : Answer ℕ → List ℕ → List ℕ → Type 0
  Is a im mk = (a ≡ back_answer mode text n image marks) × (im ≡ back_image mode text n image marks) × (mk ≡ back_marks mode text n image marks)

  is_refused : (k : ℕ) (vs : List ℤ) → refused k vs ≡ back_answer mode text n image marks → Is (refused k vs) image marks
  unfolding back_image back_marks
  is_refused k vs e = (e, rw (← e), rw (← e))

  pub too_long : 65536 < n → Is (refused 1 (pos n ∷ [])) image marks
  unfolding back_answer judge
  too_long h = is_refused 1 (pos n ∷ []) (rw (lt-ltb 65536 n h))

  module _ (h : n ≤ 65536) where
    pub short_marks : length marks < n → Is (refused 2 (pos (length marks) ∷ [])) image marks
    unfolding back_answer judge
    short_marks k = is_refused 2 (pos (length marks) ∷ []) (rw (le-ltb 65536 n h, lt-ltb (length marks) n k))

    module _ (k : n ≤ length marks) where
      pub no_room_lem : length image < n → Is (refused 11 (pos n ∷ [])) image marks
      unfolding back_answer judge
      no_room_lem g = is_refused 11 (pos n ∷ []) (rw (le-ltb 65536 n h, le-ltb (length marks) n k, lt-ltb (length image) n g))

      module _ (g : n ≤ length image) where
        pub by_lines : judge (line_refusals mode n start (empty_sheet n) (lines text)) (length (lines text)) ≡ back_answer mode text n image marks
        unfolding back_answer judge
        by_lines = rw (le-ltb 65536 n h, le-ltb (length marks) n k, le-ltb (length image) n g)

        -- what the lines leave
        module _ (new told : List ℕ) (x : Result ℕ RestoreError) (r : LinesLeave mode text n new told (restored_of x)) where
          said : restored_of x ≡ back_answer mode text n image marks
          said = r.answer ∙ by_lines

          pub is_bad : (e : RestoreError) → x ≡ Err e → Is (restore_refused e) image marks
          is_bad e f = by e (sym (ap restored_of f) ∙ said)
            where
              by : (e : RestoreError) → restore_refused e ≡ back_answer mode text n image marks → Is (restore_refused e) image marks
              by (Size (LongImage j)) q = is_refused 1 (pos j ∷ []) q
              by (Size (ShortMarks j)) q = is_refused 2 (pos j ∷ []) q
              by (NoRoom j) q = is_refused 11 (pos j ∷ []) q
              by (Malformed j) q = is_refused 15 (pos j ∷ []) q
              by (PastEnd j) q = is_refused 16 (pos j ∷ []) q

          pub is_done : (j : ℕ) → x ≡ Ok j → (im mk : List ℕ) → im ≡ laid new image → mk ≡ marks_in told n ++ drop n marks → Is (accepted j) im mk
          unfolding back_image back_marks
          is_done j f im mk p q =
              let e : accepted j ≡ back_answer mode text n image marks = sym (ap restored_of f) ∙ said in
              let k : mk ≡ laid (marks_in told n) marks = q ∙ ap (λ (i : ℕ). marks_in told n ++ drop i marks) (sym (marks_length told n)) in (
                e,
                rw (← e) (p ∙ ap (λ (y : List ℕ). laid y image) (r.image j (ap restored_of f))),
                rw (← e) (k ∙ ap (λ (y : List ℕ). laid y marks) (r.marks j (ap restored_of f))),
              )
