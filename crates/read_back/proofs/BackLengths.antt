-- What is put back has as many bytes as were asked for, whatever the rooms.
-- Assumes nothing.
use mathlib.Core.Path.{◌≡◌, refl, ◌∙◌}
use mathlib.Core.List.{List, [], ◌∷◌, map}
use Prim.Native.Nat.{ℕ, suc, ◌-◌, ◌≤◌}
use native.Mathlib.Omega.{arith}
use lib.ListN.{length, take, drop, length-append, length-drop, length-map, length-replicate}
use lib.Seq.{length-sets, take_at}
use Rattle.instruction.specs.Answer.{Answer, accepted, refused, after, laid}
use Rattle.instruction.specs.declared.mode.Mode.{Mode}
use Rattle.text.specs.Cut.{lines}
use Rattle.read_back.specs.Back.{sheet_after, sheet_of, back_answer, back_image}
use Rattle.read_back.specs.Line.{position_on}
use Rattle.read_back.specs.Sheet.{Sheet, empty_sheet, listed_on, sheet_with, image_on}

sheet_long : (ls : List (List ℕ)) (s : Sheet) → length (sheet_after s ls).cells ≡ length s.cells
unfolding sheet_after sheet_with
sheet_long [] s = refl
sheet_long (l ∷ ls) s = sheet_long ls (sheet_with s l) ∙ length-sets s.cells (position_on l) (map suc (listed_on l))

image_long : (text : List ℕ) (n : ℕ) → length (image_on (sheet_of text n)) ≡ n
image_long text n =
    length-map (sheet_of text n).cells (λ (c : ℕ). c - 1) ∙ sheet_long (lines text) (empty_sheet n) ∙ length-replicate n 0

pub back_length : (mode : Mode) (text : List ℕ) (n : ℕ) (image marks : List ℕ) → n ≤ length image → length (back_image mode text n image marks) ≡ length image
unfolding back_image
back_length mode text n image marks h = by (back_answer mode text n image marks)
  where
    new : List ℕ
    new = image_on (sheet_of text n)

    by : (a : Answer ℕ) → length (after a (laid new image) image) ≡ length image
    by (accepted k) = omega (arith, length-append new (drop (length new) image), length-drop (length new) image, image_long text n)
    by (refused k vs) = refl

pub put_back : (mode : Mode) (text : List ℕ) (n : ℕ) (image marks : List ℕ) (k : ℕ) → accepted k ≡ back_answer mode text n image marks
    → take n (back_image mode text n image marks) ≡ image_on (sheet_of text n)
unfolding back_image
put_back mode text n image marks k e = rw (← e) (take_at (image_on (sheet_of text n)) _ n (image_long text n))
