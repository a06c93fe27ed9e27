-- How many lines there are, and how far their numbers go.
-- Assumes nothing.
use mathlib.Core.Path.{◌≡◌, refl}
use mathlib.Core.Bool.{Bool, true, false, cond}
use mathlib.Core.List.{List, [], ◌∷◌}
use Prim.Native.Nat.{ℕ, suc, ◌≤◌}
use native.Mathlib.Omega.{arith}
use borrow.Author.Tests.{ltb-false}
use lib.Dec.{ltb}
use lib.IntN.{pos}
use lib.ListN.{length}
use Rattle.instruction.specs.Answer.{Answer, accepted, refused, Refusal, refuse, judge}
use Rattle.instruction.specs.declared.mode.Mode.{Mode}
use Rattle.text.specs.Cut.{lines}
use Rattle.text.proofs.Pieces.{pieces_few}
use Rattle.read_back.specs.Order.{start, line_after}
use Rattle.read_back.specs.Back.{line_refusals, back_answer}
use Rattle.read_back.specs.Sheet.{empty_sheet}

-- no more lines than bytes
pub lines_few : (t : List ℕ) → length (lines t) ≤ length t
lines_few t = pieces_few 10 t

-- each has at most the next number
pub after_most : (k : ℕ) → line_after k ≤ suc k
unfolding line_after
after_most k = by (ltb k 18446744073709551615)
  where
    by : (c : Bool) → cond c (suc k) k ≤ suc k
    by true = omega arith
    by false = omega arith

-- what is accepted has no more bytes than an image may have
pub accepted_short : (mode : Mode) (text : List ℕ) (n : ℕ) (image marks : List ℕ) (k : ℕ) → back_answer mode text n image marks ≡ accepted k → n ≤ 65536
unfolding back_answer judge
accepted_short mode text n image marks k e = by (ltb 65536 n) refl (judge rest (length (lines text))) e
  where
    rest : List Refusal
    rest = refuse (ltb (length marks) n) 2 (pos (length marks) ∷ []) ∷ refuse (ltb (length image) n) 11 (pos n ∷ [])
        ∷ line_refusals mode n start (empty_sheet n) (lines text)

    by : (b : Bool) → ltb 65536 n ≡ b → (a : Answer ℕ) → cond b (refused 1 (pos n ∷ [])) a ≡ accepted k → n ≤ 65536
    by true f a g = let z : ◌≡◌ {A = ℕ} 0 1 = cc in absurd (omega arith)
    by false f a g = ltb-false 65536 n f
