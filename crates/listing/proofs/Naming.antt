-- The letters of a mnemonic's number are the mnemonic: antt computes it for each form.
-- Assumes nothing.
use mathlib.Core.Path.{◌≡◌, refl}
use mathlib.Core.Bool.{Bool, true, false, ◌&&◌}
use mathlib.Core.List.{List, [], ◌∷◌}
use Prim.Native.Nat.{ℕ}
use lib.Dec.{T, eqb, eqb→eq}
use Rattle.instruction.specs.Forms.{forms, form_at}
use Rattle.instruction.specs.Mnemonic.{mnemonic_of, letters_of, packed_letters}
use Rattle.instruction.specs.Parts.{parts_of}
use Rattle.instruction.specs.declared.instr.Instr.{Instr}
use Rattle.instruction.proofs.Every.{and_left, and_right, up_to, holds}
use Rattle.instruction.proofs.Known.{form_small}
use Rattle.text.specs.Puts.{letters}

abbrev alike : List ℕ → List ℕ → Bool
alike [] [] = true
alike [] (y ∷ ys) = false
alike (x ∷ xs) [] = false
alike (x ∷ xs) (y ∷ ys) = eqb x y && alike xs ys

alike_is : (xs ys : List ℕ) → T (alike xs ys) → xs ≡ ys
alike_is [] [] t = refl
alike_is [] (y ∷ ys) t = absurd t
alike_is (x ∷ xs) [] t = absurd t
alike_is (x ∷ xs) (y ∷ ys) t = rw (eqb→eq x y (and_left (eqb x y) (alike xs ys) t), alike_is xs ys (and_right (eqb x y) (alike xs ys) t))

abbrev test : ℕ → Bool
test k = alike (letters 8 (packed_letters (mnemonic_of k))) (mnemonic_of k)

all : T (up_to test 70)
unfolding letters packed_letters mnemonic_of letters_of form_at forms
all = tt

pub spelled : (i : Instr) → letters 8 (packed_letters (mnemonic_of (parts_of i).form)) ≡ mnemonic_of (parts_of i).form
spelled i = alike_is _ _ (holds test 70 all (parts_of i).form (form_small i refl))
