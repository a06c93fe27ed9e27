-- The line that `dis` prints where it refuses: the program's name, the refusal's number, and what is wrong in words. Ours, as the program is;
-- the numbers and their values are those of document 01, 'Numbers given when a call says no'.
-- Assumes nothing.
use Rattle.std.specs.Prelude.{ℕ, cond, List, [], ◌∷◌, ◌++◌, eqb, ℤ, pos, nat_abs, get_or}
use Rattle.listing.specs.Hex.{hex4}
use Rattle.list_text.specs.Decimal.{decimal}
use Rattle.dis_text.specs.Word.{codes}

-- a refusal's value with the number k, from 0
abbrev pub value : List ℤ → ℕ → ℕ
value vs k = nat_abs (get_or vs k (pos 0))

-- 1: the file is too long; 5: an instruction is cut off, with its position and how many bytes are missing; 13: a word may not stand there,
-- with its number
unfoldable pub reason : ℕ → List ℤ → List ℕ
reason n vs =
    cond (eqb n 1) (codes "the file is longer than 65536 bytes")
    (cond (eqb n 5) (codes "the file ends inside the instruction at " ++ hex4 (value vs 0) ++ codes ", bytes missing: " ++ decimal (value vs 2))
    (cond (eqb n 13) (codes "not understood: argument " ++ decimal (value vs 0))
    (codes "refused")))

unfoldable pub message : ℕ → List ℤ → List ℕ
message n vs = codes "dis: " ++ decimal n ++ codes ": " ++ reason n vs ++ 10 ∷ []
