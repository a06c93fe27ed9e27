-- A text cut at each byte of one kind. Document 01, 'The listing': lines end with byte 10, and entries are tab-parted.
-- Assumes nothing.
use Rattle.std.specs.Prelude.{ℕ, cond, List, [], ◌∷◌, eqb}

-- a byte before the first piece
abbrev pub before : ℕ → List (List ℕ) → List (List ℕ)
before b [] = (b ∷ []) ∷ []
before b (l ∷ ls) = (b ∷ l) ∷ ls

-- the pieces between bytes s; where nothing follows the last s, there follow these last ones
unfoldable pub cut : ℕ → List (List ℕ) → List ℕ → List (List ℕ)
cut s last [] = last
cut s last (b ∷ t) = cond (eqb b s) ([] ∷ cut s last t) (before b (cut s last t))

-- the text up to its first byte s
unfoldable pub up_to : ℕ → List ℕ → List ℕ
up_to s [] = []
up_to s (b ∷ t) = cond (eqb b s) [] (b ∷ up_to s t)

-- each line is ended by byte 10, which the last may lack: after the last byte 10 there is no further line
abbrev pub lines : List ℕ → List (List ℕ)
lines t = cut 10 [] t

-- a tab stands between two fields: after the last tab there is one more, and an empty line has none
abbrev pub fields : List ℕ → List (List ℕ)
fields [] = []
fields (b ∷ l) = cut 9 ([] ∷ []) (b ∷ l)
