-- The mnemonic of a form. Document 01, 'The listing': the form's name in lower case up to the underscore.
-- Assumes nothing.
use Rattle.std.specs.Prelude.{ℕ, ◌+◌, ◌*◌, cond, List, [], ◌∷◌, ◌==◌, nat_le}
use Prim.Native.Char.{code}
use Prim.Native.String.{String, [] as end, ◌∷◌ as ◌then◌}
use Rattle.instruction.specs.Forms.{form_at}

abbrev pub lower : ℕ → ℕ
lower c = cond (nat_le c (code "Z")) (cond (nat_le (code "A") c) (c + 32) c) c

unfoldable pub letters_of : String → List ℕ
letters_of end = []
letters_of (c then s) = let rest : List ℕ = letters_of s in cond (code c == (code "_")) [] (lower (code c) ∷ rest)

unfoldable pub mnemonic_of : ℕ → List ℕ
mnemonic_of k = letters_of (form_at k).name

-- letters in one number, the first letter lowest
unfoldable pub packed_letters : List ℕ → ℕ
packed_letters [] = 0
packed_letters (c ∷ cs) = c + 256 * packed_letters cs
