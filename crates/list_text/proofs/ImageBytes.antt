-- What a text gives as an image are bytes.
-- Assumes nothing.
use mathlib.Core.List.{List, [], ◌∷◌, ◌++◌}
use Prim.Native.Nat.{ℕ, zero, suc}
use native.Mathlib.Omega.{arith}
use Rattle.instruction.specs.Bytes.{Bytes}
use Rattle.text.specs.Bytes.{bytes_of}
use Rattle.text.proofs.Pairs.{bytes_small}
use Rattle.list_text.specs.Bytes.{bytes_in_lines}
use Rattle.list_text.specs.Text.{image_of, image_lines}

appended : (k l : List ℕ) → Bytes k → Bytes l → Bytes (k ++ l)
appended [] l f g p = g p
appended (x ∷ k) l f g zero = f 0
appended (x ∷ k) l f g (suc p) = appended k l (λ q. f (suc q)) g p

lines_low : (ls : List (List ℕ)) → Bytes (bytes_in_lines ls)
unfolding bytes_in_lines
lines_low [] p = omega arith
lines_low (l ∷ ls) p = appended (bytes_of l) (bytes_in_lines ls) (bytes_small l) (lines_low ls) p

pub image_bytes : (text : List ℕ) → Bytes (image_of text)
image_bytes text = lines_low (image_lines text)
