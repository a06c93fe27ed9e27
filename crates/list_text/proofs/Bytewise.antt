-- A text put byte by byte.
-- Assumes nothing.
use mathlib.Core.Path.{◌≡◌, refl}
use mathlib.Core.List.{List, [], ◌∷◌, ◌++◌}
use Prim.Native.Nat.{ℕ, ◌+◌, ◌<◌}
use native.Mathlib.Numerals.{add-one}
use lib.ListN.{length, get_or, set, drop}
use lib.Seq.{drop-cons}
use Rattle.text.specs.Puts.{Puts}

-- one byte
pub byte_put : (b at : ℕ) (o : List ℕ) → Puts (b ∷ []) at o (set o at b) (at + 1)
byte_put b at o = record { next = refl; wrote = refl }

-- and those that follow it
pub next_byte : (ns : List ℕ) (i : ℕ) → i < length ns → drop i ns ≡ (get_or ns i 0 ∷ []) ++ drop (i + 1) ns
next_byte ns i h = rw (add-one, drop-cons ns i 0 h)
