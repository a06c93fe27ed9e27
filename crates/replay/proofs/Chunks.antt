-- The lines of a text as arrays of seven bytes.
-- Assumes nothing.
use Prim.Native.Nat.{ℕ, zero, suc, ◌+◌, ◌*◌, ◌/◌, ◌<◌}
use native.Mathlib.Omega.{arith}
use mathlib.Core.Path.{◌≡◌, refl, ap, ◌∙◌}
use mathlib.Core.List.{List}
use lib.ListN.{length, get_or, take, drop}
use lib.Seq.{drop-drop}
use Rattle.std.specs.Simd.{first_chunks}

chunk_at : (k i : ℕ) (l d : List ℕ) → i < k → get_or (first_chunks 7 k l) i d ≡ take 7 (drop (i * 7) l)
chunk_at zero i l d h = absurd (omega arith)
chunk_at (suc k) zero l d h = refl
chunk_at (suc k) (suc i) l d h =
    chunk_at k i (drop 7 l) d (omega arith)
    ∙ ap (take 7) (drop-drop (i * 7) 7 l ∙ ap (λ (j : ℕ). drop j l) (let e : 7 + i * 7 ≡ suc i * 7 = omega arith in e))

-- a line among those of a text
pub line_in : (text d : List ℕ) (lines : List (List ℕ)) (i : ℕ) → lines ≡ first_chunks 7 (length text / 7) text → i < length text / 7
    → get_or lines i d ≡ take 7 (drop (i * 7) text)
line_in text d lines i e h = ap (λ (ls : List (List ℕ)). get_or ls i d) e ∙ chunk_at (length text / 7) i text d h
