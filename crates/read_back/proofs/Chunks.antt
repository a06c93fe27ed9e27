-- A list as arrays of n elements each, taken one after another.
-- Assumes nothing.
use Prim.Native.Nat.{ℕ, zero, suc, ◌+◌, ◌*◌, ◌<◌}
use native.Mathlib.Omega.{arith}
use mathlib.Core.Path.{◌≡◌, ap, ◌∙◌}
use mathlib.Core.List.{List}
use lib.ListN.{get_or, take, drop}
use lib.Seq.{drop-drop}
use Rattle.std.specs.Simd.{first_chunks}

chunk_at : (n k i : ℕ) (l d : List ℕ) → i < k → get_or (first_chunks n k l) i d ≡ take n (drop (i * n) l)
chunk_at n zero i l d h = absurd (omega arith)
chunk_at n (suc k) zero l d h = ap (λ (j : ℕ). take n (drop j l)) (let e : 0 ≡ zero * n = omega arith in e)
chunk_at n (suc k) (suc i) l d h =
    chunk_at n k i (drop n l) d (omega arith)
    ∙ ap (take n) (drop-drop (i * n) n l ∙ ap (λ (j : ℕ). drop j l) (let e : n + i * n ≡ suc i * n = omega arith in e))

pub chunk_in : (n k : ℕ) (l d : List ℕ) (chunks : List (List ℕ)) (i : ℕ) → chunks ≡ first_chunks n k l → i < k → get_or chunks i d ≡ take n (drop (i * n) l)
chunk_in n k l d chunks i e h = ap (λ (ls : List (List ℕ)). get_or ls i d) e ∙ chunk_at n k i l d h
