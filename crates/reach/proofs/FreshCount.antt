-- How many positions noting makes wait, and what it does to a count of marks. Assumes nothing.
use Prim.Native.Nat.{ℕ, suc, ◌+◌, ◌*◌, ◌≤◌, zero-le}
use native.Mathlib.Omega.{arith}
use native.Mathlib.Nat.{mul-suc}
use mathlib.Core.Bool.{Bool}
use mathlib.Core.Path.{◌≡◌, ap}
use mathlib.Core.Logic.{inl, inr}
use mathlib.Core.List.{List, [], ◌∷◌}
use lib.ListN.{length, get_or, set, take, length-set}
use Rattle.reach.specs.Mark.{waiting, count}
use Rattle.reach.specs.Note.{Open, note, fresh}
use Rattle.reach.proofs.Cases.{Decided}
use Rattle.reach.proofs.Count.{one, touched, count_mark, count_under}
use Rattle.reach.proofs.Open.{open_or_shut}
use Rattle.reach.proofs.Note.{note_open, note_shut, note_nil, fresh_open, fresh_shut, fresh_nil}

-- at most as many as were to be noted
pub fresh_short : (n : ℕ) (ts m : List ℕ) → length (fresh n ts m) ≤ length ts
fresh_short n [] m = rw fresh_nil zero-le
fresh_short n (t ∷ ts) m = by (open_or_shut n m t) (λ (m' : List ℕ). fresh_short n ts m')
  where
    by : Decided (Open n m t) → ((m' : List ℕ) → length (fresh n ts m') ≤ length ts) → length (fresh n (t ∷ ts) m) ≤ suc (length ts)
    by (inr s) on = rw (fresh_shut n m t ts s) (omega (arith, on m))
    by (inl o) on = rw (fresh_open n m t ts o) (omega (arith, on (set m t waiting)))

-- what noting does to a count: each that becomes waiting is counted as a 1 and no longer as a 0
abbrev Counts : (ℕ → Bool) → ℕ → List ℕ → List ℕ → Type 0
Counts f n ts m = count f (take n (note n ts m)) + one (f 0) * length (fresh n ts m) ≡ count f (take n m) + one (f 1) * length (fresh n ts m)

pub count_note : (f : ℕ → Bool) (n : ℕ) (ts m : List ℕ) → n ≤ length m
    → count f (take n (note n ts m)) + one (f 0) * length (fresh n ts m) ≡ count f (take n m) + one (f 1) * length (fresh n ts m)
count_note f n [] m l = rw (fresh_nil n m, note_nil n m) (omega arith)
count_note f n (t ∷ ts) m l = by (open_or_shut n m t) (λ (m' : List ℕ) (h : n ≤ length m'). count_note f n ts m' h)
  where
    by : Decided (Open n m t) → ((m' : List ℕ) → n ≤ length m' → Counts f n ts m') → Counts f n (t ∷ ts) m
    by (inr s) on = rw (note_shut n m t ts s, fresh_shut n m t ts s) (on m l)
    by (inl o) on =
        let k = length (fresh n ts (set m t waiting)) in
        let a = on (set m t waiting) (omega (arith, length-set m t waiting)) in
        let b = count_mark f n m t waiting o.inside l in
        let c : one (f (get_or m t 0)) ≡ one (f 0) = ap (λ (x : ℕ). one (f x)) o.clear in
        rw (note_open n m t ts o, fresh_open n m t ts o) (omega (arith, a, b, c, mul-suc (one (f 0)) k, mul-suc (one (f 1)) k))

-- so it adds to the marks that are not 0 as many as become waiting, and there are never more than n
pub touched_note : (n : ℕ) (ts m : List ℕ) → n ≤ length m → count touched (take n (note n ts m)) ≡ count touched (take n m) + length (fresh n ts m)
touched_note n ts m l = omega (arith, count_note touched n ts m l)

pub fresh_le : (n : ℕ) (ts m : List ℕ) → n ≤ length m → length (fresh n ts m) ≤ n
fresh_le n ts m l = omega (arith, touched_note n ts m l, count_under touched n (note n ts m))
