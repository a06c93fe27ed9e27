-- The positions that noting makes wait: which they are, and each once. Assumes nothing.
use Prim.Native.Nat.{ℕ, ◌≤◌}
use native.Mathlib.Omega.{arith}
use mathlib.Core.Path.{◌≡◌, refl, sym, subst}
use mathlib.Core.Logic.{inl, inr, ⊎_elim, ◌≢◌}
use mathlib.Core.List.Memᴰ
use mathlib.Core.List.{List, [], ◌∷◌, Memᴰ as Among}
use lib.ListN.{length, set, length-set}
use Rattle.reach.specs.Mark.{waiting}
use Rattle.reach.specs.Note.{Open, fresh}
use Rattle.reach.specs.Takes.{Once}
use Rattle.reach.proofs.Cases.{eq_or_ne, Decided}
use Rattle.reach.proofs.Open.{open_or_shut}
use Rattle.reach.proofs.Note.{fresh_open, fresh_shut, fresh_nil}
use Rattle.reach.proofs.Set.{open_set, noted_open_before}

-- those that become waiting are among those noted, and open
pub fresh_open_among : (n : ℕ) (ts m : List ℕ) (q : ℕ) → n ≤ length m → Among q (fresh n ts m) → Among q ts × Open n m q
fresh_open_among n [] m q l i = absurd (Memᴰ.not-nil (rw fresh_nil at i))
fresh_open_among n (t ∷ ts) m q l i =
    by (open_or_shut n m t) (λ (m' : List ℕ) (h : n ≤ length m') (j : Among q (fresh n ts m')). fresh_open_among n ts m' q h j)
  where
    by : Decided (Open n m t) → ((m' : List ℕ) → n ≤ length m' → Among q (fresh n ts m') → Among q ts × Open n m' q) → Among q (t ∷ ts) × Open n m q
    by (inr s) on = let r = on m l (rw (fresh_shut n m t ts s) at i) in (Among.tail r.0, r.1)
    by (inl o) on =
        ⊎_elim (λ e. (Among.head e, subst (λ (x : ℕ). Open n m x) (sym e) o))
        (λ j.
        let r = on (set m t waiting) (omega (arith, length-set m t waiting)) j in
        (Among.tail r.0, (noted_open_before n m t q l o r.1).1))
        (Memᴰ.cases_cons (rw (fresh_open n m t ts o) at i))

-- and all that are so become waiting
pub among_open_fresh : (n : ℕ) (ts m : List ℕ) (q : ℕ) → Among q ts → Open n m q → Among q (fresh n ts m)
among_open_fresh n [] m q i u = absurd (Memᴰ.not-nil i)
among_open_fresh n (t ∷ ts) m q i u =
    by (open_or_shut n m t) (eq_or_ne q t) (λ (m' : List ℕ) (j : Among q ts) (v : Open n m' q). among_open_fresh n ts m' q j v)
  where
    later : q ≢ t → Among q ts
    later ne = ⊎_elim (λ e. absurd (ne e)) (λ j. j) (Memᴰ.cases_cons i)

    by : Decided (Open n m t) → Decided (q ≡ t) → ((m' : List ℕ) → Among q ts → Open n m' q → Among q (fresh n ts m'))
        → Among q (fresh n (t ∷ ts) m)
    by (inr s) (inl e) on = absurd (s (subst (λ (x : ℕ). Open n m x) e u))
    by (inr s) (inr ne) on = rw (fresh_shut n m t ts s) (on m (later ne) u)
    by (inl o) (inl e) on = rw (fresh_open n m t ts o) (Among.head e)
    by (inl o) (inr ne) on = rw (fresh_open n m t ts o) (Among.tail (on (set m t waiting) (later ne) (open_set n m t waiting q ne u)))

-- each stands once
pub fresh_once : (n : ℕ) (ts m : List ℕ) → n ≤ length m → Once (fresh n ts m)
fresh_once n [] m l = rw fresh_nil tt
fresh_once n (t ∷ ts) m l = by (open_or_shut n m t) (λ (m' : List ℕ) (h : n ≤ length m'). fresh_once n ts m' h)
  where
    by : Decided (Open n m t) → ((m' : List ℕ) → n ≤ length m' → Once (fresh n ts m')) → Once (fresh n (t ∷ ts) m)
    by (inr s) on = rw (fresh_shut n m t ts s) (on m l)
    by (inl o) on =
        let h : n ≤ length (set m t waiting) = omega (arith, length-set m t waiting) in
        rw (fresh_open n m t ts o)
        (λ i. (noted_open_before n m t t l o (fresh_open_among n ts (set m t waiting) t h i).1).0 refl, on (set m t waiting) h)
