-- How a position comes out of noting. Assumes nothing.
use Prim.Native.Nat.{ℕ, ◌≤◌}
use native.Mathlib.Omega.{arith}
use mathlib.Core.Path.{◌≡◌, sym, ap, subst, ◌∙◌}
use mathlib.Core.Logic.{inl, inr, ⊎_elim, ◌≢◌}
use mathlib.Core.List.Memᴰ
use mathlib.Core.List.{List, [], ◌∷◌, Memᴰ as Among}
use lib.ListN.{length, get_or, set, length-set}
use lib.Seq.{get_or-set_other}
use Rattle.reach.specs.Mark.{waiting}
use Rattle.reach.specs.Note.{Open, note}
use Rattle.reach.proofs.Cases.{eq_or_ne, Decided}
use Rattle.reach.proofs.Set.{set_here, open_set, noted_open_before}
use Rattle.reach.proofs.Open.{open_or_shut}
use Rattle.reach.proofs.Note.{note_open, note_shut, note_nil}

-- after noting ts over m, q is as before, unless it is among ts and open, and then it waits
pub data Noticed (n : ℕ) (ts m : List ℕ) (q : ℕ) : Type 0 where
  as_before : (Among q ts → Open n m q → ⊥) → get_or (note n ts m) q 0 ≡ get_or m q 0 → Noticed n ts m q
  newly : Among q ts → Open n m q → get_or (note n ts m) q 0 ≡ waiting → Noticed n ts m q

module _ (n : ℕ) (t : ℕ) (ts m : List ℕ) (q : ℕ) (l : n ≤ length m) where
  passed : (Open n m t → ⊥) → Noticed n ts m q → Noticed n (t ∷ ts) m q
  passed s (as_before f e) =
      as_before (λ i o. ⊎_elim (λ x. s (subst (λ (y : ℕ). Open n m y) x o)) (λ j. f j o) (Memᴰ.cases_cons i)) (rw (note_shut n m t ts s) e)
  passed s (newly i o e) = newly (Among.tail i) o (rw (note_shut n m t ts s) e)

  module _ (o : Open n m t) where
    first : get_or (note n (t ∷ ts) m) q 0 ≡ get_or (note n ts (set m t waiting)) q 0
    first = ap (λ (x : List ℕ). get_or x q 0) (note_open n m t ts o)

    hit : q ≡ t → Noticed n ts (set m t waiting) q → Noticed n (t ∷ ts) m q
    hit eq (as_before f e) =
        newly (Among.head eq) (subst (λ (y : ℕ). Open n m y) (sym eq) o) (first ∙ e ∙ set_here m t waiting q eq (omega (arith, o.inside)))
    hit eq (newly i u e) = absurd ((noted_open_before n m t q l o u).0 eq)

    missed : q ≢ t → Noticed n ts (set m t waiting) q → Noticed n (t ∷ ts) m q
    missed ne (as_before f e) =
        as_before (λ i u. ⊎_elim (λ x. ne x) (λ j. f j (open_set n m t waiting q ne u)) (Memᴰ.cases_cons i))
        (first ∙ e ∙ get_or-set_other m t q waiting 0 ne)
    missed ne (newly i u e) = newly (Among.tail i) (noted_open_before n m t q l o u).1 (first ∙ e)

pub noticed : (n : ℕ) (ts m : List ℕ) (q : ℕ) → n ≤ length m → Noticed n ts m q
noticed n [] m q l = as_before (λ i o. Memᴰ.not-nil i) (ap (λ (x : List ℕ). get_or x q 0) (note_nil n m))
noticed n (t ∷ ts) m q l = by (open_or_shut n m t) (eq_or_ne q t) (λ (m' : List ℕ) (h : n ≤ length m'). noticed n ts m' q h)
  where
    by : Decided (Open n m t) → Decided (q ≡ t) → ((m' : List ℕ) → n ≤ length m' → Noticed n ts m' q) → Noticed n (t ∷ ts) m q
    by (inr s) d on = passed n t ts m q l s (on m l)
    by (inl o) (inl e) on = hit n t ts m q l o e (on (set m t waiting) (omega (arith, length-set m t waiting)))
    by (inl o) (inr ne) on = missed n t ts m q l o ne (on (set m t waiting) (omega (arith, length-set m t waiting)))
