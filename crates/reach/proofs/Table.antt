-- The table that a trace starts from: cleared marks, and pins. Assumes nothing.
use Prim.Native.Nat.{ℕ, suc, ◌+◌, ◌<◌, ◌≤◌}
use native.Mathlib.Omega.{arith}
use mathlib.Core.Bool.{Bool, true, false, cond}
use mathlib.Core.Path.{◌≡◌, refl, sym, ap, ◌∙◌}
use mathlib.Core.Logic.{◌⊎◌, inl, inr, ⊎_elim}
use mathlib.Core.List.{List, [], ◌∷◌, Memᴰ as Among}
use lib.ListN.{length, get_or, set, take, replicate, length-replicate, get_or-replicate, length-set}
use lib.Seq.{get_or-set_other}
use lib.Dec.{ltb}
use borrow.Author.Tests.{ltb-true}
use Rattle.reach.specs.Mark.{cleared}
use Rattle.reach.specs.Pins.{pinned, pin, table}
use Rattle.reach.specs.Takes.{Base}
use Rattle.reach.specs.Tracer.{Tracer}
use Rattle.reach.proofs.Cases.{eq_or_ne, Decided}
use Rattle.reach.proofs.Cleared.{length_cleared, cleared_at}
use Rattle.reach.proofs.Order.{cleared_base}
use Rattle.reach.proofs.Pin.{length_pin, pin_kept, pin_set, pin_only}
use Rattle.reach.proofs.Pins.{pinned_base}
use Rattle.reach.proofs.Set.{set_here}

pub table_base : (G : Tracer) (pins m : List ℕ) → G.size ≤ length m → Base G (table G.size pins m)
table_base G pins m l = pinned_base G pins (cleared G.size m) (cleared_base G m l)

pub length_table : (n : ℕ) (pins m : List ℕ) → n ≤ length m → length (table n pins m) ≡ length m
length_table n pins m l = length_pin n pins (cleared n m) (omega (arith, length_cleared n m l)) ∙ length_cleared n m l

-- a mark inside is 0 or 4
pub table_at : (n : ℕ) (pins m : List ℕ) (q : ℕ) → n ≤ length m → q < n → (get_or (table n pins m) q 0 ≡ 0) ⊎ (get_or (table n pins m) q 0 ≡ pinned)
table_at n pins m q l h =
    ⊎_elim (λ e. inl (e ∙ cleared_at n m q h)) (λ e. inr e) (pin_kept n pins (cleared n m) q (omega (arith, length_cleared n m l)))

pub table_small : (n : ℕ) (pins m : List ℕ) (q : ℕ) → n ≤ length m → q < n → get_or (table n pins m) q 0 ≤ 4
table_small n pins m q l h = ⊎_elim (λ e. rw e (omega arith)) (λ e. rw e (omega arith)) (table_at n pins m q l h)

-- 4 stands exactly at the pinned positions
pub table_pinned : (n : ℕ) (pins m : List ℕ) (q : ℕ) → n ≤ length m → q < n → Among q pins → get_or (table n pins m) q 0 ≡ pinned
table_pinned n pins m q l h i = pin_set n pins (cleared n m) q (omega (arith, length_cleared n m l)) i h

pub table_only : (n : ℕ) (pins m : List ℕ) (q : ℕ) → n ≤ length m → q < n → get_or (table n pins m) q 0 ≡ pinned → Among q pins
table_only n pins m q l h e =
    ⊎_elim (λ f. absurd (let z = sym f ∙ e in let y = cleared_at n m q h in omega arith)) (λ i. i) (pin_only n pins (cleared n m) q)

-- one position pinned
abbrev pub pin_one : ℕ → ℕ → List ℕ → List ℕ
pin_one n q m = cond (ltb q n) (set m q pinned) m

one_long : (n t : ℕ) (m : List ℕ) → length (pin_one n t m) ≡ length m
one_long n t m = by (ltb t n)
  where
    by : (b : Bool) → length (cond b (set m t pinned) m) ≡ length m
    by true = length-set m t pinned
    by false = refl

-- what a pin leaves at a position goes by what stood there alone
pin_one_like : (n t : ℕ) (m m' : List ℕ) (q : ℕ) → n ≤ length m → n ≤ length m' → get_or m q 0 ≡ get_or m' q 0
    → get_or (cond (ltb t n) (set m t pinned) m) q 0 ≡ get_or (cond (ltb t n) (set m' t pinned) m') q 0
pin_one_like n t m m' q l l' e = by (ltb t n) refl (eq_or_ne q t)
  where
    by : (b : Bool) → ltb t n ≡ b → Decided (q ≡ t) → get_or (cond b (set m t pinned) m) q 0 ≡ get_or (cond b (set m' t pinned) m') q 0
    by false f d = e
    by true f (inl x) = set_here m t pinned q x (omega (arith, ltb-true t n f)) ∙ sym (set_here m' t pinned q x (omega (arith, ltb-true t n f)))
    by true f (inr x) = get_or-set_other m t q pinned 0 x ∙ e ∙ sym (get_or-set_other m' t q pinned 0 x)

pin_like : (n : ℕ) (qs m m' : List ℕ) (q : ℕ) → n ≤ length m → n ≤ length m' → get_or m q 0 ≡ get_or m' q 0
    → get_or (pin n qs m) q 0 ≡ get_or (pin n qs m') q 0
unfolding pin
pin_like n [] m m' q l l' e = e
pin_like n (t ∷ qs) m m' q l l' e =
    pin_like n qs (pin_one n t m) (pin_one n t m') q (omega (arith, one_long n t m)) (omega (arith, one_long n t m')) (pin_one_like n t m m' q l l' e)

-- the marks that were lent are in no pin's way: a table is like the one over nothing but 0
pub table_like : (n : ℕ) (pins m : List ℕ) (q : ℕ) → n ≤ length m → q < n → get_or (table n pins m) q 0 ≡ get_or (pin n pins (replicate n 0)) q 0
table_like n pins m q l h =
    pin_like n pins (cleared n m) (replicate n 0) q (omega (arith, length_cleared n m l)) (omega (arith, length-replicate {A = ℕ} n 0))
    (cleared_at n m q h ∙ sym (get_or-replicate n q 0 0 h))

-- pinning one position more
pin_suc : (n : ℕ) (qs m : List ℕ) (i : ℕ) → i < length qs → pin n (take (suc i) qs) m ≡ pin_one n (get_or qs i 0) (pin n (take i qs) m)
unfolding pin
pin_suc n [] m i h = absurd (omega arith)
pin_suc n (q ∷ qs) m ℕ.zero h = refl
pin_suc n (q ∷ qs) m (suc i) h = pin_suc n qs (pin_one n q m) i (omega arith)

pub pin_next : (n : ℕ) (qs m : List ℕ) (i : ℕ) → i < length qs → pin n (take (i + 1) qs) m ≡ pin_one n (get_or qs i 0) (pin n (take i qs) m)
pin_next n qs m i h = let e : i + 1 ≡ suc i = omega arith in rw e (pin_suc n qs m i h)

pub pin_none : (n : ℕ) (m : List ℕ) → m ≡ pin n [] m
unfolding pin
pin_none n m = refl

pub pin_alone : (n q : ℕ) (m : List ℕ) → pin_one n q m ≡ pin n (q ∷ []) m
unfolding pin
pin_alone n q m = refl

-- as long as before, however long
pub pin_long : (n : ℕ) (qs m : List ℕ) → length (pin n qs m) ≡ length m
unfolding pin
pin_long n [] m = refl
pin_long n (q ∷ qs) m = pin_long n qs (pin_one n q m) ∙ one_long n q m
