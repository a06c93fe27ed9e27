-- How a table comes out of pinning. Assumes nothing.
use Prim.Native.Nat.{ℕ, ◌<◌, ◌≤◌}
use native.Mathlib.Omega.{arith}
use mathlib.Core.Bool.{Bool, true, false, cond}
use mathlib.Core.Path.{◌≡◌, refl, ap, ◌∙◌}
use mathlib.Core.Logic.{◌⊎◌, inl, inr, ⊎_elim, ◌≢◌}
use mathlib.Core.List.Memᴰ
use mathlib.Core.List.{List, [], ◌∷◌, Memᴰ as Among}
use lib.ListN.{length, get_or, set, length-set}
use lib.Seq.{get_or-set_other}
use lib.Dec.{ltb}
use borrow.Author.Tests.{ltb-true, lt-ltb}
use Rattle.reach.specs.Pins.{pinned, pin}
use Rattle.reach.proofs.Cases.{eq_or_ne, Decided}
use Rattle.reach.proofs.Set.{set_here}

-- one position pinned
module _ (n t : ℕ) (m : List ℕ) (l : n ≤ length m) where
  length_one_pin : length (cond (ltb t n) (set m t pinned) m) ≡ length m
  length_one_pin = by (ltb t n)
    where
      by : (b : Bool) → length (cond b (set m t pinned) m) ≡ length m
      by true = length-set m t pinned
      by false = refl

  -- q has its mark still, or 4
  pin_at : (q : ℕ) → (get_or (cond (ltb t n) (set m t pinned) m) q 0 ≡ get_or m q 0) ⊎ (get_or (cond (ltb t n) (set m t pinned) m) q 0 ≡ pinned)
  pin_at q = by (ltb t n) refl (eq_or_ne q t)
    where
      by : (b : Bool) → ltb t n ≡ b → Decided (q ≡ t)
          → (get_or (cond b (set m t pinned) m) q 0 ≡ get_or m q 0) ⊎ (get_or (cond b (set m t pinned) m) q 0 ≡ pinned)
      by false e d = inl refl
      by true e (inl x) = inr (set_here m t pinned q x (omega (arith, ltb-true t n e)))
      by true e (inr x) = inl (get_or-set_other m t q pinned 0 x)

pub length_pin : (n : ℕ) (qs m : List ℕ) → n ≤ length m → length (pin n qs m) ≡ length m
unfolding pin
length_pin n [] m l = refl
length_pin n (t ∷ qs) m l = length_pin n qs (cond (ltb t n) (set m t pinned) m) (omega (arith, length_one_pin n t m l)) ∙ length_one_pin n t m l

pub pin_kept : (n : ℕ) (qs m : List ℕ) (q : ℕ) → n ≤ length m → (get_or (pin n qs m) q 0 ≡ get_or m q 0) ⊎ (get_or (pin n qs m) q 0 ≡ pinned)
unfolding pin
pin_kept n [] m q l = inl refl
pin_kept n (t ∷ qs) m q l =
    ⊎_elim (λ e. ⊎_elim (λ f. inl (e ∙ f)) (λ f. inr (e ∙ f)) (pin_at n t m l q)) (λ e. inr e)
    (pin_kept n qs (cond (ltb t n) (set m t pinned) m) q (omega (arith, length_one_pin n t m l)))

pub pin_set : (n : ℕ) (qs m : List ℕ) (q : ℕ) → n ≤ length m → Among q qs → q < n → get_or (pin n qs m) q 0 ≡ pinned
unfolding pin
pin_set n [] m q l i h = absurd (Memᴰ.not-nil i)
pin_set n (t ∷ qs) m q l i h = by (Memᴰ.cases_cons i) (λ (j : Among q qs). pin_set n qs m₁ q l₁ j h)
  where
    m₁ : List ℕ
    m₁ = cond (ltb t n) (set m t pinned) m

    l₁ : n ≤ length m₁
    l₁ = omega (arith, length_one_pin n t m l)

    here : q ≡ t → get_or m₁ q 0 ≡ pinned
    here e = ap (λ (b : Bool). get_or (cond b (set m t pinned) m) q 0) (lt-ltb t n (omega arith)) ∙ set_here m t pinned q e (omega arith)

    by : (q ≡ t) ⊎ Among q qs → (Among q qs → get_or (pin n qs m₁) q 0 ≡ pinned) → get_or (pin n qs m₁) q 0 ≡ pinned
    by (inr j) on = on j
    by (inl e) on = ⊎_elim (λ f. f ∙ here e) (λ f. f) (pin_kept n qs m₁ q l₁)

-- a mark that is not the one that stood there has been pinned
pub pin_only : (n : ℕ) (qs m : List ℕ) (q : ℕ) → (get_or (pin n qs m) q 0 ≡ get_or m q 0) ⊎ Among q qs
unfolding pin
pin_only n [] m q = inl refl
pin_only n (t ∷ qs) m q = by (eq_or_ne q t) (pin_only n qs (cond (ltb t n) (set m t pinned) m) q)
  where
    other : q ≢ t → (b : Bool) → get_or (cond b (set m t pinned) m) q 0 ≡ get_or m q 0
    other ne true = get_or-set_other m t q pinned 0 ne
    other ne false = refl

    by : (q ≡ t) ⊎ (q ≢ t) → (get_or (pin n qs (cond (ltb t n) (set m t pinned) m)) q 0 ≡ get_or (cond (ltb t n) (set m t pinned) m) q 0) ⊎ Among q qs
        → (get_or (pin n qs (cond (ltb t n) (set m t pinned) m)) q 0 ≡ get_or m q 0) ⊎ Among q (t ∷ qs)
    by (inl e) r = inr (Among.head e)
    by (inr ne) (inl f) = inl (f ∙ other ne (ltb t n))
    by (inr ne) (inr i) = inr (Among.tail i)
