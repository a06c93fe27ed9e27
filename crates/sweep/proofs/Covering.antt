-- What a sweep knows on its way: a position joined to it, and one step on. Assumes nothing.
use Prim.Native.Nat.{ℕ, ◌+◌, ◌<◌, ◌≤◌}
use native.Mathlib.Omega.{arith}
use mathlib.Core.Path.{◌≡◌, refl, subst, ◌∙◌}
use mathlib.Core.Logic.{◌⊎◌, inl, inr, ◌≢◌}
use mathlib.Core.List.Memᴰ
use mathlib.Core.List.{List, [], ◌∷◌, Memᴰ as Among}
use Rattle.reach.proofs.Cases.{lt_or_le}
use Rattle.sweep.specs.Way.{Covers, Joined}
use Rattle.sweep.specs.declared.way.Way.{Way}

abbrev pub One : Way → ℕ → ℕ → Way → Type 0
One w at t r = (r.taken ≡ w.taken) × Joined at (t ∷ []) w r

module _ (w : Way) (at t : ℕ) where
  -- behind: the lower bound is not above it
  pub behind : t < at → (f : ℕ) → f ≤ w.from → f ≤ t → (r : Way) → r ≡ record { taken = w.taken; end = w.end; from = f; to = at } → One w at t r
  behind h f a b r e = rw e (
    refl,
    record {
      bounds = λ n k all B. (B.0, omega (arith, a, B.1), k);
      new = λ q i. let s : q ≡ t = Memᴰ.eq_of_singleton i in (λ g. absurd (omega (arith, s, h, g)), λ g. (omega (arith, s, b), g));
      old = λ q C. (C.0, λ g. (omega (arith, a, (C.1 g).0), g));
    },
  )

  module _ (h : at ≤ t) where
    -- ahead: the end is past it
    pub ahead : (e : ℕ) → w.end ≤ e → t < e → ((n : ℕ) → w.end ≤ n → t < n → e ≤ n) → (r : Way)
        → r ≡ record { taken = w.taken; end = e; from = w.from; to = w.to } → One w at t r
    ahead e a b c r f = rw f (
      refl,
      record {
        bounds = λ n k all B. (c n B.0 (all t (Among.head refl)), B.1, B.2);
        new = λ q i. let s : q ≡ t = Memᴰ.eq_of_singleton i in (λ x. omega (arith, s, b), λ x. absurd (omega (arith, s, h, x)));
        old = λ q C. (λ x. omega (arith, C.0 x, a), C.1);
      },
    )

-- one more is counted
abbrev pub Counted : Way → Way → Type 0
Counted w v = v ≡ record { taken = w.taken + 1; end = w.end; from = w.from; to = w.to }

abbrev pub After : Way → ℕ → List ℕ → Way → Type 0
After w at ts r = (r.taken ≡ w.taken + 1) × Joined at ts w r

module _ (w v : Way) (at : ℕ) (c : Counted w v) where
  recounted : (ts : List ℕ) (r : Way) → (r.taken ≡ v.taken) × Joined at ts v r → After w at ts r
  recounted ts r N =
      let K = subst (λ (x : Way). (r.taken ≡ x.taken) × Joined at ts x r) c N in
      (K.0, record { bounds = K.1.bounds; new = K.1.new; old = K.1.old })

  pub after_none : After w at [] v
  after_none = rw c (refl, record { bounds = λ n k all B. B; new = λ q i. absurd (Memᴰ.not-nil i); old = λ q C. C })

  pub after_one : (s : ℕ) (r : Way) → One v at s r → After w at (s ∷ []) r
  after_one s r N = recounted (s ∷ []) r N

  pub after_two : (s t : ℕ) (x r : Way) → One v at s x → One x at t r → After w at (s ∷ t ∷ []) r
  after_two s t x r I N = recounted (s ∷ t ∷ []) r (
    N.0 ∙ I.0,
    record {
      bounds = λ n k all B.
          N.1.bounds n k (λ q i. all q (Among.tail i))
          (I.1.bounds n k (λ q i. all q (Among.head (Memᴰ.eq_of_singleton i))) B);
      new = λ q i. by q (Memᴰ.cases_cons i);
      old = λ q C. N.1.old q (I.1.old q C);
    },
  )
    where
      by : (q : ℕ) → (q ≡ s) ⊎ Among q (t ∷ []) → Covers r at q
      by q (inl e) = N.1.old q (I.1.new q (Among.head e))
      by q (inr i) = N.1.new q i

-- what was covered is, once p was met, but p itself
pub met_on : (w : Way) (p q : ℕ) → q ≢ p → Covers w p q → Covers w (p + 1) q
met_on w p q ne C = (λ h. C.0 (omega arith), λ h. C.1 (below h (lt_or_le q p)))
  where
    below : q < p + 1 → (q < p) ⊎ (p ≤ q) → q < p
    below h (inl g) = g
    below h (inr g) = absurd (ne (omega (arith, h, g)))
