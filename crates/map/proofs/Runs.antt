-- Counts and searches over positions: in parts, moved, and told by what stands where.
-- Assumes nothing.
use mathlib.Core.Path.{◌≡◌, refl, sym, ap, ap₂, ◌∙◌}
use mathlib.Core.Bool.{Bool, true, false, cond}
use Prim.Native.Nat.{ℕ, zero, suc, ◌+◌, ◌<◌, ◌≤◌}
use native.Mathlib.Omega.{arith}
use lib.Dec.{eqb}
use borrow.Author.Tests.{eqb-true, eqb-false}
use Rattle.instruction.proofs.Sign.{never}
use Rattle.map.specs.Bits.{bit, count_in, first_in}
use Rattle.map.proofs.Digits.{digit_le}

pub count_add : (f : ℕ → Bool) (i j p : ℕ) → count_in f (i + j) p ≡ count_in f i p + count_in f j (p + i)
unfolding count_in
count_add f zero j p =
    ap₂ (λ (k q : ℕ). count_in f k q) (let e : 0 + j ≡ j = omega arith in e) (let e : p ≡ p + 0 = omega arith in
    e) ∙ (let e : count_in f j (p + 0) ≡ 0 + count_in f j (p + 0) = omega arith in e)
count_add f (suc i) j p =
    ap (λ (k : ℕ). count_in f k p) (let e : suc i + j ≡ suc (i + j) = omega arith in e)
    ∙ ap (λ (x : ℕ). bit (f p) + x) (count_add f i j (suc p))
    ∙ (let e : bit (f p) + (count_in f i (suc p) + count_in f j (suc p + i)) ≡ bit (f p) + count_in f i (suc p) + count_in f j (suc p + i) = omega arith in e)
    ∙ ap (λ (q : ℕ). bit (f p) + count_in f i (suc p) + count_in f j q) (let e : suc p + i ≡ p + suc i = omega arith in e)

pub count_none : (f : ℕ → Bool) (k p : ℕ) → ((i : ℕ) → p ≤ i → i < p + k → f i ≡ false) → count_in f k p ≡ 0
unfolding count_in
count_none f zero p h = refl
count_none f (suc k) p h =
    ap₂ (λ (b : Bool) (x : ℕ). bit b + x) (h p (omega arith) (omega arith)) (count_none f k (suc p) (λ i l j. h i (omega arith) (omega arith)))

-- the same from another place
pub count_moved : (f g : ℕ → Bool) (k p q : ℕ) → ((i : ℕ) → i < k → f (p + i) ≡ g (q + i)) → count_in f k p ≡ count_in g k q
unfolding count_in
count_moved f g zero p q h = refl
count_moved f g (suc k) p q h =
    ap₂ (λ (b : Bool) (x : ℕ). bit b + x)
    (ap f (let e : p ≡ p + 0 = omega arith in e) ∙ h 0 (omega arith) ∙ ap g (let e : q + 0 ≡ q = omega arith in e))
    (count_moved f g k (suc p) (suc q)
    (λ i l. ap f (let e : suc p + i ≡ p + suc i = omega arith in e) ∙ h (suc i) (omega arith) ∙ ap g (let e : q + suc i ≡ suc q + i = omega arith in e)))

-- ---- the first

pub first_in_lem : (f : ℕ → Bool) (k p : ℕ) → (p ≤ first_in f k p) × (first_in f k p ≤ p + k)
unfolding first_in
first_in_lem f zero p = (omega arith, omega arith)
first_in_lem f (suc k) p = by (f p) (first_in_lem f k (suc p))
  where
    by : (b : Bool) → (suc p ≤ first_in f k (suc p)) × (first_in f k (suc p) ≤ suc p + k)
        → (p ≤ cond b p (first_in f k (suc p))) × (cond b p (first_in f k (suc p)) ≤ p + suc k)
    by true h = (omega arith, omega arith)
    by false h = (omega (arith, h.0), omega (arith, h.1))

-- none before it passes
pub first_before : (f : ℕ → Bool) (k p i : ℕ) → p ≤ i → i < first_in f k p → f i ≡ false
unfolding first_in
first_before f zero p i l h = absurd (omega arith)
first_before f (suc k) p i l h = by (f p) refl h (λ m g. first_before f k (suc p) i m g)
  where
    by : (b : Bool) → f p ≡ b → i < cond b p (first_in f k (suc p)) → (suc p ≤ i → i < first_in f k (suc p) → f i ≡ false) → f i ≡ false
    by true e g rest = absurd (omega arith)
    by false e g rest = at (eqb p i) refl
      where
        at : (t : Bool) → eqb p i ≡ t → f i ≡ false
        at true d = ap f (sym (eqb-true p i d)) ∙ e
        at false d = rest (let n : p ≡ i → ⊥ = eqb-false p i d in omega arith) g

-- it passes, where there is one
pub first_hit : (f : ℕ → Bool) (k p : ℕ) → first_in f k p < p + k → f (first_in f k p) ≡ true
unfolding first_in
first_hit f zero p h = absurd (omega arith)
first_hit f (suc k) p h = by (f p) refl h (λ g. first_hit f k (suc p) g)
  where
    by : (b : Bool) → f p ≡ b → cond b p (first_in f k (suc p)) < p + suc k → (first_in f k (suc p) < suc p + k → f (first_in f k (suc p)) ≡ true)
        → f (cond b p (first_in f k (suc p))) ≡ true
    by true e g rest = e
    by false e g rest = rest (omega arith)

-- so a position that passes, with none before it, is the first
pub first_is : (f : ℕ → Bool) (k p z : ℕ) → p ≤ z → z < p + k → ((i : ℕ) → p ≤ i → i < z → f i ≡ false) → f z ≡ true → z ≡ first_in f k p
unfolding first_in
first_is f zero p z l h e t = absurd (omega arith)
first_is f (suc k) p z l h e t = by (f p) refl (λ m. first_is f k (suc p) z m (omega arith) (λ i n j. e i (omega arith) j) t)
  where
    by : (b : Bool) → f p ≡ b → (suc p ≤ z → z ≡ first_in f k (suc p)) → z ≡ cond b p (first_in f k (suc p))
    by true d rest = at (eqb p z) refl
      where
        at : (s : Bool) → eqb p z ≡ s → z ≡ p
        at true c = sym (eqb-true p z c)
        at false c = absurd (never (sym d ∙ e p (omega arith) (let n : p ≡ z → ⊥ = eqb-false p z c in omega arith)))
    by false d rest = at (eqb p z) refl
      where
        at : (s : Bool) → eqb p z ≡ s → z ≡ first_in f k (suc p)
        at true c = absurd (never (sym t ∙ ap f (sym (eqb-true p z c)) ∙ d))
        at false c = rest (let n : p ≡ z → ⊥ = eqb-false p z c in omega arith)

pub first_none : (f : ℕ → Bool) (k p : ℕ) → ((i : ℕ) → p ≤ i → i < p + k → f i ≡ false) → p + k ≡ first_in f k p
unfolding first_in
first_none f zero p e = omega arith
first_none f (suc k) p e = rw (e p (omega arith) (omega arith)) (let g = first_none f k (suc p) (λ i l j. e i (omega arith) (omega arith)) in omega arith)

pub count_le : (f : ℕ → Bool) (k p : ℕ) → count_in f k p ≤ k
unfolding count_in
count_le f zero p = omega arith
count_le f (suc k) p = omega (arith, count_le f k (suc p), digit_le (f p))
