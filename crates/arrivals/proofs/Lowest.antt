-- The lowest position from one on that passes a test: what it is, and how it goes from one to the next.
-- Assumes nothing.
use mathlib.Core.Path.{◌≡◌, refl, sym, ap, subst, ◌∙◌}
use mathlib.Core.Bool.{Bool, true, false, cond, ◌||◌}
use Prim.Native.Nat.{ℕ, zero, suc, ◌+◌, ◌-◌, ◌<◌, ◌≤◌}
use native.Mathlib.Omega.{arith}
use lib.Dec.{eqb, ltb}
use Rattle.std.proofs.Common.{Option, Some, None, MatchOption}
use Rattle.std.proofs.lemmas.Option.{same_Some, none-some}
use borrow.Author.Tests.{lt-ltb, le-ltb, ltb-true, ltb-false, eqb-true, eqb-false}
use Rattle.instruction.proofs.Sign.{never}
use Rattle.views.specs.Positions.{up_from, some}
use Rattle.views.proofs.Ups.{up_next}
use Rattle.views.proofs.Kept.{kept_no, from_is, from_end, from_takes, from_skips}
use Rattle.views.proofs.Ors.{or_first, or_second, or_rest}
use Rattle.arrivals.specs.Arrivals.{first_or}
use Rattle.arrivals.specs.Index.{lowest_of}
use Rattle.arrivals.specs.Search.{if_below}

-- what is told of a position below n
pub below_some : (n x q : ℕ) → Some q ≡ if_below n x → (x ≡ q) × (q < n)
below_some n x q e = by (ltb x n) refl e
  where
    by : (t : Bool) → ltb x n ≡ t → Some q ≡ cond t (Some x) None → (x ≡ q) × (q < n)
    by true f g = let h : x ≡ q = same_Some x q (sym g) in (h, omega (arith, ltb-true x n f))
    by false f g = absurd (none-some q (sym g))

pub below_none : (n x : ℕ) → None ≡ if_below n x → n ≤ x
below_none n x e = by (ltb x n) refl e
  where
    by : (t : Bool) → ltb x n ≡ t → None ≡ cond t (Some x) None → n ≤ x
    by true f g = absurd (none-some x g)
    by false f g = ltb-false x n f

pub told_some : (n x q : ℕ) → x ≡ q → q < n → Some q ≡ if_below n x
told_some n x q e h = rw (e, lt-ltb q n h)

pub told_none : (n x : ℕ) → n ≤ x → None ≡ if_below n x
told_none n x h = rw (le-ltb x n h)

module _ (f : ℕ → Bool) (n : ℕ) where
  pub low_past : (k : ℕ) → n ≤ k → lowest_of f n k ≡ 65536
  unfolding lowest_of
  low_past k h = ap (first_or 65536) (sym (from_is f n k) ∙ from_end f n k h)

  pub low_here : (k : ℕ) → k < n → f k ≡ true → lowest_of f n k ≡ k
  unfolding lowest_of
  low_here k h e = ap (first_or 65536) (sym (from_is f n k) ∙ from_takes f n k h e)

  pub low_later : (k : ℕ) → k < n → f k ≡ false → lowest_of f n k ≡ lowest_of f n (k + 1)
  unfolding lowest_of
  low_later k h e = ap (first_or 65536) (sym (from_is f n k) ∙ from_skips f n k h e ∙ from_is f n (k + 1))

  pub low_no : ((q : ℕ) → f q ≡ false) → (k : ℕ) → lowest_of f n k ≡ 65536
  unfolding lowest_of
  low_no h k = ap (first_or 65536) (kept_no f h _)

-- q is the lowest from k on
pub record Lowest (f : ℕ → Bool) (n k q : ℕ) : Type 0 where
  pub none : (r : ℕ) → k ≤ r → r < q → r < n → f r ≡ false
  pub from : q < n → k ≤ q
  pub here : q < n → f q ≡ true
  pub past : n ≤ q → q ≡ 65536

module _ (n : ℕ) (fits : n ≤ 65536) where
  module _ (f : ℕ → Bool) where
    at_past : (k : ℕ) → n ≤ k → Lowest f n k 65536
    at_past k h = record { none = λ r a b c. absurd (omega arith); from = λ a. absurd (omega arith); here = λ a. absurd (omega arith); past = λ a. refl }

    at_here : (k : ℕ) → k < n → f k ≡ true → Lowest f n k k
    at_here k h e = record { none = λ r a b c. absurd (omega arith); from = λ a. omega arith; here = λ a. e; past = λ a. absurd (omega arith) }

    at_later : (k q : ℕ) → f k ≡ false → Lowest f n (k + 1) q → Lowest f n k q
    at_later k q e l = record { none = λ r a b c. by r a b c (eqb r k) refl; from = λ a. let g = l.from a in omega arith; here = l.here; past = l.past }
      where
        by : (r : ℕ) → k ≤ r → r < q → r < n → (t : Bool) → eqb r k ≡ t → f r ≡ false
        by r a b c true g = ap f (eqb-true r k g) ∙ e
        by r a b c false g = let d : r ≡ k → ⊥ = eqb-false r k g in l.none r (omega arith) b c

    is : (j k : ℕ) → n - k ≡ j → Lowest f n k (lowest_of f n k)
    is zero k e = let h : n ≤ k = omega arith in subst (Lowest f n k) (sym (low_past f n k h)) (at_past k h)
    is (suc j) k e = by (f k) refl (is j (k + 1) (omega arith))
      where
        h : k < n
        h = omega arith

        by : (t : Bool) → f k ≡ t → Lowest f n (k + 1) (lowest_of f n (k + 1)) → Lowest f n k (lowest_of f n k)
        by true g l = subst (Lowest f n k) (sym (low_here f n k h g)) (at_here k h g)
        by false g l = subst (Lowest f n k) (sym (low_later f n k h g)) (at_later k _ g l)

    pub low_is : (k : ℕ) → Lowest f n k (lowest_of f n k)
    low_is k = is (n - k) k refl

    -- there is one alone
    not_before : (k q r : ℕ) → Lowest f n k q → Lowest f n k r → q < r → ⊥
    not_before k q r a b h = by (ltb q n) refl
      where
        by : (t : Bool) → ltb q n ≡ t → ⊥
        by true g = let i = ltb-true q n g in never (sym (a.here i) ∙ b.none q (a.from i) h i)
        by false g =
            let i = ltb-false q n g in
            let x = a.past i in
            let y = b.past (omega arith) in
            omega arith

    pub low_one : (k q : ℕ) → Lowest f n k q → q ≡ lowest_of f n k
    low_one k q a = by (ltb q r) refl (ltb r q) refl
      where
        r : ℕ
        r = lowest_of f n k

        by : (s : Bool) → ltb q r ≡ s → (t : Bool) → ltb r q ≡ t → q ≡ r
        by true g t i = absurd (not_before k q r a (low_is k) (ltb-true q r g))
        by false g true i = absurd (not_before k r q (low_is k) a (ltb-true r q i))
        by false g false i = let x = ltb-false q r g in let y = ltb-false r q i in omega arith

    -- passing over positions that do not pass
    pub low_over : (k q : ℕ) → k ≤ q → ((r : ℕ) → k ≤ r → r < q → r < n → f r ≡ false) → lowest_of f n q ≡ lowest_of f n k
    low_over k q h free =
        let l = low_is q in
        low_one k (lowest_of f n q)
        (record {
          none = λ r a b c. by r a b c (ltb r q) refl;
          from = λ a. let g = l.from a in omega arith;
          here = l.here;
          past = l.past;
        })
      where
        by : (r : ℕ) → k ≤ r → r < lowest_of f n q → r < n → (t : Bool) → ltb r q ≡ t → f r ≡ false
        by r a b c true g = free r a (ltb-true r q g) c
        by r a b c false g = (low_is q).none r (ltb-false r q g) b c

    -- none from k on
    pub low_none : (k : ℕ) → ((r : ℕ) → k ≤ r → r < n → f r ≡ false) → lowest_of f n k ≡ 65536
    low_none k free = sym (low_over k (k + n) (omega arith) (λ r a b c. free r a c)) ∙ low_past f n (k + n) (omega arith)

    -- whether there is one
    pub low_some : (j k : ℕ) → n - k ≡ j → some f (up_from (n - k) k) ≡ ltb (lowest_of f n k) n
    unfolding some up_from
    low_some zero k e =
        ap (λ (i : ℕ). some f (up_from i k)) e ∙ sym (ap (λ (i : ℕ). ltb i n) (low_past f n k (omega arith)) ∙ le-ltb 65536 n fits)
    low_some (suc j) k e = ap (some f) (up_next n k h) ∙ by (f k) refl (low_some j (k + 1) (omega arith))
      where
        h : k < n
        h = omega arith

        by : (t : Bool) → f k ≡ t → some f (up_from (n - (k + 1)) (k + 1)) ≡ ltb (lowest_of f n (k + 1)) n
            → (f k || some f (up_from (n - (k + 1)) (k + 1))) ≡ ltb (lowest_of f n k) n
        by true g r = or_first (f k) _ g ∙ sym (ap (λ (i : ℕ). ltb i n) (low_here f n k h g) ∙ lt-ltb k n h)
        by false g r = or_rest (f k) _ g ∙ r ∙ ap (λ (i : ℕ). ltb i n) (sym (low_later f n k h g))

    -- past q, which is not the lowest from there
    pub low_after : (q c : ℕ) → q < n → c ≡ lowest_of f n q → (c ≡ q → ⊥) → c ≡ lowest_of f n (q + 1)
    low_after q c h e d = by (f q) refl
      where
        by : (t : Bool) → f q ≡ t → c ≡ lowest_of f n (q + 1)
        by true g = absurd (d (e ∙ low_here f n q h g))
        by false g = e ∙ low_later f n q h g

    -- what a search of the positions from k on answers
    pub found_is : (k : ℕ) (r : Option ℕ)
        → MatchOption r ((i : ℕ) → k ≤ i → i < n → f i ≡ false) (λ q. (k ≤ q) × (q < n) × (f q ≡ true) × ((i : ℕ) → k ≤ i → i < q → f i ≡ false))
        → r ≡ if_below n (lowest_of f n k)
    found_is k None free = rw (low_none k free, le-ltb 65536 n fits)
    found_is k (Some q) h =
        let e : lowest_of f n k ≡ q = sym (low_over k q h.0 (λ i a b c. h.3 i a b)) ∙ low_here f n q h.1 h.2 in rw (e, lt-ltb q n h.1)

  module _ (f g : ℕ → Bool) where
    -- of a test that passes at fewer positions nothing is missed on the way to the first of the other
    pub low_fewer : ((r : ℕ) → r < n → f r ≡ false → g r ≡ false) → (k q : ℕ) → q ≡ lowest_of f n k → lowest_of g n q ≡ lowest_of g n k
    low_fewer fewer k q e = ap (lowest_of g n) e ∙ by (ltb x n) refl
      where
        x : ℕ
        x = lowest_of f n k

        l : Lowest f n k x
        l = low_is f k

        by : (t : Bool) → ltb x n ≡ t → lowest_of g n x ≡ lowest_of g n k
        by true i = low_over g k x (l.from (ltb-true x n i)) (λ r a b c. fewer r c (l.none r a b c))
        by false i =
            let h = ltb-false x n i in
            low_past g n x h ∙ sym (low_none g k (λ r a c. fewer r c (l.none r a (omega arith) c)))

    -- of either test: the lower of the two
    pub low_either : (a : ℕ → Bool) → ((r : ℕ) → r < n → a r ≡ (f r || g r)) → (k x y : ℕ) → x ≡ lowest_of f n k → y ≡ lowest_of g n k
        → cond (ltb x y) x y ≡ lowest_of a n k
    low_either a e k x y u v = by (ltb x y) refl
      where
        F : Lowest f n k x
        F = subst (Lowest f n k) (sym u) (low_is f k)

        G : Lowest g n k y
        G = subst (Lowest g n k) (sym v) (low_is g k)

        neither : (r : ℕ) → k ≤ r → r < x → r < y → r < n → a r ≡ false
        neither r h i j c = e r c ∙ or_rest (f r) (g r) (F.none r h i c) ∙ G.none r h j c

        by : (t : Bool) → ltb x y ≡ t → cond t x y ≡ lowest_of a n k
        by true i =
            let z = ltb-true x y i in
            low_one a k x (record {
              none = λ r h j c. neither r h j (omega arith) c;
              from = F.from;
              here = λ h. e x h ∙ or_first (f x) (g x) (F.here h);
              past = F.past;
            })
        by false i =
            let z = ltb-false x y i in
            low_one a k y (record {
              none = λ r h j c. neither r h (omega arith) j c;
              from = G.from;
              here = λ h. e y h ∙ or_second (f y) (g y) (G.here h);
              past = G.past;
            })
