-- Those that name a position, one after another: the target mark, and who arrives by a name; and the lower of those and of the ones from
-- which control goes on is the next arrival.
-- Assumes nothing.
use mathlib.Core.Path.{◌≡◌, refl, sym, ap, subst, ◌∙◌}
use mathlib.Core.Bool.{Bool, true, false, cond, not, ◌||◌}
use mathlib.Core.List.{List}
use Prim.Native.Nat.{ℕ, ◌+◌, ◌-◌, ◌<◌, ◌≤◌, min}
use native.Mathlib.Nat.{zero-add}
use native.Mathlib.Omega.{arith}
use lib.Dec.{eqb, ltb}
use lib.ListN.{length, get_or}
use borrow.Author.Tests.{lt-ltb, le-ltb, ltb-true, ltb-false, eqb-true, eqb-false, eq-eqb, ne_eqb}
use Rattle.instruction.proofs.Ands.{both, not_first, not_second, first_part}
use Rattle.instruction.proofs.Sign.{never}
use Rattle.instruction.specs.declared.mode.Mode.{Mode}
use Rattle.reach.specs.Mark.{flash, traced_mark}
use Rattle.marks.specs.Tracer.{exempt_here}
use Rattle.views.specs.Positions.{some, bit}
use Rattle.views.specs.Labels.{named_from, names, labelled, labels_of}
use Rattle.views.proofs.Labelling.{named_untraced, named_traced}
use Rattle.views.proofs.TracedAt.{by_mark, traced_marked}
use Rattle.views.proofs.Ups.{up_start, up_at}
use Rattle.arrivals.specs.Arrivals.{arrives, next_arrival}
use Rattle.arrivals.specs.Index.{lowest_of, name_at, names_it, names_held, is_held, falls_from, next_namer, next_held, next_fall, index_of, first_in, next_in}
use Rattle.arrivals.specs.ClaimsIndex.{OfBytes}
use Rattle.arrivals.proofs.ClaimsIndexed.{arrives_two_ways, first_indexed, next_indexed}
use Rattle.arrivals.proofs.Lowest.{Lowest, low_past, low_here, low_later, low_is, low_some, low_after, low_fewer, low_either}
use Rattle.arrivals.proofs.Namers.{by_name, untraced_name, traced_name, namer_traced}

lesser : (x y : ℕ) → min x y ≡ cond (ltb x y) x y
lesser x y = by (ltb x y) refl
  where
    by : (t : Bool) → ltb x y ≡ t → min x y ≡ cond t x y
    by true e = let h = ltb-true x y e in omega arith
    by false e = let h = ltb-false x y e in omega arith

module _ (mode : Mode) (image m : List ℕ) (b : OfBytes image) (p : ℕ) where
  abbrev n : ℕ
  n = length image

  abbrev N : ℕ → Bool
  N = names_it mode image m p

  -- ---- along the index

  -- the lowest from there on is it itself
  again : (k q : ℕ) → q ≡ next_namer mode image m p k → q ≡ next_namer mode image m p q
  again k q e = e ∙ sym (low_fewer n b.1 N N (λ r h f. f) k q e)

  pub names_here : (q : ℕ) → q < n → q ≡ next_namer mode image m p q → N q ≡ true
  names_here q h e = subst (λ (x : ℕ). x < n → N x ≡ true) (sym e) (low_is n b.1 N q).here h

  -- and has a mark
  pub namer_marked : (q : ℕ) → q < n → q ≡ next_namer mode image m p q → q < length m
  namer_marked q h e = traced_marked image m q (namer_traced mode image m b.0 p q b.1 (names_here q h e))

  -- the next stands further on
  pub chain_up : (q r : ℕ) → q < n → q ≡ next_namer mode image m p q → r ≡ next_in (index_of mode image m) q → q < r
  chain_up q r h e f = by (ltb r n) refl
    where
      d : r ≡ next_namer mode image m p (q + 1)
      d = f ∙ next_indexed mode image m p q b h (names_here q h e)

      l : Lowest N n (q + 1) r
      l = subst (Lowest N n (q + 1)) (sym d) (low_is n b.1 N (q + 1))

      by : (t : Bool) → ltb r n ≡ t → q < r
      by true g = let i = l.from (ltb-true r n g) in omega arith
      by false g = let i = ltb-false r n g in omega (arith, h, i)

  -- of a test that passes only where p is named
  module _ (g : ℕ → Bool) (fewer : (r : ℕ) → r < n → N r ≡ false → g r ≡ false) where
    pub chain_first : p < n → (q : ℕ) → q ≡ first_in (index_of mode image m) p → (q ≡ next_namer mode image m p q) × (lowest_of g n q ≡ lowest_of g n 0)
    chain_first h q e =
        let f : q ≡ next_namer mode image m p 0 = e ∙ first_indexed mode image m p b h in
        (again 0 q f, low_fewer n b.1 N g fewer 0 q f)

    pub chain_next : (q r : ℕ) → q < n → N q ≡ true → r ≡ next_in (index_of mode image m) q
        → (r ≡ next_namer mode image m p r) × (lowest_of g n r ≡ lowest_of g n (q + 1))
    chain_next q r h e f =
        let d : r ≡ next_namer mode image m p (q + 1) = f ∙ next_indexed mode image m p q b h e in
        (again (q + 1) r d, low_fewer n b.1 N g fewer (q + 1) r d)

    -- one that does not pass is passed over
    pub chain_over : (q r : ℕ) → q < n → q ≡ next_namer mode image m p q → r ≡ next_in (index_of mode image m) q → g q ≡ false
        → (r ≡ next_namer mode image m p r) × (lowest_of g n r ≡ lowest_of g n q)
    chain_over q r h e f d =
        let x = chain_next q r h (names_here q h e) f in
        (x.0, x.1 ∙ sym (low_later g n q h d))

  -- ---- who names p for a target mark

  module _ (h : p < n) (q : ℕ) (i : q < n) where
    not_memory : eqb 65536 p ≡ false
    not_memory = ne_eqb 65536 p (λ e. omega (arith, e, h, b.1))

    pub exempt_not : exempt_here image m q ≡ true → names mode image m p q ≡ false
    exempt_not e = by (traced_mark (get_or m q 0)) refl
      where
        by : (t : Bool) → traced_mark (get_or m q 0) ≡ t → eqb (named_from mode image m q) p ≡ false
        by true t = ap (λ (x : ℕ). eqb x p) (sym (named_traced mode image m q t true e)) ∙ not_memory
        by false t = ap (λ (x : ℕ). eqb x p) (sym (named_untraced mode image m q t)) ∙ not_memory

    plain_name : exempt_here image m q ≡ false → named_from mode image m q ≡ name_at mode image m q
    plain_name e = by (traced_mark (get_or m q 0)) refl
      where
        by : (t : Bool) → traced_mark (get_or m q 0) ≡ t → named_from mode image m q ≡ name_at mode image m q
        by true t = sym (named_traced mode image m q t false e) ∙ traced_name mode image m q (sym (by_mark image m q i) ∙ t)
        by false t = sym (named_untraced mode image m q t) ∙ untraced_name mode image m q (sym (by_mark image m q i) ∙ t)

    pub named_so : exempt_here image m q ≡ false → N q ≡ true → names mode image m p q ≡ true
    named_so e f =
        let d : p ≡ name_at mode image m q = eqb-true p (name_at mode image m q) (sym (by_name mode image m p q h) ∙ f) in
        eq-eqb (named_from mode image m q) p (plain_name e ∙ sym d)

    pub unnamed_not : N q ≡ false → names mode image m p q ≡ false
    unnamed_not f = by (exempt_here image m q) refl
      where
        by : (t : Bool) → exempt_here image m q ≡ t → names mode image m p q ≡ false
        by true e = exempt_not e
        by false e =
            let d : p ≡ name_at mode image m q → ⊥ = eqb-false p (name_at mode image m q) (sym (by_name mode image m p q h) ∙ f) in
            ne_eqb (named_from mode image m q) p (λ g. d (sym g ∙ plain_name e))

  abbrev L : ℕ → Bool
  L = names mode image m p

  label_is : labelled mode image m p ≡ ltb (lowest_of L n 0) n
  unfolding labelled
  label_is = ap (some L) (sym (up_start n)) ∙ low_some n b.1 L (n - 0) 0 refl

  pub label_found : (q : ℕ) → q < n → L q ≡ true → lowest_of L n q ≡ lowest_of L n 0 → true ≡ labelled mode image m p
  label_found q h e f = sym (label_is ∙ ap (λ (x : ℕ). ltb x n) (sym f ∙ low_here L n q h e) ∙ lt-ltb q n h)

  pub label_none : (q : ℕ) → n ≤ q → lowest_of L n q ≡ lowest_of L n 0 → false ≡ labelled mode image m p
  label_none q h f = sym (label_is ∙ ap (λ (x : ℕ). ltb x n) (sym f ∙ low_past L n q h) ∙ le-ltb 65536 n b.1)

  pub label_bit : p < n → bit (labelled mode image m p) ≡ get_or (labels_of mode image m) p 0
  unfolding labels_of
  label_bit h =
      sym (up_at (λ (t : ℕ). bit (labelled mode image m t)) n 0 p h ∙ ap (λ (t : ℕ). bit (labelled mode image m t)) (zero-add p))

  -- ---- who arrives by a name

  abbrev H : ℕ → Bool
  H = names_held mode image m p

  pub held_fewer : (r : ℕ) → r < n → N r ≡ false → H r ≡ false
  unfolding names_held
  held_fewer r h e = not_first (N r) (is_held m r) e

  pub flash_not : (q : ℕ) → get_or m q 0 ≡ flash → H q ≡ false
  unfolding names_held
  flash_not q e = not_second (N q) (is_held m q) (ap not (eq-eqb (get_or m q 0) flash e))

  pub held_found : (q : ℕ) → q < n → q ≡ next_namer mode image m p q → (get_or m q 0 ≡ flash → ⊥) → next_held mode image m p q ≡ q
  unfolding names_held
  held_found q h e f = low_here H n q h (both (N q) (is_held m q) (names_here q h e) (ap not (ne_eqb (get_or m q 0) flash f)))

  held_names : (q : ℕ) → H q ≡ true → N q ≡ true
  unfolding names_held
  held_names q e = first_part (N q) (is_held m q) e

  -- past q: it is the lowest from there on, or it is not
  pub held_at : (q c r : ℕ) → q < n → c ≡ next_held mode image m p q → c ≡ q → r ≡ next_in (index_of mode image m) q
      → (r ≡ next_namer mode image m p r) × (next_held mode image m p r ≡ next_held mode image m p (q + 1))
  held_at q c r h e f d =
      let g : H q ≡ true = subst (λ (x : ℕ). x < n → H x ≡ true) (sym (sym f ∙ e)) (low_is n b.1 H q).here h in
      chain_next H held_fewer q r h (held_names q g) d

  pub held_not : (q c : ℕ) → q < n → c ≡ next_held mode image m p q → (c ≡ q → ⊥) → c ≡ next_held mode image m p (q + 1)
  held_not q c h e f = low_after n b.1 H q c h e f

  pub fall_not : (q c : ℕ) → q < n → c ≡ next_fall mode image m p q → (c ≡ q → ⊥) → c ≡ next_fall mode image m p (q + 1)
  fall_not q c h e f = low_after n b.1 (falls_from mode image m p) q c h e f

  -- ---- who arrives

  arrival_is : (k : ℕ) → next_arrival mode image m p k ≡ lowest_of (arrives mode image m p) n k
  unfolding next_arrival lowest_of
  arrival_is k = refl

  neither : (a c : Bool) → (a || c) ≡ false → (a ≡ false) × (c ≡ false)
  neither true c e = absurd (never e)
  neither false c e = (refl, e)

  module _ (h : p < n) where
    pub lower_arrival : (k c f : ℕ) → c ≡ next_held mode image m p k → f ≡ next_fall mode image m p k → min c f ≡ next_arrival mode image m p k
    lower_arrival k c f e d =
        lesser c f ∙ low_either n b.1 H (falls_from mode image m p) (arrives mode image m p) (λ r i. arrives_two_ways mode image m p r b h) k c f e d ∙ sym (arrival_is k)

    none_of : (r : ℕ) → arrives mode image m p r ≡ false → (H r ≡ false) × (falls_from mode image m p r ≡ false)
    none_of r e = neither (H r) (falls_from mode image m p r) (sym (arrives_two_ways mode image m p r b h) ∙ e)

    -- from the next arrival on, both are the same as from before it
    pub held_kept : (k q c : ℕ) → q ≡ next_arrival mode image m p k → c ≡ next_held mode image m p k → c ≡ next_held mode image m p q
    held_kept k q c e f = f ∙ sym (low_fewer n b.1 (arrives mode image m p) H (λ r i g. (none_of r g).0) k q (e ∙ arrival_is k))

    pub fall_kept : (k q c : ℕ) → q ≡ next_arrival mode image m p k → c ≡ next_fall mode image m p k → c ≡ next_fall mode image m p q
    fall_kept k q c e f =
        f ∙ sym (low_fewer n b.1 (arrives mode image m p) (falls_from mode image m p) (λ r i g. (none_of r g).1) k q (e ∙ arrival_is k))
