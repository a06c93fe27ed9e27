-- Arrivals at a position, one after another.
-- Assumes nothing.
use mathlib.Core.Path.{◌≡◌, refl, sym, ap, ◌∙◌}
use mathlib.Core.Bool.{Bool, true, false}
use mathlib.Core.List.{List, [], ◌∷◌}
use Prim.Native.Nat.{ℕ, zero, suc, ◌+◌, ◌-◌, ◌<◌, ◌≤◌}
use native.Mathlib.Omega.{arith}
use lib.Dec.{ltb, eqb}
use lib.ListN.{length}
use borrow.Author.Tests.{lt-ltb, le-ltb, lt-leb, eq-eqb, ne_eqb}
use Rattle.targets.specs.At.{fits_here}
use Rattle.targets.specs.Ways.{is_whole}
use Rattle.instruction.proofs.Ands.{not_first, not_second}
use Rattle.instruction.specs.declared.mode.Mode.{Mode}
use Rattle.views.specs.Positions.{some, traced_at}
use Rattle.views.proofs.Ors.{or_first, or_rest, or_start}
use Rattle.views.proofs.Kept.{kept_no, kept_few, kept_from, from_is, from_start, from_end, from_takes, from_skips}
use Rattle.arrivals.specs.Arrivals.{held_at, arrives, arrivals_of, first_or, next_arrival}

-- p among at most two positions
module _ (p a : ℕ) where
  pub the_one : eqb p a ≡ some (eqb p) (a ∷ [])
  unfolding some
  the_one = sym (or_start (eqb p a) false refl)

  pub the_first : p ≡ a → (b : ℕ) → true ≡ some (eqb p) (a ∷ b ∷ [])
  unfolding some
  the_first e b = sym (or_first (eqb p a) _ (eq-eqb p a e))

  pub the_second : (p ≡ a → ⊥) → (b : ℕ) → eqb p b ≡ some (eqb p) (a ∷ b ∷ [])
  unfolding some
  the_second e b = sym (or_rest (eqb p a) _ (ne_eqb p a e) ∙ or_start (eqb p b) false refl)

pub nowhere : (p : ℕ) → false ≡ some (eqb p) []
unfolding some
nowhere p = refl

module _ (mode : Mode) (image m : List ℕ) (p : ℕ) where
  pub not_inside : length image ≤ p → (q : ℕ) → false ≡ arrives mode image m p q
  unfolding arrives
  not_inside h q = sym (not_first (ltb p (length image)) _ (le-ltb p (length image) h))

  -- none arrives outside
  pub none_outside : length image ≤ p → arrivals_of mode image m p ≡ []
  unfolding arrivals_of
  none_outside h = kept_no (arrives mode image m p) (λ q. sym (not_inside h q)) _

  pub by_targets : p < length image → (q : ℕ) (l : List ℕ) → l ≡ held_at mode image m q → some (eqb p) l ≡ arrives mode image m p q
  unfolding arrives
  by_targets h q l e = rw (lt-ltb p (length image) h, e)

  none_held : 65536 < length image → (q : ℕ) → held_at mode image m q ≡ []
  unfolding held_at
  none_held h q =
      rw (not_second (traced_at image m q) (is_whole image q)
      (not_first _ (fits_here image q) (not_second (ltb q (length image)) _ (lt-leb (length image) 65536 h))))

  none_arrives : 65536 < length image → (q : ℕ) → arrives mode image m p q ≡ false
  unfolding arrives some
  none_arrives h q = not_second (ltb p (length image)) _ (ap (some (eqb p)) (none_held h q))

  pub past_limit : 65536 < length image → (from : ℕ) → 65536 ≡ next_arrival mode image m p from
  unfolding next_arrival
  past_limit h from = sym (ap (first_or 65536) (kept_no (arrives mode image m p) (none_arrives h) _))

  -- those from q on
  pub left_from : ℕ → List ℕ
  left_from q = kept_from (arrives mode image m p) (length image) q

  next_left : (k : ℕ) → next_arrival mode image m p k ≡ first_or 65536 (left_from k)
  unfolding left_from next_arrival
  next_left k = ap (first_or 65536) (sym (from_is (arrives mode image m p) (length image) k))

  pub all_left : left_from 0 ≡ arrivals_of mode image m p
  unfolding left_from arrivals_of
  all_left = from_start (arrives mode image m p) (length image)

  pub none_left : (q : ℕ) → length image ≤ q → left_from q ≡ []
  unfolding left_from
  none_left q h = from_end (arrives mode image m p) (length image) q h

  pub few : length (arrivals_of mode image m p) ≤ length image
  unfolding arrivals_of
  few = kept_few (arrives mode image m p) (length image) 0

  module _ (q : ℕ) (h : q < length image) where
    takes : arrives mode image m p q ≡ true → left_from q ≡ q ∷ left_from (q + 1)
    unfolding left_from
    takes e = from_takes (arrives mode image m p) (length image) q h e

    skips : arrives mode image m p q ≡ false → left_from q ≡ left_from (q + 1)
    unfolding left_from
    skips e = from_skips (arrives mode image m p) (length image) q h e

-- of the lowest arrival q from k on: none is left between, and it is the first that is left
pub record Next (mode : Mode) (image m : List ℕ) (p k q : ℕ) : Type 0 where
  pub same : left_from mode image m p q ≡ left_from mode image m p k
  pub head : q < length image → left_from mode image m p q ≡ q ∷ left_from mode image m p (q + 1)

module _ (mode : Mode) (image m : List ℕ) (p : ℕ) (fits : length image ≤ 65536) where
  at_end : (k : ℕ) → length image ≤ k → Next mode image m p k (first_or 65536 (left_from mode image m p k))
  at_end k h =
      let e = none_left mode image m p k h in
      rw e (record { same = none_left mode image m p 65536 fits ∙ sym e; head = λ g. absurd (omega arith) })

  at_one : (k : ℕ) → k < length image → arrives mode image m p k ≡ true → Next mode image m p k (first_or 65536 (left_from mode image m p k))
  at_one k h a =
      let e = takes mode image m p k h a in
      rw e (record { same = refl; head = λ g. e })

  further : (k q : ℕ) → left_from mode image m p k ≡ left_from mode image m p (k + 1) → Next mode image m p (k + 1) q → Next mode image m p k q
  further k q e n = record { same = n.same ∙ sym e; head = n.head }

  lowest : (j k : ℕ) → length image - k ≡ j → Next mode image m p k (first_or 65536 (left_from mode image m p k))
  lowest zero k e = at_end k (omega arith)
  lowest (suc j) k e = by (arrives mode image m p k) refl (lowest j (k + 1) (omega arith))
    where
      by : (t : Bool) → arrives mode image m p k ≡ t → Next mode image m p (k + 1) (first_or 65536 (left_from mode image m p (k + 1)))
          → Next mode image m p k (first_or 65536 (left_from mode image m p k))
      by true a n = at_one k (omega arith) a
      by false a n = let s = skips mode image m p k (omega arith) a in rw s (further k _ s n)

  pub next_is : (k q : ℕ) → q ≡ next_arrival mode image m p k → Next mode image m p k q
  next_is k q e = rw (e, next_left mode image m p k) (lowest (length image - k) k refl)

  -- q passed, the next is the first that is left
  pub passed : (q r : ℕ) → q < length image → (q < length image → left_from mode image m p q ≡ q ∷ left_from mode image m p (q + 1))
      → Next mode image m p (q + 1) r → left_from mode image m p q ≡ q ∷ left_from mode image m p r
  passed q r h g n = g h ∙ ap (λ (l : List ℕ). q ∷ l) (sym n.same)

-- from the arrival q on one is left and those behind it, and from past all of them none
module _ {mode : Mode} {image m : List ℕ} {p k q : ℕ} (n : Next mode image m p k q) where
  pub next_one : q < length image → left_from mode image m p k ≡ q ∷ left_from mode image m p (q + 1)
  next_one h = sym n.same ∙ n.head h

  pub next_none : length image ≤ q → left_from mode image m p k ≡ []
  next_none h = sym n.same ∙ none_left mode image m p q h
