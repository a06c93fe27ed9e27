-- All arrivals together are at most two for each position of the image, since each had at most two targets.
-- Assumes nothing.
use mathlib.Core.Path.{◌≡◌, refl, ap}
use mathlib.Core.Bool.{Bool, true, false, cond, ◌&&◌, ◌||◌}
use mathlib.Core.List.{List, [], ◌∷◌}
use Prim.Native.Nat.{ℕ, zero, suc, ◌+◌, ◌*◌, ◌<◌, ◌≤◌}
use native.Mathlib.Omega.{arith}
use lib.Dec.{eqb, ltb}
use lib.ListN.{length}
use borrow.Author.Tests.{eqb-true, ne_eqb}
use Rattle.instruction.specs.declared.mode.Mode.{Mode}
use Rattle.views.specs.Positions.{up_from, some, kept, bit}
use Rattle.arrivals.specs.Arrivals.{held_at, arrives, arrivals_of}
use Rattle.arrivals.proofs.HeldTargets.{held_few}

-- the sum of f at the k positions from p on
unfoldable pub total : (ℕ → ℕ) → ℕ → ℕ → ℕ
total f zero p = 0
total f (suc k) p = f p + total f k (suc p)

pub total_add : (f g : ℕ → ℕ) (k p : ℕ) → total (λ (x : ℕ). f x + g x) k p ≡ total f k p + total g k p
unfolding total
total_add f g zero p = refl
total_add f g (suc k) p = omega (arith, total_add f g k (suc p))

pub total_less : (f g : ℕ → ℕ) → ((p : ℕ) → f p ≤ g p) → (k p : ℕ) → total f k p ≤ total g k p
unfolding total
total_less f g h zero p = omega arith
total_less f g h (suc k) p = omega (arith, h p, total_less f g h k (suc p))

pub total_same : (c k p : ℕ) → total (λ (x : ℕ). c) k p ≡ c * k
unfolding total
total_same c zero p = omega arith
total_same c (suc k) p = omega (arith, total_same c k (suc p))

-- ---- one position among many

bit_and : (a b : Bool) → bit (a && b) ≤ bit b
bit_and true b = omega arith
bit_and false b = omega arith

bit_or : (a b : Bool) → bit (a || b) ≤ bit a + bit b
bit_or true b = omega arith
bit_or false b = omega arith

module _ (a : ℕ) where
  abbrev is : ℕ → ℕ
  is p = bit (eqb p a)

  never_past : (k p : ℕ) → a < p → total is k p ≡ 0
  unfolding total
  never_past zero p h = refl
  never_past (suc k) p h = let e : is p ≡ 0 = ap bit (ne_eqb p a (λ f. omega arith)) in omega (arith, e, never_past k (suc p) (omega arith))

  once : (k p : ℕ) → total is k p ≤ 1
  unfolding total
  once zero p = omega arith
  once (suc k) p = by (eqb p a) refl (once k (suc p))
    where
      by : (b : Bool) → eqb p a ≡ b → total is k (suc p) ≤ 1 → bit b + total is k (suc p) ≤ 1
      by true e h = omega (arith, never_past k (suc p) (omega (arith, eqb-true p a e)))
      by false e h = omega arith

-- these positions among many
each_once : (l : List ℕ) (k p : ℕ) → total (λ (x : ℕ). bit (some (eqb x) l)) k p ≤ length l
unfolding some
each_once [] k p = omega (arith, total_same 0 k p)
each_once (a ∷ l) k p =
    omega (
      arith,
      total_less (λ (x : ℕ). bit (eqb x a || some (eqb x) l)) (λ (x : ℕ). bit (eqb x a) + bit (some (eqb x) l))
          (λ x. bit_or (eqb x a) (some (eqb x) l)) k p,
      total_add (is a) (λ (x : ℕ). bit (some (eqb x) l)) k p,
      once a k p,
      each_once l k p,
    )

-- ---- all arrivals

module _ (mode : Mode) (image m : List ℕ) where
  -- of one position
  from_one : (q k p : ℕ) → total (λ (x : ℕ). bit (arrives mode image m x q)) k p ≤ 2
  unfolding arrives
  from_one q k p =
      omega (
        arith,
        total_less (λ (x : ℕ). bit (ltb x (length image) && some (eqb x) (held_at mode image m q)))
            (λ (x : ℕ). bit (some (eqb x) (held_at mode image m q))) (λ x. bit_and (ltb x (length image)) (some (eqb x) (held_at mode image m q))) k p,
        each_once (held_at mode image m q) k p,
        held_few mode image m q,
      )

  kept_cons : (f : ℕ → Bool) (q : ℕ) (l : List ℕ) → length (kept f (q ∷ l)) ≡ bit (f q) + length (kept f l)
  unfolding kept
  kept_cons f q l = by (f q)
    where
      by : (b : Bool) → length (cond b (q ∷ kept f l) (kept f l)) ≡ bit b + length (kept f l)
      by true = omega arith
      by false = omega arith

  from_none : (q k p : ℕ) → total (λ (x : ℕ). length (kept (arrives mode image m x) (up_from 0 q))) k p ≡ 0 * k
  unfolding up_from kept
  from_none q k p = total_same 0 k p

  -- of the j positions from q on
  from_many : (j q k p : ℕ) → total (λ (x : ℕ). length (kept (arrives mode image m x) (up_from j q))) k p ≤ 2 * j
  unfolding up_from
  from_many zero q k p = omega (arith, from_none q k p)
  from_many (suc j) q k p =
      let rest : ℕ → ℕ = λ (x : ℕ). length (kept (arrives mode image m x) (up_from j (suc q))) in
      let one : ℕ → ℕ = λ (x : ℕ). bit (arrives mode image m x q) in
      omega (
        arith,
        total_less (λ (x : ℕ). length (kept (arrives mode image m x) (q ∷ up_from j (suc q)))) (λ (x : ℕ). one x + rest x)
            (λ x. omega (arith, kept_cons (arrives mode image m x) q (up_from j (suc q)))) k p,
        total_add one rest k p,
        from_one q k p,
        from_many j (suc q) k p,
      )

  pub arrivals_few : (k p : ℕ) → total (λ (x : ℕ). length (arrivals_of mode image m x)) k p ≤ 2 * length image
  unfolding arrivals_of
  arrivals_few k p = from_many (length image) 0 k p
