-- Positions that are marked by others: counted by those that mark them.
-- Assumes nothing.
use Prim.Native.Nat.{ℕ, zero, suc, ◌+◌, ◌*◌, ◌<◌, ◌≤◌}
use native.Mathlib.Omega.{arith}
use native.Mathlib.Nat.{mul-add}
use mathlib.Core.Bool.{Bool, true, false}
use mathlib.Core.List.{map}
use mathlib.Core.Logic.{inl, inr}
use mathlib.Core.Path.{◌≡◌, refl, sym, subst}
use lib.Dec.{eqb}
use Rattle.reach.specs.HowMany.{how_many}
use Rattle.reach.specs.Mark.{count}
use Rattle.reach.proofs.Cases.{eq_or_ne, Decided}
use Rattle.reach.proofs.Count.{one}
use Rattle.reach.proofs.HowMany.{many_none, many_or}
use Rattle.views.specs.Positions.{up_from, some, bit}
use Rattle.views_laws.specs.ClaimsCeilingsViews.{how_many_set}

-- among the k positions from p on, q marks at most c where t q holds, and none elsewhere: `r x q` says that q marks x
module _ (r : ℕ → ℕ → Bool) (t : ℕ → Bool) (c k p : ℕ) (each : (q : ℕ) → how_many (λ (x : ℕ). r x q) k p ≤ c * one (t q)) where
  pub crossing : (j q : ℕ) → how_many (λ (x : ℕ). some (r x) (up_from j q)) k p ≤ c * how_many t j q
  unfolding some up_from how_many
  crossing zero q = omega (arith, many_none k p)
  crossing (suc j) q =
      let rest = crossing j (suc q) in
      let all = many_or (λ (x : ℕ). r x q) (λ (x : ℕ). some (r x) (up_from j (suc q))) k p in
      omega (arith, rest, all, each q, mul-add c (one (t q)) (how_many t j (suc q)))

  -- where so many are marked, each of the j positions from q on marks as many as it can
  pub crossing_full : (j q : ℕ) → how_many (λ (x : ℕ). some (r x) (up_from j q)) k p ≡ c * how_many t j q
      → (y : ℕ) → q ≤ y → y < q + j → how_many (λ (x : ℕ). r x y) k p ≡ c * one (t y)
  unfolding some up_from how_many
  crossing_full zero q e y g h = absurd (omega arith)
  crossing_full (suc j) q e y g h =
      let rest = crossing j (suc q) in
      let all = many_or (λ (x : ℕ). r x q) (λ (x : ℕ). some (r x) (up_from j (suc q))) k p in
      let mine : how_many (λ (x : ℕ). r x q) k p ≡ c * one (t q) = omega (arith, rest, all, each q, e, mul-add c (one (t q)) (how_many t j (suc q))) in
      by mine (eq_or_ne y q)
      (λ f. crossing_full j (suc q) (omega (arith, rest, all, each q, e, mul-add c (one (t q)) (how_many t j (suc q)))) y (omega arith) (omega arith))
    where
      by : how_many (λ (x : ℕ). r x q) k p ≡ c * one (t q) → Decided (y ≡ q)
          → (q < y → how_many (λ (x : ℕ). r x y) k p ≡ c * one (t y)) → how_many (λ (x : ℕ). r x y) k p ≡ c * one (t y)
      by mine (inl f) on = subst (λ (z : ℕ). how_many (λ (x : ℕ). r x z) k p ≡ c * one (t z)) (sym f) mine
      by mine (inr f) on = on (omega arith)

-- what a view sets: as many as pass its test
pub set_many : (f : ℕ → Bool) (k p : ℕ) → how_many_set (map (λ (x : ℕ). bit (f x)) (up_from k p)) ≡ how_many f k p
unfolding count how_many up_from
set_many f zero p = refl
set_many f (suc k) p = let r = set_many f k (suc p) in let e = by (f p) in omega arith
  where
    by : (b : Bool) → one (eqb (bit b) 1) ≡ one b
    by true = refl
    by false = refl
