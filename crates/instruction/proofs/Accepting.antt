-- What an accepted call says of its refusals: none holds.
-- Assumes nothing.
use Rattle.std.proofs.Common.{◌≡◌, ℕ, Bool, true, false, cond, List, [], ◌∷◌, ℤ, refl, arith}
use Rattle.instruction.specs.Answer.{Answer, accepted, refused, Refusal, judge}

module _ {A : Type 0} where
  -- no call is both
  pub differ : {a : A} {n : ℕ} {vs : List ℤ} → ◌≡◌ {A = Answer A} (refused n vs) (accepted a) → ⊥
  differ e = let z : ◌≡◌ {A = ℕ} 1 0 = cc in omega arith

  pub passed : (r : Refusal) (rs : List Refusal) (a : A) {b : A} → judge (r ∷ rs) a ≡ accepted b → (r.holds ≡ false) × (judge rs a ≡ accepted b)
  unfolding judge
  passed r rs a {b} e = by r.holds refl e
    where
      by : (t : Bool) → r.holds ≡ t → cond t (refused r.number r.values) (judge rs a) ≡ accepted b → (r.holds ≡ false) × (judge rs a ≡ accepted b)
      by true p f = let z : ◌≡◌ {A = ℕ} 0 1 = cc in absurd (omega arith)
      by false p f = (p, f)

  pub ended : (a : A) {b : A} → judge [] a ≡ accepted b → a ≡ b
  unfolding judge
  ended a e = cc
