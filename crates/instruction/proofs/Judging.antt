-- Stepping through a list of refusals.
-- Assumes nothing.
use Rattle.std.proofs.Common.{◌≡◌, ℕ, Bool, true, false, cond, List, [], ◌∷◌, ◌++◌, ℤ, refl, ◌∙◌, subst, append-nil, arith}
use Rattle.instruction.specs.Answer.{accepted, refused, Refusal, judge}

module _ {A : Type 0} where
  pub pass : (r : Refusal) (rs : List Refusal) (a : A) → r.holds ≡ false → judge (r ∷ rs) a ≡ judge rs a
  unfolding judge
  pass r rs a e = rw e

  pub stop : (r : Refusal) (rs : List Refusal) (a : A) → r.holds ≡ true → judge (r ∷ rs) a ≡ refused r.number r.values
  unfolding judge
  stop r rs a e = rw e

  pub done : (a : A) → judge [] a ≡ accepted a
  unfolding judge
  done a = refl

-- a refusal that a list answers is not that of a test with another number: the test does not hold, and the rest answers it
module _ {A : Type 0} (r : Refusal) (rs : List Refusal) (a : A) (n : ℕ) (vs : List ℤ) (e : judge (r ∷ rs) a ≡ refused n vs) where
  pub other_passed : (r.number ≡ n → ⊥) → (r.holds ≡ false) × (judge rs a ≡ refused n vs)
  unfolding judge
  other_passed o = by r.holds refl e
    where
      by : (t : Bool) → r.holds ≡ t → cond t (refused r.number r.values) (judge rs a) ≡ refused n vs → (r.holds ≡ false) × (judge rs a ≡ refused n vs)
      by true p f = absurd (o (let g : r.number ≡ n = cc in g))
      by false p f = (p, f)

  -- where no test after it has the number, it is this one that speaks
  pub this_spoke : (judge rs a ≡ refused n vs → ⊥) → (r.holds ≡ true) × (r.values ≡ vs)
  unfolding judge
  this_spoke o = by r.holds refl e
    where
      by : (t : Bool) → r.holds ≡ t → cond t (refused r.number r.values) (judge rs a) ≡ refused n vs → (r.holds ≡ true) × (r.values ≡ vs)
      by true p f = (p, (let g : r.values ≡ vs = cc in g))
      by false p f = absurd (o f)

-- a list that goes on: where its beginning refuses, the whole does; where its beginning accepts, the rest decides
module _ {A B : Type 0} (qs : List Refusal) (a : A) (b : B) where
  pub first_of : (rs : List Refusal) (n : ℕ) (vs : List ℤ) → judge rs a ≡ refused n vs → judge (rs ++ qs) b ≡ refused n vs
  unfolding judge
  first_of [] n vs e = let z : ◌≡◌ {A = ℕ} 0 1 = cc in absurd (omega arith)
  first_of (r ∷ rs) n vs e = by r.holds refl e (first_of rs n vs)
    where
      by : (t : Bool) → r.holds ≡ t → cond t (refused r.number r.values) (judge rs a) ≡ refused n vs
          → (judge rs a ≡ refused n vs → judge (rs ++ qs) b ≡ refused n vs) → judge (r ∷ (rs ++ qs)) b ≡ refused n vs
      by true p f rest = stop r (rs ++ qs) b p ∙ (let g : r.number ≡ n = cc in let h : r.values ≡ vs = cc in cc)
      by false p f rest = pass r (rs ++ qs) b p ∙ rest f

  pub past_all : (rs : List Refusal) → judge rs a ≡ accepted a → judge (rs ++ qs) b ≡ judge qs b
  unfolding judge
  past_all [] e = refl
  past_all (r ∷ rs) e = by r.holds refl e (past_all rs)
    where
      by : (t : Bool) → r.holds ≡ t → cond t (refused r.number r.values) (judge rs a) ≡ accepted a
          → (judge rs a ≡ accepted a → judge (rs ++ qs) b ≡ judge qs b) → judge (r ∷ (rs ++ qs)) b ≡ judge qs b
      by true p f rest = let z : ◌≡◌ {A = ℕ} 0 1 = cc in absurd (omega arith)
      by false p f rest = pass r (rs ++ qs) b p ∙ rest f

-- a list of refusals speaks alike, whatever the value
module _ {A B : Type 0} (rs : List Refusal) (a : A) (b : B) where
  pub refuses_too : (n : ℕ) (vs : List ℤ) → judge rs a ≡ refused n vs → judge rs b ≡ refused n vs
  refuses_too n vs e = subst (λ (qs : List Refusal). judge qs b ≡ refused n vs) (append-nil rs) (first_of [] a b rs n vs e)

  pub accepts_too : judge rs a ≡ accepted a → judge rs b ≡ accepted b
  accepts_too e = subst (λ (qs : List Refusal). judge qs b ≡ accepted b) (append-nil rs) (past_all [] a b rs e ∙ done b)

-- what is accepted is the value
pub accepts : {A : Type 0} (rs : List Refusal) (a b : A) → judge rs a ≡ accepted b → a ≡ b
unfolding judge
accepts [] a b e = cc
accepts (r ∷ rs) a b e = by r.holds refl e (accepts rs a b)
  where
    by : (t : Bool) → r.holds ≡ t → cond t (refused r.number r.values) (judge rs a) ≡ accepted b → (judge rs a ≡ accepted b → a ≡ b) → a ≡ b
    by true p f rest = let z : ◌≡◌ {A = ℕ} 0 1 = cc in absurd (omega arith)
    by false p f rest = rest f
