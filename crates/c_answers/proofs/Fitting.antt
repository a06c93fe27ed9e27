-- The values that an answer carries fit 64 bits with a sign, wherever its type does not say so.
-- Assumes nothing.
use mathlib.Core.Path.{◌≡◌, refl}
use mathlib.Core.Bool.{Bool, true, false, cond, ◌&&◌}
use mathlib.Core.List.{List, [], ◌∷◌, ◌++◌}
use Prim.Native.Nat.{ℕ, ◌<◌, ◌^◌}
use lib.Dec.{leb}
use lib.IntN.{ℤ, pos, negsuc}
use Rattle.instruction.specs.Answer.{Answer, accepted, refused, Refusal, judge}
use Rattle.instruction.proofs.Carried.{Each}
use Rattle.instruction.proofs.Sign.{never}
use Rattle.trace.specs.Run.{and_then}

-- the refusals 4 to 10 carry numbers of at most 32 bits
abbrev pub narrow : ℕ → Bool
narrow n = leb 4 n && leb n 10

-- each value fits
abbrev pub Fit : List ℤ → Type 0
Fit [] = Unit {0}
Fit (pos n ∷ vs) = (n < 2 ^ 63) × Fit vs
Fit (negsuc n ∷ vs) = Fit vs

-- those of every refusal but 4 to 10 do
abbrev pub Fits : ℕ → List ℤ → Type 0
Fits n vs = narrow n ≡ false → Fit vs

pub this : (n : ℕ) {a : ℕ} → a < 2 ^ 63 → Fits n (pos a ∷ [])
this n h g = (h, tt)

-- nothing is asked of 4 to 10
pub fewer : {A : Type 0} → true ≡ false → A
fewer e = absurd (never e)

-- those of an answer do: a refusal's, and of an accepted call what P says
abbrev pub Holds : {A : Type 0} → (A → Type 0) → Answer A → Type 0
Holds P (accepted a) = P a
Holds P (refused n vs) = Fits n vs

pub judged : {A : Type 0} (P : A → Type 0) (rs : List Refusal) (a : A) → Each Fits rs → (judge rs a ≡ accepted a → P a) → Holds P (judge rs a)
unfolding judge
judged P [] a h k = k refl
judged P (r ∷ rs) a h k = by r.holds k (judged P rs a h.1)
  where
    by : (t : Bool) → (cond t (refused r.number r.values) (judge rs a) ≡ accepted a → P a)
        → ((judge rs a ≡ accepted a → P a) → Holds P (judge rs a)) → Holds P (cond t (refused r.number r.values) (judge rs a))
    by true q rest = h.0
    by false q rest = rest q

-- and after refusals that do not hold those that follow do
pub judged_then : {A : Type 0} (P : A → Type 0) (rs qs : List Refusal) (a : A) → Each Fits rs → (judge rs a ≡ accepted a → Holds P (judge qs a))
    → Holds P (judge (rs ++ qs) a)
unfolding judge
judged_then P [] qs a h k = k refl
judged_then P (r ∷ rs) qs a h k = by r.holds k (judged_then P rs qs a h.1)
  where
    by : (t : Bool) → (cond t (refused r.number r.values) (judge rs a) ≡ accepted a → Holds P (judge qs a))
        → ((judge rs a ≡ accepted a → Holds P (judge qs a)) → Holds P (judge (rs ++ qs) a))
        → Holds P (cond t (refused r.number r.values) (judge (rs ++ qs) a))
    by true q rest = h.0
    by false q rest = rest q

-- what nothing is asked of
abbrev pub Any : {A : Type 0} → A → Type 0
Any a = Unit {0}

-- a length fits
abbrev pub Short : ℕ → Type 0
Short n = n < 2 ^ 63

-- what follows where nothing is refused
pub begun : {A B : Type 0} (P : B → Type 0) (j : Answer A) (b : Answer B) → Holds Any j → Holds P b → Holds P (and_then j b)
begun P (accepted a) b h k = k
begun P (refused n vs) b h k = h
