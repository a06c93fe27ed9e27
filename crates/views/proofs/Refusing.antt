-- The refusals that all views share, in the order of the code.
-- Assumes nothing.
use mathlib.Core.Path.{◌≡◌, sym, ap, subst, ◌∙◌}
use mathlib.Core.Bool.{true, false}
use mathlib.Core.List.{List, [], ◌∷◌}
use Prim.Native.Nat.{ℕ, zero, suc, ◌+◌, ◌-◌, ◌<◌, ◌≤◌}
use native.Mathlib.Omega.{arith}
use lib.IntN.{pos}
use lib.ListN.{length}
use Rattle.instruction.specs.Answer.{Answer, accepted, refused, judge}
use Rattle.instruction.proofs.Judging.{pass, stop, done}
use Rattle.marks.specs.Refusals.{size_refusals, size_refused}
use Rattle.marks.specs.declared.sizes.SizeError.{SizeError}
use Rattle.marks.proofs.Sizing.{right_sizes, sizes_refused}
use Rattle.views.specs.Positions.{up_from, positions}
use Rattle.views.specs.View.{damaged_here, damage_in, view_refusals}
use Rattle.views.proofs.Ups.{up_next, up_end, up_start}

module _ (image m : List ℕ) where
  abbrev n : ℕ
  n = length image

  abbrev Is : Answer (Unit {0}) → Type 0
  Is r = r ≡ judge (view_refusals image m) tt

  -- what is said of these positions
  abbrev said : List ℕ → Answer (Unit {0})
  said ps = judge (damage_in image m ps) tt

  pub sizes : (e : SizeError) → ◌≡◌ {A = Answer (Unit {0})} (size_refused e) (judge (size_refusals image m) tt) → Is (size_refused e)
  unfolding view_refusals
  sizes e f = sizes_refused image m (damage_in image m (positions image)) tt e f

  -- from p on there is the same damage as from the start
  pub Left : ℕ → Type 0
  Left p = said (up_from (n - p) p) ≡ said (positions image)

  pub left_start : Left 0
  unfolding Left
  left_start = ap said (up_start n)

  pub left_next : (p : ℕ) → p < n → damaged_here image m p ≡ false → Left p → Left (p + 1)
  unfolding Left
  left_next p h d l = sym (ap said (up_next n p h) ∙ pass _ _ _ d) ∙ l

  -- nothing is damaged up to p
  pub left_from_lem : (p : ℕ) → p ≤ n → ((q : ℕ) → q < p → damaged_here image m q ≡ false) → Left p
  left_from_lem zero h f = left_start
  left_from_lem (suc p) h f =
      let e : p + 1 ≡ suc p = omega arith in
      subst Left e (left_next p (omega arith) (f p (omega arith)) (left_from_lem p (omega arith) (λ q g. f q (omega arith))))

  module _ (fits : n ≤ 65536) (room : n ≤ length m) where
    sized : ◌≡◌ {A = Answer (Unit {0})} (judge (view_refusals image m) tt) (said (positions image))
    unfolding view_refusals
    sized = right_sizes image m (damage_in image m (positions image)) tt fits room

    pub damaged_mark : (p : ℕ) → p < n → damaged_here image m p ≡ true → Left p → Is (refused 6 (pos p ∷ []))
    unfolding Left
    damaged_mark p h d l =
        sym (sized ∙ sym l ∙ ap said (up_next n p h) ∙ stop _ _ _ d)

    pub sound : (p : ℕ) → n ≤ p → Left p → Is (accepted tt)
    unfolding Left
    sound p h l = sym (sized ∙ sym l ∙ ap said (up_end n p h) ∙ done tt)
