-- Traced positions: each test of the code is one of the definition.
-- Assumes nothing.
use mathlib.Core.Path.{◌≡◌, refl, sym, ap, ◌∙◌}
use mathlib.Core.Bool.{Bool, true, false, ◌&&◌}
use mathlib.Core.List.{List}
use Prim.Native.Nat.{ℕ, ◌<◌, ◌≤◌}
use lib.Dec.{ltb}
use lib.ListN.{length, get_or, get_or-eq_default}
use borrow.Author.Tests.{lt-ltb, ltb-true, ltb-false}
use Rattle.instruction.proofs.Sign.{never}
use Rattle.instruction.proofs.Ands.{not_second, first_part}
use Rattle.reach.specs.Mark.{traced_mark}
use Rattle.views.specs.Positions.{traced_at}

module _ (image m : List ℕ) (p : ℕ) where
  pub past_marks : length m ≤ p → false ≡ traced_at image m p
  unfolding traced_mark
  past_marks h = sym (not_second (ltb p (length image)) _ (ap traced_mark (get_or-eq_default m 0 h)))

  pub by_mark : p < length image → traced_mark (get_or m p 0) ≡ traced_at image m p
  by_mark h = sym (ap (λ (t : Bool). t && traced_mark (get_or m p 0)) (lt-ltb p (length image) h))

  pub traced_inside : traced_at image m p ≡ true → p < length image
  traced_inside e = ltb-true p (length image) (first_part (ltb p (length image)) _ e)

  pub traced_marked : traced_at image m p ≡ true → p < length m
  traced_marked e = by (ltb p (length m)) refl
    where
      by : (t : Bool) → ltb p (length m) ≡ t → p < length m
      by true f = ltb-true p (length m) f
      by false f = absurd (never (sym (past_marks (ltb-false p (length m) f) ∙ e)))
