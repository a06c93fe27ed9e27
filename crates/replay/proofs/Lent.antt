-- What is refused before the first line: the refusals of a view, then 11.
-- Assumes nothing.
use Prim.Native.Nat.{ℕ, ◌≤◌}
use mathlib.Core.Path.{◌≡◌, refl, sym}
use mathlib.Core.Bool.{true, false}
use mathlib.Core.List.{List, [], ◌∷◌, ◌++◌}
use lib.Dec.{ltb}
use lib.IntN.{ℤ, pos}
use lib.ListN.{length}
use borrow.Author.Tests.{ltb-false}
use Rattle.std.specs.Prelude.{Result, Ok, Err, is_err}
use Rattle.instruction.specs.Answer.{Answer, accepted, refused, Refusal, refuse, judge}
use Rattle.instruction.proofs.Accepting.{passed}
use Rattle.instruction.proofs.Judging.{accepts_too}
use Rattle.instruction.proofs.Sign.{never}
use Rattle.marks.specs.declared.sizes.SizeError.TheVariants.{LongImage, ShortMarks}
use Rattle.views.proofs.Viewing.{small, refused_too}
use Rattle.views.specs.View.{view_refusals, view_refused}
use Rattle.views.specs.declared.view.ViewError.{ViewError}
use Rattle.views.specs.declared.view.ViewError.TheVariants.{Size, Damaged, NoRoom}
use Rattle.replay.specs.Answers.{replayed_of, no_totals, lent_refusals}
use Rattle.replay.specs.declared.answer.ReplayError.{ReplayError}
use Rattle.replay.specs.declared.answer.ReplayError.TheVariants.{View, Malformed, Untraced, Forbidden, Full}
use Rattle.replay.specs.declared.answer.Totals.{Totals}

-- what they say where totals are asked for
module _ (image m counts : List ℕ) where
  pub lent_err : (e : ViewError) → ◌≡◌ {A = Answer (Unit {0})} (view_refused e) (judge (lent_refusals image m counts) tt)
      → replayed_of (Err (View e)) ≡ judge (lent_refusals image m counts) no_totals
  lent_err e f = refused_too (lent_refusals image m counts) no_totals e f

  pub lent_ok : ◌≡◌ {A = Answer (Unit {0})} (accepted tt) (judge (lent_refusals image m counts) tt)
      → replayed_of (Ok no_totals) ≡ judge (lent_refusals image m counts) no_totals
  lent_ok f = sym (accepts_too (lent_refusals image m counts) tt no_totals (sym f))

-- ---- what an accepted answer says

split : {A B : Type 0} (rs qs : List Refusal) (a : A) (b b' : B) → judge (rs ++ qs) b ≡ accepted b' → (judge rs a ≡ accepted a) × (judge qs b ≡ accepted b')
unfolding judge
split [] qs a b b' e = (refl, e)
split (r ∷ rs) qs a b b' e =
    let f = passed r (rs ++ qs) b e in
    let g = split rs qs a b b' f.1 in
    (rw f.0 g.0, g.1)

pub lent_sizes : (image m counts : List ℕ) (t : Totals) → judge (lent_refusals image m counts) no_totals ≡ accepted t
    → (length image ≤ 65536) × (length image ≤ length counts)
lent_sizes image m counts t e =
    let f = split {A = ℕ} (view_refusals image m) (refuse (ltb (length counts) (length image)) 11 (pos (length image) ∷ []) ∷ []) 0 no_totals t e in
    (small image m f.0, ltb-false (length counts) (length image) (passed _ _ _ f.1).0)

-- an answer is told, or it is a refusal
pub told_is : (r : Result Totals ReplayError) → is_err r ≡ false → (t : Totals) × (replayed_of r ≡ accepted t)
told_is (Ok t) e = (t, refl)
told_is (Err x) e = absurd (never e)

pub refused_is : (r : Result Totals ReplayError) → is_err r ≡ true → (n : ℕ) × (vs : List ℤ) × (replayed_of r ≡ refused n vs)
refused_is (Ok t) e = absurd (never (sym e))
refused_is (Err (View (Size (LongImage n)))) e = (1, pos n ∷ [], refl)
refused_is (Err (View (Size (ShortMarks n)))) e = (2, pos n ∷ [], refl)
refused_is (Err (View (Damaged n))) e = (6, pos n ∷ [], refl)
refused_is (Err (View (NoRoom n))) e = (11, pos n ∷ [], refl)
refused_is (Err (Malformed n)) e = (18, pos n ∷ [], refl)
refused_is (Err (Untraced n)) e = (19, pos n ∷ [], refl)
refused_is (Err (Forbidden n)) e = (20, pos n ∷ [], refl)
refused_is (Err (Full n)) e = (21, pos n ∷ [], refl)
