-- The number and values of what a replay answers tell all cases apart: they are read back.
-- Assumes nothing.
use Prim.Native.Nat.{ℕ}
use mathlib.Core.Path.{◌≡◌, refl}
use mathlib.Core.Bool.{cond}
use lib.Dec.{eqb}
use Rattle.std.specs.Prelude.{Result, Ok, Err}
use Rattle.marks.specs.declared.sizes.SizeError.TheVariants.{LongImage, ShortMarks}
use Rattle.views.specs.declared.view.ViewError.TheVariants.{Size, Damaged, NoRoom}
use Rattle.instruction.specs.Answer.{Answer, accepted, refused}
use Rattle.instruction_laws.proofs.Undone.{undone, number_at}
use Rattle.replay.specs.Answers.{replayed_of}
use Rattle.replay.specs.declared.answer.Totals.{Totals}
use Rattle.replay.specs.declared.answer.ReplayError.{ReplayError}
use Rattle.replay.specs.declared.answer.ReplayError.TheVariants.{View, Malformed, Untraced, Forbidden, Full}
use Rattle.replay_laws.specs.ClaimsReplay.{ReplayedApart}

abbrev replayed : Answer Totals → Result Totals ReplayError
replayed (accepted t) = Ok t
replayed (refused n vs) =
    Err
    (cond (eqb n 1) (View (Size (LongImage (number_at vs 0))))
    (cond (eqb n 2) (View (Size (ShortMarks (number_at vs 0))))
    (cond (eqb n 6) (View (Damaged (number_at vs 0)))
    (cond (eqb n 11) (View (NoRoom (number_at vs 0)))
    (cond (eqb n 18) (Malformed (number_at vs 0))
    (cond (eqb n 19) (Untraced (number_at vs 0)) (cond (eqb n 20) (Forbidden (number_at vs 0)) (Full (number_at vs 0)))))))))

back : (r : Result Totals ReplayError) → replayed (replayed_of r) ≡ r
back (Ok t) = refl
back (Err (View (Size (LongImage n)))) = refl
back (Err (View (Size (ShortMarks n)))) = refl
back (Err (View (Damaged p))) = refl
back (Err (View (NoRoom n))) = refl
back (Err (Malformed n)) = refl
back (Err (Untraced n)) = refl
back (Err (Forbidden n)) = refl
back (Err (Full n)) = refl

pub replayed_apart : ReplayedApart
replayed_apart = undone replayed_of replayed back
