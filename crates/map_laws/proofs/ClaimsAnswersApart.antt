-- The number and values of what the packed map answers tell all cases apart: they are read back.
-- Assumes nothing.
use Prim.Native.Nat.{ℕ}
use mathlib.Core.Path.{◌≡◌, refl}
use mathlib.Core.Bool.{cond}
use lib.Dec.{eqb}
use Rattle.std.proofs.Common.{Result, Ok, Err}
use Rattle.instruction.specs.Answer.{Answer, accepted, refused}
use Rattle.instruction_laws.proofs.Undone.{undone, number_at}
use Rattle.map.specs.Ask.{asked_of}
use Rattle.map.specs.declared.ask.AskError.{AskError}
use Rattle.map.specs.declared.ask.AskError.TheVariants as ask
use Rattle.map.specs.Update.{updated_of}
use Rattle.map.specs.declared.update.UpdateError.{UpdateError}
use Rattle.map.specs.declared.update.UpdateError.TheVariants as update
use Rattle.marks.specs.declared.sizes.SizeError.TheVariants.{LongImage, ShortMarks}
use Rattle.views.specs.declared.view.ViewError.TheVariants.{Size, Damaged, NoRoom}
use Rattle.map_laws.specs.ClaimsAnswers.{AskedApart, UpdatedApart}

abbrev asked : Answer ℕ → Result ℕ AskError
asked (accepted n) = Ok n
asked (refused n vs) =
    cond (eqb n 1) (Err (ask.LongImage (number_at vs 0)))
    (cond (eqb n 11) (Err (ask.NoRoom (number_at vs 0))) (Err (ask.Outside (number_at vs 0))))

ask_back : (r : Result ℕ AskError) → asked (asked_of r) ≡ r
ask_back (Ok n) = refl
ask_back (Err (ask.LongImage n)) = refl
ask_back (Err (ask.NoRoom n)) = refl
ask_back (Err (ask.Outside p)) = refl

pub asked_apart : AskedApart
asked_apart = undone asked_of asked ask_back

abbrev updated : Answer ℕ → Result ℕ UpdateError
updated (accepted n) = Ok n
updated (refused n vs) =
    cond (eqb n 1) (Err (update.View (Size (LongImage (number_at vs 0)))))
    (cond (eqb n 2) (Err (update.View (Size (ShortMarks (number_at vs 0)))))
    (cond (eqb n 6) (Err (update.View (Damaged (number_at vs 0))))
    (cond (eqb n 11) (Err (update.View (NoRoom (number_at vs 0)))) (Err (update.Outside (number_at vs 0))))))

update_back : (r : Result ℕ UpdateError) → updated (updated_of r) ≡ r
update_back (Ok n) = refl
update_back (Err (update.View (Size (LongImage n)))) = refl
update_back (Err (update.View (Size (ShortMarks n)))) = refl
update_back (Err (update.View (Damaged p))) = refl
update_back (Err (update.View (NoRoom n))) = refl
update_back (Err (update.Outside p)) = refl

pub updated_apart : UpdatedApart
updated_apart = undone updated_of updated update_back
