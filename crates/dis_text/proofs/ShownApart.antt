-- The number and values of the answers tell all cases apart: they are read back.
-- Assumes nothing.
use mathlib.Core.Path.{◌≡◌, refl, sym, ap, ◌∙◌}
use Prim.Native.Nat.{ℕ}
use mathlib.Core.Bool.{cond}
use lib.Dec.{eqb}
use Rattle.std.specs.Prelude.{Result, Ok, Err}
use Rattle.instruction.specs.Answer.{Answer, accepted, refused}
use Rattle.marks.specs.declared.sizes.SizeError.TheVariants.{LongImage, ShortMarks}
use Rattle.views.specs.declared.view.ViewError.{ViewError}
use Rattle.views.specs.declared.view.ViewError.TheVariants.{Size, Damaged, NoRoom}
use Rattle.dis_text.specs.ClaimsOutput.{ShownApart}
use Rattle.dis_text.specs.Message.{value}
use Rattle.dis_text.specs.Output.{Output, listing, told, shown_of}
use Rattle.dis_text.specs.declared.shown.Shown.{Shown}
use Rattle.dis_text.specs.declared.shown.Shown.TheVariants.{Listing, Message}

abbrev written : Output → Shown
written (listing n) = Listing n
written (told n) = Message n

abbrev failed : ℕ → ℕ → ViewError
failed n v = cond (eqb n 1) (Size (LongImage v)) (cond (eqb n 2) (Size (ShortMarks v)) (cond (eqb n 6) (Damaged v) (NoRoom v)))

abbrev answered : Answer Output → Result Shown ViewError
answered (accepted out) = Ok (written out)
answered (refused n vs) = Err (failed n (value vs 0))

back : (r : Result Shown ViewError) → answered (shown_of r) ≡ r
back (Ok (Listing n)) = refl
back (Ok (Message n)) = refl
back (Err (Size (LongImage n))) = refl
back (Err (Size (ShortMarks n))) = refl
back (Err (Damaged p)) = refl
back (Err (NoRoom n)) = refl

pub shown_apart : ShownApart
shown_apart r s e = sym (back r) ∙ ap answered e ∙ back s
