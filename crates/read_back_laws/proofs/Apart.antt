-- The number and values of what reading answers tell all cases apart: they are read back.
-- Assumes nothing.
use Prim.Native.Nat.{ℕ}
use mathlib.Core.Path.{◌≡◌, refl}
use mathlib.Core.Bool.{cond}
use lib.Dec.{eqb}
use Rattle.std.specs.Prelude.{Option, Some, None, Result, Ok, Err}
use Rattle.instruction.specs.Answer.{Answer, accepted, refused}
use Rattle.instruction_laws.proofs.Undone.{undone, number_at}
use Rattle.read_back.specs.Back.{restored_of}
use Rattle.read_back.specs.Read.{Found, listed, ended, read_of}
use Rattle.marks.specs.declared.sizes.SizeError.TheVariants.{LongImage, ShortMarks}
use Rattle.read_back.specs.declared.back.RestoreError.{RestoreError}
use Rattle.read_back.specs.declared.back.RestoreError.TheVariants.{Size, NoRoom, Malformed, PastEnd}
use Rattle.read_back.specs.declared.place.Place.{Place}
use Rattle.read_back.specs.declared.place.Record.{Record}
use Rattle.read_back.specs.declared.read.ReadError.{ReadError}
use Rattle.read_back_laws.specs.ClaimsBack.{ReadApart, RestoredApart}

abbrev read_back : Answer Found → Result (Option (Record × Place)) ReadError
read_back (accepted (listed r next)) = Ok (Some (r, next))
read_back (accepted ended) = Ok None
read_back (refused n vs) = Err (record { line = number_at vs 0 })

read_again : (r : Result (Option (Record × Place)) ReadError) → read_back (read_of r) ≡ r
read_again (Ok (Some p)) = refl
read_again (Ok None) = refl
read_again (Err e) = refl

pub read_apart : ReadApart
read_apart = undone read_of read_back read_again

abbrev restored_back : Answer ℕ → Result ℕ RestoreError
restored_back (accepted k) = Ok k
restored_back (refused n vs) =
    Err
    (cond (eqb n 1) (Size (LongImage (number_at vs 0)))
    (cond (eqb n 2) (Size (ShortMarks (number_at vs 0)))
    (cond (eqb n 11) (NoRoom (number_at vs 0))
    (cond (eqb n 15) (Malformed (number_at vs 0)) (PastEnd (number_at vs 0))))))

restored_again : (r : Result ℕ RestoreError) → restored_back (restored_of r) ≡ r
restored_again (Ok k) = refl
restored_again (Err (Size (LongImage n))) = refl
restored_again (Err (Size (ShortMarks n))) = refl
restored_again (Err (NoRoom n)) = refl
restored_again (Err (Malformed k)) = refl
restored_again (Err (PastEnd k)) = refl

pub restored_apart : RestoredApart
restored_apart = undone restored_of restored_back restored_again
