-- The number and values of the answers tell all cases apart: they are read back.
-- Assumes nothing.
use Prim.Native.Nat.{ℕ}
use mathlib.Core.Path.{◌≡◌, refl, sym, ap, ◌∙◌}
use mathlib.Core.Bool.{cond}
use mathlib.Core.List.{List}
use lib.Dec.{eqb}
use lib.IntN.{ℤ, pos, nat_abs}
use lib.ListN.{get_or}
use Rattle.std.specs.Prelude.{Result, Ok, Err}
use Rattle.instruction.specs.Answer.{Answer, accepted, refused}
use Rattle.list_text.specs.ClaimsInput.{ParsedApart}
use Rattle.list_text.specs.Text.{counts, parsed_of}
use Rattle.list_text.specs.declared.parsed.Input.{Input}
use Rattle.list_text.specs.declared.parsed.ParseError.{ParseError}
use Rattle.list_text.specs.declared.parsed.ParseError.TheVariants.{Malformed, NoRoom}

abbrev number_at : List ℤ → ℕ → ℕ
number_at vs n = nat_abs (get_or vs n (pos 0))

abbrev answered : Answer Input → Result Input ParseError
answered (accepted c) = Ok c
answered (refused n vs) = Err (cond (eqb n 13) (Malformed (number_at vs 0)) (NoRoom (counts (number_at vs 0) (number_at vs 1))))

back : (r : Result Input ParseError) → answered (parsed_of r) ≡ r
back (Ok c) = refl
back (Err (Malformed k)) = refl
back (Err (NoRoom c)) = refl

pub parsed_apart : ParsedApart
parsed_apart r s e = sym (back r) ∙ ap answered e ∙ back s
