-- From one line to the next. Document 02, W10: the second is a target that the first had when taken up; failing that, an entry, an
-- interrupt; failing that, free, after Ret, Reti or a Jmpf with mark 3 alone.
-- Assumes nothing.
use Rattle.std.specs.Prelude.{ℕ, Bool, true, false, cond, ◌&&◌, ◌||◌, Option, Some, None, List, eqb, get_or}
use Rattle.instruction.specs.Forms.{form_named}
use Rattle.instruction.specs.declared.mode.Mode.{Mode}
use Rattle.targets.specs.At.{form_here}
use Rattle.reach.specs.Mark.{flash}
use Rattle.views.specs.Positions.{traced_at}
use Rattle.arrivals.specs.Arrivals.{arrives}
use Rattle.replay.specs.declared.moves.Move.{Move}
use Rattle.replay.specs.declared.moves.Move.TheVariants.{Target, Interrupt, Free}

-- a traced position after which any traced one may come: a Ret, a Reti, or a Jmpf with mark 3
unfoldable pub free_after : List ℕ → List ℕ → ℕ → Bool
free_after image m q =
    traced_at image m q
    && (eqb (form_here image q) (form_named "Ret")
    || (eqb (form_here image q) (form_named "Reti") || (eqb (form_here image q) (form_named "Jmpf") && eqb (get_or m q 0) flash)))

-- how control comes from q to p, where the test tells which positions are entries
unfoldable pub move_by : Mode → List ℕ → List ℕ → (ℕ → Bool) → ℕ → ℕ → Option Move
move_by mode image m isEntry q p =
    cond (arrives mode image m p q) (Some Target) (cond (isEntry p) (Some Interrupt) (cond (free_after image m q) (Some Free) None))

abbrev pub is_interrupt : Option Move → Bool
is_interrupt (Some Target) = false
is_interrupt (Some Interrupt) = true
is_interrupt (Some Free) = false
is_interrupt None = false

abbrev pub is_free : Option Move → Bool
is_free (Some Target) = false
is_free (Some Interrupt) = false
is_free (Some Free) = true
is_free None = false

abbrev pub is_forbidden : Option Move → Bool
is_forbidden (Some by) = false
is_forbidden None = true
