-- Where control goes after an instruction. Document 01, 'Targets': Ret and Reti have no target; Br, Brf, Jmp and Jmpf have one; the
-- conditional branches and the calls have that one, then next; all others have next.
-- Assumes nothing.
use Rattle.std.specs.Prelude.{ℕ, Bool, false, cond, ◌||◌, List, [], ◌∷◌}
use Prim.Native.String.{String}
use lib.Text.{eqt}
use Rattle.instruction.specs.Forms.{form_at}
use Rattle.instruction.specs.declared.flow.Flow.{Flow}
use Rattle.instruction.specs.declared.flow.Flow.TheVariants.{Stop, Next, Jump, Branch}

unfoldable pub stops : List String
stops = "Ret" ∷ "Reti" ∷ []

unfoldable pub jumps : List String
jumps = "Br" ∷ "Brf" ∷ "Jmp" ∷ "Jmpf" ∷ []

unfoldable pub branches : List String
branches =
    "Bz" ∷ "Bnz" ∷ "Bp" ∷ "Bpc" ∷ "Bn" ∷ "Dbnz_d9" ∷ "Dbnz_Ri" ∷ "Be_i8" ∷ "Be_d9" ∷ "Be_Rj" ∷ "Bne_i8" ∷ "Bne_d9" ∷ "Bne_Rj"
    ∷ "Call" ∷ "Callf" ∷ "Callr" ∷ []

abbrev pub among : List String → String → Bool
among [] s = false
among (t ∷ ts) s = eqt t s || among ts s

-- of the form with a number
unfoldable pub flow_of : ℕ → Flow
flow_of k =
    cond (among stops (form_at k).name) Stop (cond (among jumps (form_at k).name) Jump (cond (among branches (form_at k).name) Branch Next))
