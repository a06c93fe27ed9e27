-- Where control goes from a position: at most two positions. Document 01, 'Targets' and 'Marks and steps'.
-- Assumes nothing.
use Rattle.std.specs.Prelude.{Result, Ok, Err, ℕ, ◌+◌, Bool, true, false, cond, ◌&&◌, List, [], ◌∷◌, length, pos, ◌==◌, nat_le, nat_lt}
use Rattle.instruction.specs.Decode.{cut_at}
use Rattle.instruction.specs.declared.mode.Mode.{Mode}
use Rattle.targets.specs.At.{form_here, size_here, fits_here, place_of, ways_here, name_here}
use Rattle.targets.specs.Targets.{in_mode}
use Rattle.instruction.specs.Flow.{flow_of}
use Rattle.instruction.specs.declared.flow.Flow.{Flow}
use Rattle.instruction.specs.declared.flow.Flow.TheVariants.{Stop, Next, Jump, Branch}
use Rattle.targets.specs.declared.place.Places.{Places}
use Rattle.targets.specs.declared.place.Places.TheVariants.{Nothing, First, Both}
use Rattle.targets.specs.declared.not_whole.NotWhole.{NotWhole}
use Rattle.targets.specs.declared.not_whole.NotWhole.TheVariants.{Cut, Outside}

-- these positions, in their order
abbrev pub places_in : Places → List ℕ
places_in Nothing = []
places_in (First a) = a ∷ []
places_in (Both a b) = a ∷ b ∷ []

-- the first two of these positions
abbrev pub places_named : List ℕ → Places
places_named [] = Nothing
places_named (a ∷ []) = First a
places_named (a ∷ b ∷ ts) = Both a b

-- a position inside an image of at most 65,536 bytes, where the instruction is not cut off
abbrev pub is_whole : List ℕ → ℕ → Bool
is_whole image p = (nat_lt p (length image) && nat_le (length image) 65536) && fits_here image p

-- the position that the instruction at p names, where it is whole
unfoldable pub name_of : Mode → List ℕ → ℕ → ℕ
name_of mode image p = cond (is_whole image p) (name_here mode image p) 65536

-- the positions that the targets at p name, where the instruction there is whole; a position is inside an image of at most 65,536 bytes
unfoldable pub ways_of : Mode → List ℕ → ℕ → Result Places NotWhole
ways_of mode image p =
    cond (nat_lt p (length image) && nat_le (length image) 65536)
    (cond (fits_here image p) (Ok (places_named (ways_here mode image p))) (Err (Cut (cut_at image p)))) (Err Outside)

-- an instruction of this flow names an address: a jump, a branch or a call
abbrev pub is_naming : Flow → Bool
is_naming Stop = false
is_naming Next = false
is_naming Jump = true
is_naming Branch = true

-- control goes on behind an instruction of this flow
abbrev pub goes_on : Flow → Bool
goes_on Stop = false
goes_on Next = true
goes_on Jump = false
goes_on Branch = true

-- p stands right behind the whole instruction at q, and control goes on to it
unfoldable pub falls_to : Mode → List ℕ → ℕ → ℕ → Bool
falls_to mode image q p =
    is_whole image q && (goes_on (flow_of (form_here image q)) && p == place_of (in_mode mode (pos (q + size_here image q))))
