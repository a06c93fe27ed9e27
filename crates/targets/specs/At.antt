-- What stands at a position of an image, and where control goes from it. Document 01, 'Targets' and 'Marks and steps'.
-- Assumes nothing.
use Rattle.std.specs.Prelude.{ℕ, ◌+◌, ◌-◌, Bool, ◌&&◌, List, map, length, drop, ℤ, pos, negsuc, ◌==◌, nat_le, slice_index}
use Rattle.instruction.specs.Decode.{fields_in}
use Rattle.instruction.specs.Forms.{form_at, form_of, form_named, size_of}
use Rattle.instruction.specs.Flow.{flow_of}
use Rattle.instruction.specs.Parts.{parts_of, made_of}
use Rattle.instruction.specs.declared.flow.Flow.{Flow}
use Rattle.instruction.specs.declared.flow.Flow.TheVariants.{Stop, Next, Jump, Branch}
use Rattle.instruction.specs.declared.instr.Instr.{Instr}
use Rattle.instruction.specs.declared.mode.Mode.{Mode}
use Rattle.targets.specs.Targets.{address_in, targets_in}

-- the form, and the size, of what stands at p
abbrev pub form_here : List ℕ → ℕ → ℕ
form_here image p = form_of (slice_index image p)

abbrev pub size_here : List ℕ → ℕ → ℕ
size_here image p = size_of (form_at (form_here image p))

-- the instruction at p is not cut off by the end
unfoldable pub fits_here : List ℕ → ℕ → Bool
fits_here image p = nat_le (p + size_here image p) (length image)

-- the instruction that the patterns give to the bytes at p
unfoldable pub instr_here : List ℕ → ℕ → Instr
instr_here image p = made_of (fields_in (form_here image p) (drop p image))

-- the position that a target names; one below 0 is outside every image, as 65,536 is
abbrev pub place_of : ℤ → ℕ
place_of (pos n) = n
place_of (negsuc n) = 65536

-- the targets of the instruction at p, in document 01's order
unfoldable pub ways_here : Mode → List ℕ → ℕ → List ℕ
ways_here mode image p = map place_of (targets_in mode (p + size_here image p) (instr_here image p))

-- of a jump, a branch or a call the position t that it names; the others name none, as 65,536 is outside every image
abbrev pub named_by : Flow → ℕ → ℕ
named_by Stop t = 65536
named_by Next t = 65536
named_by Jump t = t
named_by Branch t = t

-- the position that the instruction at p names; next is not named
unfoldable pub name_here : Mode → List ℕ → ℕ → ℕ
name_here mode image p = named_by (flow_of (parts_of (instr_here image p)).form) (place_of (address_in mode (p + size_here image p) (instr_here image p)))

-- a Jmpf at p with the bytes B8 0D at p - 2
unfoldable pub flash_here : List ℕ → ℕ → Bool
flash_here image p =
    nat_le 2 p && (form_here image p == (form_named "Jmpf") && (slice_index image (p - 2) == 0xB8 && slice_index image (p - 1) == 0x0D))
