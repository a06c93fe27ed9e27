-- The listing in the two modes, beside each other. Document 01, 'Views' and 'The listing'; document 02, W7.
-- Assumes nothing.
use Rattle.std.specs.Prelude.{ℕ, ◌≢◌, ◌≡◌, ℤ}
use Prim.Native.Char.{code}
use mathlib.Core.List.{List, [], ◌∷◌, Memᴰ as Among}
use Rattle.instruction.specs.Answer.{accepted}
use Rattle.instruction.specs.Bytes.{Bytes}
use Rattle.instruction.specs.declared.instr.Instr.{Instr}
use Rattle.instruction.specs.declared.mode.Mode.TheVariants.{Unwrapped, Wrapping}
use Rattle.targets.specs.Targets.{next_of, targets_in, targets_answer}
use Rattle.trace_laws.specs.ClaimsModes.{Inside}
use Rattle.trace_laws.specs.ClaimsModesAlike.{Stays}
use Rattle.arrivals.specs.Arrivals.{arrivals_of}
use Rattle.listing.specs.Lines.{instr_text}
use Rattle.listing.specs.Operand.{operands}
use Rattle.listing.specs.Walk.{listing_of}
use Rattle.listing.specs.declared.tabbed.Arrivals.{Arrivals}

-- where no short target and no next leaves memory, the modes find the same arrivals, whatever the marks
abbrev pub ArrivalsAlike : Type 0
ArrivalsAlike = (image m : List ℕ) (p : ℕ) → Stays image → arrivals_of Wrapping image m p ≡ arrivals_of Unwrapped image m p

-- the `I` line of an instruction is the same wherever each of document 01's targets is an address
abbrev pub LineAlike : Type 0
LineAlike =
    (p : ℕ) (i : Instr) (bytes : List ℕ) → Inside (targets_in Unwrapped (next_of p i) i) → instr_text Wrapping p i bytes ≡ instr_text Unwrapped p i bytes

-- so where no short target and no next leaves memory, the modes print the same listing
abbrev pub ListingAlike : Type 0
ListingAlike =
    (image m : List ℕ) (choice : Arrivals) → Bytes image → Stays image → listing_of Wrapping image m choice ≡ listing_of Unwrapped image m choice

-- in wrapping mode no operand of an `I` line is `?`
abbrev pub NoQuestion : Type 0
NoQuestion =
    (p : ℕ) (i : Instr) (ts : List ℤ) → targets_answer Wrapping p i ≡ accepted ts
    → (field : List ℕ) → Among field (operands Wrapping p i) → field ≢ code "?" ∷ []
