-- The bytes of an instruction: as many as its form's pattern has, each of eight bits.
-- Assumes nothing.
use mathlib.Core.Path.{◌≡◌, refl, ap, subst}
use mathlib.Core.List.{List, [], ◌∷◌, map}
use Prim.Native.Nat.{ℕ, zero, suc, ◌^◌, ◌<◌}
use native.Mathlib.Omega.{arith}
use lib.ListN.{length}
use Rattle.instruction.specs.Bytes.{Bytes}
use Rattle.instruction.specs.Encode.{instr_bytes}
use Rattle.instruction.specs.Forms.{forms, form_at, bits}
use Rattle.instruction.specs.Parts.{parts_of}
use Rattle.instruction.specs.Pattern.{Bit, value, filled, pattern, pattern_bytes, onto, bits_given, next_bracket}
use Rattle.instruction.proofs.Known.{known}
use Rattle.instruction.proofs.Shapes.{at_each}
use Rattle.instruction.proofs.Writing.{value_lt}
use Rattle.instruction_laws.specs.RoundTrips.{EncodedBytes}

filled_length : (ps : List (List Bit)) (ns : List ℕ) → length (filled ps ns) ≡ length ps
filled_length [] ns = refl
filled_length (p ∷ ps) ns = ap suc (filled_length ps ns)

-- every byte of a pattern has eight bits
abbrev Eight : List (List Bit) → Type 0
Eight ps = map length ps ≡ map (λ p. 8) ps

eight : (k : ℕ) → k < 70 → Eight (bits (form_at k))
unfolding forms pattern pattern_bytes onto bits_given next_bracket
eight = at_each (λ w. map length (bits w)) (λ w. map (λ p. 8) (bits w)) refl

filled_small : (ps : List (List Bit)) (ns : List ℕ) → Eight ps → Bytes (filled ps ns)
filled_small [] ns e n = omega arith
filled_small (p ∷ ps) ns e zero = let q : length p ≡ 8 = cc in subst (λ (m : ℕ). value p ns < 2 ^ m) q (value_lt p ns)
filled_small (p ∷ ps) ns e (suc n) = let q : Eight ps = cc in filled_small ps ns q n

pub encoded_bytes : EncodedBytes
unfolding instr_bytes
encoded_bytes i =
    record {
      size = filled_length (bits (form_at (parts_of i).form)) _;
      small = filled_small (bits (form_at (parts_of i).form)) _ (eight (parts_of i).form (known i).small);
    }
