-- How wide the line of an instruction can be: each kind of operand has a width, and antt computes the sum for each of the 70 forms.
-- Assumes nothing.
use mathlib.Core.Path.{◌≡◌, refl}
use mathlib.Core.Bool.{Bool, true, false, cond}
use mathlib.Core.List.{List, [], ◌∷◌, ◌++◌}
use Prim.Native.Nat.{ℕ, ◌+◌, ◌*◌, ◌<◌, ◌≤◌}
use Prim.Native.Char.{code}
use native.Mathlib.Omega.{arith}
use lib.Dec.{leb, ltb}
use borrow.Author.Tests.{leb-true}
use lib.ListN.{length, take, length-append, length-take}
use Rattle.instruction.specs.Kinds.{kinds_of}
use Rattle.instruction.specs.Pattern.{pattern, pattern_bytes, onto, bits_given, next_bracket}
use Rattle.instruction.specs.declared.kind.Kind.{Kind}
use Rattle.instruction.specs.declared.kind.Kind.TheVariants.{Absent, Immediate, Direct, Register, BitNumber, Page, Far, Short, Long}
use Rattle.instruction.specs.Encode.{form_in}
use Rattle.instruction.specs.Forms.{Form, forms, form_at, size_of}
use Rattle.instruction.specs.Mnemonic.{mnemonic_of, letters_of}
use Rattle.instruction.specs.Parts.{parts_of}
use Rattle.instruction.specs.declared.instr.Instr.{Instr}
use Rattle.instruction.proofs.Shapes.{at_each}
use Rattle.instruction.specs.declared.mode.Mode.{Mode}
use Rattle.listing.specs.Hex.{hex4, hexes}
use Rattle.listing.specs.Line.{fields_text}
use Rattle.listing.specs.Lines.{instr_text}
use Rattle.listing.specs.Operand.{target, shown, shown_all, operands_by, operands}
use Rattle.listing.proofs.Hexing.{hex2_length, hex3_length, hex4_length, hexes_length}

abbrev width_of : Kind → ℕ
width_of Absent = 0
width_of Immediate = 3
width_of Direct = 3
width_of Register = 3
width_of BitNumber = 1
width_of Page = 4
width_of Far = 4
width_of Short = 4
width_of Long = 4

target_width : (t : ℕ) → length (target t) ≤ 4
unfolding target
target_width t = by (ltb 65535 t)
  where
    by : (b : Bool) → length (cond b (code "?" ∷ []) (hex4 t)) ≤ 4
    by true = omega arith
    by false = omega (arith, hex4_length t)

shown_width : (t : ℕ) (k : Kind) (n : ℕ) → length (shown t k n) ≤ width_of k
unfolding shown
shown_width t Absent n = omega arith
shown_width t Immediate n = omega (arith, hex2_length n)
shown_width t Direct n = omega (arith, hex3_length n)
shown_width t Register n = omega arith
shown_width t BitNumber n = omega arith
shown_width t Page n = target_width t
shown_width t Far n = target_width t
shown_width t Short n = target_width t
shown_width t Long n = target_width t

-- a tab before each
abbrev widths : List Kind → ℕ
widths [] = 0
widths (k ∷ ks) = 1 + width_of k + widths ks

fields_width : (t : ℕ) (ks : List Kind) (ns : List ℕ) → length (fields_text (shown_all t ks ns)) ≤ widths ks + 1
unfolding fields_text
fields_width t [] ns = omega arith
fields_width t (k ∷ ks) [] = omega arith
fields_width t (k ∷ ks) (n ∷ ns) =
    omega (arith, shown_width t k n, fields_width t ks ns, length-append (shown t k n) (fields_text (shown_all t ks ns)))

-- of the bytes, the mnemonic and the operands
abbrev width_in : Form → ℕ
width_in w = 2 * size_of w + (length (letters_of w.name) + widths (kinds_of w.shape))

narrow : (k : ℕ) → k < 70 → leb (width_in (form_at k)) 22 ≡ true
unfolding forms pattern pattern_bytes onto bits_given next_bracket letters_of kinds_of
narrow = at_each (λ w. leb (width_in w) 22) (λ w. true) refl

pub instr_width : (mode : Mode) (p : ℕ) (i : Instr) (all : List ℕ) → (parts_of i).form < 70 → length (instr_text mode p i all) ≤ 31
unfolding instr_text fields_text operands_by mnemonic_of
instr_width mode p i all h =
    let bytes : List ℕ = take (size_of (form_in i)) all in
    let name : List ℕ = letters_of (form_in i).name in
    let end : List ℕ = fields_text (operands mode p i) in
    let w : width_in (form_in i) ≤ 22 = leb-true (width_in (form_in i)) 22 (narrow (parts_of i).form h) in
    let o : length end ≤ widths (kinds_of (form_in i).shape) + 1 = fields_width _ (kinds_of (form_in i).shape) _ in
    omega (
      arith,
      w,
      o,
      hex4_length p,
      hexes_length bytes,
      length-take (size_of (form_in i)) all,
      length-append name end,
      length-append (hexes bytes) (9 ∷ name ++ end),
      length-append (hex4 p) (9 ∷ hexes bytes ++ (9 ∷ name ++ end)),
    )
