-- The line of the instruction at a position is the one that its own bytes give: no other byte of the image is read.
-- Assumes nothing.
use mathlib.Core.Path.{◌≡◌, refl, sym, ap, ◌∙◌}
use mathlib.Core.Bool.{true}
use mathlib.Core.List.{List, [], ◌∷◌}
use Prim.Native.Nat.{ℕ, suc, ◌+◌, ◌<◌, ◌≤◌}
use Prim.Native.Char.{code}
use native.Mathlib.Nat.{add-zero}
use native.Mathlib.Omega.{arith}
use lib.ListN.{length, get_or, take, drop, length-drop}
use lib.Seq.{get_or-take, get_or-drop, length-take-le, take-take}
use Rattle.instruction.specs.Bytes.{Bytes}
use Rattle.instruction.specs.Pattern.{Bit, field}
use Rattle.instruction.specs.Decode.{fields_in}
use Rattle.instruction.specs.Forms.{form_at, form_of, bits, size_of}
use Rattle.instruction.specs.Mnemonic.{mnemonic_of}
use Rattle.instruction.specs.Parts.{parts_of}
use Rattle.instruction.specs.declared.instr.Instr.{Instr}
use Rattle.instruction.proofs.Decoding.{found}
use Rattle.instruction.specs.declared.mode.Mode.{Mode}
use Rattle.targets.specs.At.{form_here, size_here, fits_here, instr_here}
use Rattle.targets.specs.Here.{here_of}
use Rattle.std.specs.Prelude.{Ok}
use Rattle.targets.proofs.HereIs.{answer, whole_here}
use Rattle.targets.proofs.Within.{Within, within, form_is, form_here_lem}
use Rattle.listing.specs.Hex.{hex4, hexes}
use Rattle.listing.specs.Line.{line}
use Rattle.listing.specs.Lines.{instr_text, here_line, code_line}
use Rattle.listing.specs.Operand.{operands}
use Rattle.listing.proofs.Lining.{code_here}

-- a pattern reads its own bytes alone
field_own : (l : ℕ) (ps : List (List Bit)) (k i : ℕ) (s : List ℕ) → i + length ps ≤ k → field l ps (take k s) i ≡ field l ps s i
field_own l [] k i s h = refl
field_own l (p ∷ ps) k i s h = rw (get_or-take k s i 0 (omega arith), field_own l ps k (suc i) s (omega arith))

fields_own : (k : ℕ) (s : List ℕ) → fields_in k (take (size_of (form_at k)) s) ≡ fields_in k s
unfolding fields_in
fields_own k s = rw (own 0, own 1, own 2)
  where
    own : (l : ℕ) → field l (bits (form_at k)) (take (size_of (form_at k)) s) 0 ≡ field l (bits (form_at k)) s 0
    own l = field_own l (bits (form_at k)) (size_of (form_at k)) 0 s (omega arith)

-- the bytes of the instruction at p
abbrev pub bytes_at : List ℕ → ℕ → List ℕ
bytes_at image p = take (size_here image p) (drop p image)

module _ (mode : Mode) (image : List ℕ) (B : Bytes image) (p : ℕ) (h : p < length image) (f : fits_here image p ≡ true) where
  abbrev instr : Instr
  instr = instr_here image p

  abbrev bytes : List ℕ
  bytes = bytes_at image p

  pub there : Within image p instr
  there = within image p B h f

  pub bytes_size : length bytes ≡ size_here image p
  bytes_size = length-take-le (size_here image p) (drop p image) (omega (arith, there.most, length-drop p image))

  first : get_or bytes 0 0 ≡ get_or image p 0
  first = get_or-take (size_here image p) (drop p image) 0 0 there.least ∙ get_or-drop p image 0 0 ∙ ap (λ (n : ℕ). get_or image n 0) (add-zero p)

  whole_own : Ok instr ≡ here_of bytes 0
  unfolding instr_here
  whole_own =
      whole_here bytes 0 (omega (arith, bytes_size, there.least)) instr
      (found bytes (λ e. omega (arith, bytes_size, there.least)) (form_here image p) (ap form_of (sym first)) (omega (arith, bytes_size))
      (fields_in (form_here image p) (drop p image)) (sym (fields_own (form_here image p) (drop p image))) instr refl)

  -- the line with these for its bytes
  abbrev text_with : List ℕ → List ℕ
  text_with bs = line (code "I") (hex4 p ∷ hexes bs ∷ mnemonic_of (parts_of instr).form ∷ operands mode p instr)

  pub code_own : length image ≤ 65536 → text_with bytes ≡ code_line mode p bytes
  unfolding instr_text
  code_own small =
      ap text_with (sym (rw there.size (take-take (size_here image p) (size_here image p) (drop p image) (omega arith))))
      ∙ code_here mode p bytes instr whole_own (omega (arith, there.size, there.most))

  pub code_text : here_line mode image p (here_of image p) ≡ text_with bytes
  unfolding instr_text
  code_text =
      ap (here_line mode image p) (sym (whole_here image p h instr (sym (answer image p h true f))))
      ∙ ap (λ (k : ℕ). text_with (take k (drop p image))) there.size

  pub code_form : (parts_of instr).form < 70
  code_form = rw (form_is image p B) (form_here_lem image p B)
