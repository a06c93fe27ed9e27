-- What an `I` line shows: the processor's instruction as far as the patterns are the processor's. Document 01, 'The listing', 'Targets'
-- and 'Marks and steps'.
-- Assumes nothing.
use Rattle.std.specs.Prelude.{ℕ, ◌≤◌, true, List, ◌∷◌, ◌≡◌, ℤ, length, take, drop}
use Prim.Native.Char.{code}
use Rattle.instruction.specs.Bytes.{Bytes}
use Rattle.instruction.specs.Answer.{accepted}
use Rattle.instruction.specs.Decode.{decode_answer}
use Rattle.instruction.specs.Encode.{form_in}
use Rattle.instruction.specs.Forms.{size_of}
use Rattle.instruction.specs.Mnemonic.{mnemonic_of}
use Rattle.instruction.specs.Parts.{parts_of}
use Rattle.instruction.specs.declared.instr.Instr.{Instr}
use Rattle.instruction.specs.declared.mode.Mode.{Mode}
use Rattle.targets.specs.At.{fits_here}
use Rattle.targets.specs.Here.{here_of}
use Rattle.targets.specs.Targets.{targets_answer}
use Rattle.trace.specs.Run.{RunResult, run_answer, run_marks}
use Rattle.trace_laws.specs.ClaimsImages.{Clean}
use Rattle.views.specs.Positions.{traced_at}
use Rattle.trace_laws.specs.Reachable.{Reachable}
use Rattle.views_laws.specs.ClaimsSound.{Undamaged}
use Rattle.listing.specs.Hex.{hex4, hexes}
use Rattle.listing.specs.Line.{line}
use Rattle.listing.specs.Lines.{here_line}
use Rattle.listing.specs.Operand.{first_of, operands_by}

-- decode of the bytes from p on and targets at p both answer, and the line at p is made of what they answer
pub record Shown (mode : Mode) (image : List ℕ) (p : ℕ) : Type 0 where
  pub instr : Instr
  pub decoded : decode_answer (drop p image) ≡ accepted instr
  pub targets : List ℤ
  pub going : targets_answer mode p instr ≡ accepted targets
  pub shown : here_line mode image p (here_of image p)
      ≡ line (code "I") (hex4 p ∷ hexes (take (size_of (form_in instr)) (drop p image)) ∷ mnemonic_of (parts_of instr).form
      ∷ operands_by (first_of (accepted targets)) instr)

-- at each traced position of marks that no view refuses
abbrev pub TracedShown : Type 0
TracedShown =
    (mode : Mode) (image m : List ℕ) → Bytes image → length image ≤ 65536 → Undamaged image m → (p : ℕ) → traced_at image m p ≡ true → Shown mode image p

-- for an image with no B8 0D 21 in succession and a finished run, the traced positions are those reachable from the entries at which the
-- instruction is not cut off
abbrev pub TracedReachable : Type 0
TracedReachable =
    (mode : Mode) (image marks order entries pins : List ℕ) (limit : ℕ) (s : RunResult) → Bytes image → Clean image
    → run_answer mode image marks order entries pins limit ≡ accepted s → s.finished ≡ true
    → (p : ℕ) → (traced_at image (run_marks mode image marks order entries pins limit) p ≡ true → Reachable mode image entries pins p × (fits_here image p ≡ true))
    × (Reachable mode image entries pins p → fits_here image p ≡ true → traced_at image (run_marks mode image marks order entries pins limit) p ≡ true)
