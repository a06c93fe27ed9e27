-- Which bytes are code: demand 3 and the mask together. Document 01, 'Targets', 'Marks and steps' and 'Views'.
-- Assumes nothing.
use Rattle.std.specs.Prelude.{ℕ, ◌+◌, ◌<◌, ◌≤◌, true, List, ◌⊎◌, ◌≡◌, length, get_or}
use Rattle.instruction.specs.Bytes.{Bytes}
use Rattle.instruction.specs.Answer.{accepted}
use Rattle.instruction.specs.declared.mode.Mode.{Mode}
use Rattle.targets.specs.At.{size_here, fits_here}
use Rattle.trace.specs.Run.{RunResult, run_answer, run_marks}
use Rattle.trace_laws.specs.ClaimsImages.{Clean}
use Rattle.trace_laws.specs.Reachable.{Reachable}
use Rattle.views.specs.Mask.{mask_of}

-- b lies under an instruction that fits, at a position of this set
pub record CoveredBy (Set : ℕ → Type 0) (image : List ℕ) (b : ℕ) : Type 0 where
  pub position : ℕ
  pub reached : Set position
  pub fits : fits_here image position ≡ true
  pub from : position ≤ b
  pub to : b < position + size_here image position

-- b is code: it lies under an instruction at a reachable position that fits
abbrev pub Code : Mode → List ℕ → List ℕ → List ℕ → ℕ → Type 0
Code mode image entries pins b = CoveredBy (Reachable mode image entries pins) image b

-- the mask of the marks m tells code at b: it has 1 and b is code, or it has 0 and b is not
abbrev pub TellsCode : Mode → List ℕ → List ℕ → List ℕ → List ℕ → ℕ → Type 0
TellsCode mode image entries pins m b =
    ((get_or (mask_of image m) b 0 ≡ 1) × Code mode image entries pins b) ⊎ ((get_or (mask_of image m) b 0 ≡ 0) × (Code mode image entries pins b → ⊥))

-- for an image with no B8 0D 21 in succession and a finished run, the mask of the run's marks has 1 at each byte of code and 0 at every
-- other byte
abbrev pub CodeBytes : Type 0
CodeBytes =
    (mode : Mode) (image marks order entries pins : List ℕ) (limit : ℕ) (s : RunResult) → Bytes image → Clean image
    → run_answer mode image marks order entries pins limit ≡ accepted s → s.finished ≡ true
    → (b : ℕ) → b < length image → TellsCode mode image entries pins (run_marks mode image marks order entries pins limit) b
