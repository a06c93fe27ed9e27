-- Ceilings on what the views of a run set. Document 02, W12; document 01, 'Views'.
-- Proved in proofs/ClaimsCeilingsViews.antt, what is computed in proofs/ClaimsCeilingsShown.antt. Assumes nothing.
use Rattle.std.specs.Prelude.{ℕ, ◌*◌, ◌<◌, ◌≤◌, true, List, [], ◌∷◌, ◌≡◌, eqb, length, get_or}
use Rattle.instruction.specs.Bytes.{Bytes}
use Rattle.instruction.specs.Answer.{accepted}
use Rattle.instruction.specs.declared.mode.Mode.{Mode}
use Rattle.instruction.specs.declared.mode.Mode.TheVariants.{Unwrapped}
use Rattle.targets.specs.At.{size_here}
use Rattle.reach.specs.Mark.{IsTraced, count}
use Rattle.trace.specs.Run.{RunResult, run_accepted, run_answer, run_marks}
use Rattle.trace_laws.specs.ClaimsBetweenSamples.{lent}
use Rattle.trace_laws.specs.ClaimsCeilings.{traced_marks}
use Rattle.views.specs.Labels.{named_from, labels_of}
use Rattle.views.specs.Mask.{mask_of}

-- how many elements are set: they are 1
abbrev pub how_many_set : List ℕ → ℕ
how_many_set l = count (λ (v : ℕ). eqb v 1) l

-- the mask has at most three bytes set for each mark 2 or 3, whatever the marks; so also after a run that 5 ends
abbrev pub MaskCeiling : Type 0
MaskCeiling = (image m : List ℕ) → Bytes image → length image ≤ length m → how_many_set (mask_of image m) ≤ 3 * traced_marks image m

-- so many only where each traced position has an instruction of three bytes
abbrev pub MaskFull : Type 0
MaskFull =
    (image m : List ℕ) → Bytes image → length image ≤ length m → how_many_set (mask_of image m) ≡ 3 * traced_marks image m
    → (q : ℕ) → q < length image → IsTraced (get_or m q 0) → size_here image q ≡ 3

-- the target marks have at most one set for each, whatever the marks, in an image that no view refuses with 1
abbrev pub LabelsCeiling : Type 0
LabelsCeiling =
    (mode : Mode) (image m : List ℕ) → length image ≤ 65536 → length image ≤ length m → how_many_set (labels_of mode image m) ≤ traced_marks image m

-- so many only where each traced position names a position inside the image
abbrev pub LabelsFull : Type 0
LabelsFull =
    (mode : Mode) (image m : List ℕ) → length image ≤ 65536 → length image ≤ length m → how_many_set (labels_of mode image m) ≡ traced_marks image m
    → (q : ℕ) → q < length image → IsTraced (get_or m q 0) → named_from mode image m q < length image

-- so many steps are a ceiling on the views of the marks m: three times as many on the mask, and as many on the target marks
pub record ViewCeilings (mode : Mode) (image m : List ℕ) (steps : ℕ) : Type 0 where
  pub mask : how_many_set (mask_of image m) ≤ 3 * steps
  pub labels : how_many_set (labels_of mode image m) ≤ steps

-- so it is with the marks of a run, finished or stopped, and the steps that it answers
abbrev pub RunViewCeilings : Type 0
RunViewCeilings =
    (mode : Mode) (image marks order entries pins : List ℕ) (limit : ℕ) (s : RunResult) → Bytes image
    → run_answer mode image marks order entries pins limit ≡ accepted s
    → ViewCeilings mode image (run_marks mode image marks order entries pins limit) s.steps

-- Both are reached: `21 00 00` from 0 is one step, a Jmpf of three bytes that names itself
pub record ViewCeilingsReached : Type 0 where
  pub finished : run_answer Unwrapped (0x21 ∷ 0x00 ∷ 0x00 ∷ []) lent lent (0 ∷ []) [] 3 ≡ run_accepted true 1 1
  pub mask : how_many_set (mask_of (0x21 ∷ 0x00 ∷ 0x00 ∷ []) (run_marks Unwrapped (0x21 ∷ 0x00 ∷ 0x00 ∷ []) lent lent (0 ∷ []) [] 3)) ≡ 3 * 1
  pub labels : how_many_set (labels_of Unwrapped (0x21 ∷ 0x00 ∷ 0x00 ∷ []) (run_marks Unwrapped (0x21 ∷ 0x00 ∷ 0x00 ∷ []) lent lent (0 ∷ []) [] 3)) ≡ 1
