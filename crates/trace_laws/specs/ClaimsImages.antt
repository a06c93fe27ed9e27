-- Demand 3 for images: any order of accepted steps ends in the same marks, exactly the reachable ones. Document 01, 'Targets' and 'Marks
-- and steps'. Stated over the very definitions that the contracts of start, step and run cite.
-- Assumes nothing.
use Rattle.std.specs.Prelude.{ℕ, ◌+◌, ◌<◌, ◌≤◌, List, [], ◌∷◌, ◌≡◌, length, get_or}
use Rattle.instruction.specs.Bytes.{Bytes}
use Rattle.instruction.specs.Answer.{accepted}
use Rattle.instruction.specs.declared.mode.Mode.{Mode}
use Rattle.reach.specs.ClaimsOrder.{Final}
use Rattle.reach.specs.Run.{finished}
use Rattle.reach.specs.Pins.{table}
use Rattle.trace.specs.Run.{outcome_of}
use Rattle.trace.specs.Start.{start_answer, start_marks}
use Rattle.trace.specs.Step.{StepResult, step_answer, step_marks}
use Rattle.marks.specs.Tracer.{tracer_of}

-- no B8 0D 21 in succession
abbrev pub Clean : List ℕ → Type 0
Clean image =
    (p : ℕ) → p + 2 < length image → get_or image p 0 ≡ 0xB8 → get_or image (p + 1) 0 ≡ 0x0D → get_or image (p + 2) 0 ≡ 0x21 → ⊥

-- steps at the positions ps, one after the other, each accepted, lead from the marks m to the marks m'
pub data Steps (mode : Mode) (image : List ℕ) : List ℕ → List ℕ → List ℕ → Type 0 where
  stay : {m : List ℕ} → Steps mode image m [] m
  further : {m m' ps : List ℕ} {p : ℕ} {s : StepResult} → step_answer mode image m p ≡ accepted s → Steps mode image (step_marks mode image m p) ps m'
      → Steps mode image m (p ∷ ps) m'

-- no step is accepted
abbrev pub Still : Mode → List ℕ → List ℕ → Type 0
Still mode image m = (p : ℕ) (s : StepResult) → step_answer mode image m p ≡ accepted s → ⊥

-- m is where some order ends: started from these entries, and accepted steps until there was none
pub record StepsToEnd (mode : Mode) (image marks entries pins m : List ℕ) : Type 0 where
  pub count : ℕ
  pub started : start_answer image marks entries pins ≡ accepted count
  pub order : List ℕ
  pub steps : Steps mode image (start_marks image marks entries pins) order m
  pub still : Still mode image m

-- every order ends in the marks that demand 3 names: 2 exactly at the reachable positions whose instruction fits, 1 at the other reachable
-- ones, the rest untouched. Reachable is `Reach`, crates/reach/specs/Reach.antt
abbrev pub ImageAnyOrder : Type 0
ImageAnyOrder =
    (mode : Mode) (image marks entries pins m : List ℕ) → Bytes image → Clean image → StepsToEnd mode image marks entries pins m
    → Final (tracer_of mode image) (table (length image) pins marks) entries m

-- so any two orders end in the same marks
abbrev pub ImageSameMarks : Type 0
ImageSameMarks =
    (mode : Mode) (image marks entries pins m m' : List ℕ) → Bytes image → Clean image → StepsToEnd mode image marks entries pins m
    → StepsToEnd mode image marks entries pins m' → m ≡ m'

-- every sequence of accepted steps ends: it is at most as long as the image
abbrev pub ImageStepsBound : Type 0
ImageStepsBound = (mode : Mode) (image m m' ps : List ℕ) → length image ≤ length m → Steps mode image m ps m' → length ps ≤ length image

-- and from every table one can be continued to an end
abbrev pub ImageCanEnd : Type 0
ImageCanEnd = (mode : Mode) (image m : List ℕ) → (ps : List ℕ) × (m' : List ℕ) × Steps mode image m ps m' × Still mode image m'

-- a finished run's marks are these too
abbrev pub ImageRunFinal : Type 0
ImageRunFinal =
    (mode : Mode) (image marks entries pins : List ℕ) (limit : ℕ) → Bytes image → Clean image → length image ≤ length marks
    → (outcome_of mode image marks entries pins limit).end ≡ finished
    → Final (tracer_of mode image) (table (length image) pins marks) entries (outcome_of mode image marks entries pins limit).marks
