-- Entry lists joined, for images. Document 02, W9: 'two students share one image and merge their entry lists'. Stated over the very
-- definitions that the contracts of start, step, run and sweep cite. Proved in proofs/ClaimsJoinImages.antt. Assumes nothing.
use Rattle.std.specs.Prelude.{ℕ, ◌<◌, true, List, [], ◌++◌, ◌≡◌, length, get_or}
use Rattle.instruction.specs.Answer.{accepted}
use Rattle.instruction.specs.Bytes.{Bytes}
use Rattle.instruction.specs.declared.mode.Mode.{Mode}
use Rattle.reach.specs.ClaimsJoin.{IsWaiting, Joined, SamePositions}
use Rattle.reach.specs.Mark.{IsTraced}
use Rattle.trace.specs.Run.{RunResult, run_answer, run_marks}
use Rattle.sweep.specs.Sweep.{SweepResult, sweep_answer, sweep_leaves}
use Rattle.trace_laws.specs.ClaimsImages.{Clean, StepsToEnd}

-- m are the marks of a trace to the end from these entries with these pins, over marks lent with any content: accepted steps until there was
-- none, a run that finished, or sweeps
pub data TracedToEnd (mode : Mode) (image entries pins m : List ℕ) : Type 0 where
  by_steps : (marks : List ℕ) → StepsToEnd mode image marks entries pins m → TracedToEnd mode image entries pins m
  by_run : (marks order : List ℕ) (limit : ℕ) (s : RunResult) → run_answer mode image marks order entries pins limit ≡ accepted s
      → s.finished ≡ true → m ≡ run_marks mode image marks order entries pins limit → TracedToEnd mode image entries pins m
  by_sweeps : (marks : List ℕ) (s : SweepResult) → sweep_answer mode image marks entries pins ≡ accepted s
      → m ≡ sweep_leaves mode image marks entries pins → TracedToEnd mode image entries pins m

-- a position is traced for two lists joined exactly when it is traced for the first or for the second; the waiting positions left obey the
-- same law. Each of the three may have been traced in its own way
abbrev pub ImageJoined : Type 0
ImageJoined =
    (mode : Mode) (image e₁ e₂ pins m₁ m₂ m : List ℕ) → Bytes image → Clean image
    → TracedToEnd mode image e₁ pins m₁ → TracedToEnd mode image e₂ pins m₂ → TracedToEnd mode image (e₁ ++ e₂) pins m
    → (q : ℕ) → q < length image → Joined IsTraced m₁ m₂ m q × Joined IsWaiting m₁ m₂ m q

-- lists of the same positions, in any order and with repeats, leave the same marks in the image
abbrev pub ImageSameEntries : Type 0
ImageSameEntries =
    (mode : Mode) (image e e' pins m m' : List ℕ) → Bytes image → Clean image → SamePositions e e'
    → TracedToEnd mode image e pins m → TracedToEnd mode image e' pins m' → (q : ℕ) → q < length image → get_or m q 0 ≡ get_or m' q 0

-- lists joined in the other order; a list with an empty one joined; a list joined to itself
pub data Rejoined : List ℕ → List ℕ → Type 0 where
  turned : (e₁ e₂ : List ℕ) → Rejoined (e₁ ++ e₂) (e₂ ++ e₁)
  none_after : (e : List ℕ) → Rejoined (e ++ []) e
  none_before : (e : List ℕ) → Rejoined ([] ++ e) e
  itself : (e : List ℕ) → Rejoined (e ++ e) e

-- they change nothing
abbrev pub ImageRejoined : Type 0
ImageRejoined =
    (mode : Mode) (image e e' pins m m' : List ℕ) → Bytes image → Clean image → Rejoined e e'
    → TracedToEnd mode image e pins m → TracedToEnd mode image e' pins m' → (q : ℕ) → q < length image → get_or m q 0 ≡ get_or m' q 0
