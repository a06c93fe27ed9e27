-- Claims: pinned positions in images (document 02, W8), and that without them all is document 01's. Proved in proofs/ClaimsPinsKept.antt and
-- proofs/ClaimsPinsNone.antt. Assumes nothing.
use Rattle.std.specs.Prelude.{ℕ, ◌<◌, ◌≤◌, ◌||◌, ◌≢◌, ◌≡◌, eqb, ltb, length, get_or}
use mathlib.Core.List.{List, [], Memᴰ as Among}
use Rattle.instruction.specs.Answer.{accepted, judge, after}
use Rattle.instruction.specs.declared.mode.Mode.{Mode}
use Rattle.reach.specs.Mark.{cleared}
use Rattle.reach.specs.Note.{note, fresh}
use Rattle.reach.specs.Pins.{pinned, table}
use Rattle.reach.specs.Reach.{Reach}
use Rattle.reach.specs.Run.{run_of}
use Rattle.marks.specs.Refusals.{size_refusals, damaged}
use Rattle.marks.specs.Tracer.{tracer_of}
use Rattle.trace.specs.Start.{start_answer, start_marks}
use Rattle.trace.specs.Step.{idle, StepResult, step_answer, step_marks}
use Rattle.trace.specs.Run.{run_judged, run_marks, outcome_of}
use Rattle.sweep.specs.Sweep.{SweepResult, sweep_answer, sweep_leaves}

-- the marks m have 4 exactly at the pinned positions inside
abbrev pub FoursAt : List ℕ → List ℕ → List ℕ → Type 0
FoursAt image pins m = (q : ℕ) → q < length image → (Among q pins → get_or m q 0 ≡ pinned) × (get_or m q 0 ≡ pinned → Among q pins)

-- so it is after start, a run, also one that was stopped or cut off, and sweeps; a 4 that was lent and is not pinned again is gone
abbrev pub StartFours : Type 0
StartFours = (image marks entries pins : List ℕ) (k : ℕ) → start_answer image marks entries pins ≡ accepted k
    → FoursAt image pins (start_marks image marks entries pins)

abbrev pub RunFours : Type 0
RunFours =
    (mode : Mode) (image marks order entries pins : List ℕ) (limit : ℕ) → run_judged image marks order ≡ accepted tt
    → FoursAt image pins (run_marks mode image marks order entries pins limit)

abbrev pub SweepFours : Type 0
SweepFours =
    (mode : Mode) (image marks entries pins : List ℕ) (s : SweepResult) → sweep_answer mode image marks entries pins ≡ accepted s
    → FoursAt image pins (sweep_leaves mode image marks entries pins)

-- a step leaves 4 where it was, and nowhere else
abbrev pub StepFours : Type 0
StepFours =
    (mode : Mode) (image m : List ℕ) (p : ℕ) (s : StepResult) → step_answer mode image m p ≡ accepted s
    → (q : ℕ) → q < length image → (get_or m q 0 ≡ pinned → get_or (step_marks mode image m p) q 0 ≡ pinned)
    × (get_or (step_marks mode image m p) q 0 ≡ pinned → get_or m q 0 ≡ pinned)

-- a pinned position, entry or target, is not reachable, whatever the targets are
abbrev pub PinnedUnreached : Type 0
PinnedUnreached =
    (mode : Mode) (image marks entries pins : List ℕ) → length image ≤ length marks → (q : ℕ) → Among q pins → (follow : ℕ → List ℕ)
    → Reach (tracer_of mode image) follow (table (length image) pins marks) entries q → ⊥

-- with no pins start and a run note the entries over cleared marks, as in document 01
abbrev pub NoPins : Type 0
NoPins =
    (mode : Mode) (image marks entries : List ℕ) (limit : ℕ)
    → (start_answer image marks entries [] ≡ judge (size_refusals image marks) (length (fresh (length image) entries (cleared (length image) marks))))
    × (start_marks image marks entries [] ≡ after (start_answer image marks entries []) (note (length image) entries (cleared (length image) marks)) marks)
    × (outcome_of mode image marks entries [] limit ≡ run_of limit (tracer_of mode image) entries (cleared (length image) marks))

-- and of a mark that is not 4 refusals 4 and 6 judge as in document 01: 0, 2 and 3 do not wait, and over 3 is damaged
abbrev pub NoFour : Type 0
NoFour = (v : ℕ) → v ≢ pinned → (idle v ≡ (eqb v 0 || (eqb v 2 || eqb v 3))) × (damaged v ≡ ltb 3 v)
