-- A ceiling on the work of a run. Document 02, W12. For every mode, pins and limit, stated over the definitions that the contracts of start
-- and run cite. Proved in proofs/ClaimsCeilingsRun.antt, what is computed in proofs/ClaimsCeilingsComputed.antt. Assumes nothing.
use Rattle.std.specs.Prelude.{ℕ, ◌+◌, ◌*◌, ◌<◌, ◌≤◌, true, false, not, ◌&&◌, List, [], ◌∷◌, ◌≡◌, pos, length, get_or, take}
use Rattle.instruction.specs.Answer.{accepted, refused}
use Rattle.instruction.specs.declared.mode.Mode.{Mode}
use Rattle.instruction.specs.declared.mode.Mode.TheVariants.{Unwrapped}
use Rattle.reach.specs.HowMany.{how_many, is_among}
use Rattle.targets.specs.At.{ways_here}
use Rattle.reach.specs.Mark.{IsTraced, traced_mark, count}
use Rattle.reach.specs.Run.{noted}
use Rattle.trace.specs.Run.{RunResult, run_accepted, run_judged, run_answer, run_marks, outcome_of}
use Rattle.trace.specs.Start.{start_answer}
use Rattle.trace_laws.specs.ClaimsBetweenSamples.{lent}

-- the distinct entries inside the image that are not pinned: how many of its positions stand among the entries and not among the pins
abbrev pub distinct_entries : List ℕ → List ℕ → List ℕ → ℕ
distinct_entries image entries pins = how_many (λ (q : ℕ). is_among q entries && not (is_among q pins)) (length image) 0

-- so many positions start sets
abbrev pub StartDistinct : Type 0
StartDistinct =
    (image marks entries pins : List ℕ) (k : ℕ) → start_answer image marks entries pins ≡ accepted k → k ≡ distinct_entries image entries pins

-- how many of the image's marks are 2 or 3
abbrev pub traced_marks : List ℕ → List ℕ → ℕ
traced_marks image m = count traced_mark (take (length image) m)

-- So many steps, with so many positions noted, stay under the ceilings: the limit and the image's length; the distinct entries plus twice the
-- steps, and the image's length
pub record UnderCeilings (image entries pins : List ℕ) (limit steps noted : ℕ) : Type 0 where
  pub in_limit : steps ≤ limit
  pub in_image : steps ≤ length image
  pub noted_twice : noted ≤ distinct_entries image entries pins + 2 * steps
  pub noted_image : noted ≤ length image

-- those that a run answers, finished or stopped
abbrev pub RunCeilings : Type 0
RunCeilings =
    (mode : Mode) (image marks order entries pins : List ℕ) (limit : ℕ) (s : RunResult)
    → run_answer mode image marks order entries pins limit ≡ accepted s → UnderCeilings image entries pins limit s.steps s.noted

-- and of every run that no size refuses, so also of one that 5 ends: the marks 2 and 3 that it leaves, and the positions that it notes
abbrev pub AnyRunCeilings : Type 0
AnyRunCeilings =
    (mode : Mode) (image marks order entries pins : List ℕ) (limit : ℕ) → run_judged image marks order ≡ accepted tt
    → UnderCeilings image entries pins limit (traced_marks image (run_marks mode image marks order entries pins limit))
    (length (noted (outcome_of mode image marks entries pins limit)))

-- the third ceiling is reached only where each position that is traced has two targets, as a conditional branch and a call have
abbrev pub NotedFull : Type 0
NotedFull =
    (mode : Mode) (image marks order entries pins : List ℕ) (limit : ℕ) → run_judged image marks order ≡ accepted tt
    → length (noted (outcome_of mode image marks entries pins limit))
    ≡ distinct_entries image entries pins + 2 * traced_marks image (run_marks mode image marks order entries pins limit)
    → (q : ℕ) → q < length image → IsTraced (get_or (run_marks mode image marks order entries pins limit) q 0)
    → length (ways_here mode image q) ≡ 2

-- and not by a finished run with a step, which has taken up all that it noted
abbrev pub FinishedBelow : Type 0
FinishedBelow =
    (mode : Mode) (image marks order entries pins : List ℕ) (limit : ℕ) (s : RunResult)
    → run_answer mode image marks order entries pins limit ≡ accepted s → s.finished ≡ true
    → (s.noted ≡ s.steps) × (s.noted ≡ distinct_entries image entries pins + 2 * s.steps → s.steps ≡ 0)

-- a Bz to 3 and two bytes more
abbrev pub bz_and : ℕ → List ℕ
bz_and b = 0x80 ∷ 0x01 ∷ b ∷ b ∷ []

-- Each ceiling is reached. `00 A0` from 0: as many steps as the limit and the image's length, and as many positions noted. `80 01 A0 A0` from 0
-- with the limit 1: the step finds two positions. `80 01 68 68` from 0: so too, and then 5 ends the run
pub record CeilingsReached : Type 0 where
  pub whole : run_answer Unwrapped (0x00 ∷ 0xA0 ∷ []) lent lent (0 ∷ []) [] 2 ≡ run_accepted true 2 2
  pub stopped : run_answer Unwrapped (bz_and 0xA0) lent lent (0 ∷ []) [] 1 ≡ run_accepted false 1 (1 + 2 * 1)
  pub stopped_entries : distinct_entries (bz_and 0xA0) (0 ∷ []) [] ≡ 1
  pub cut : run_answer Unwrapped (bz_and 0x68) lent lent (0 ∷ []) [] 4 ≡ refused 5 (pos 3 ∷ pos 0x68 ∷ pos 2 ∷ [])
  pub cut_traced : traced_marks (bz_and 0x68) (run_marks Unwrapped (bz_and 0x68) lent lent (0 ∷ []) [] 4) ≡ 1
  pub cut_noted : noted (outcome_of Unwrapped (bz_and 0x68) lent (0 ∷ []) [] 4) ≡ 0 ∷ 3 ∷ 2 ∷ []
  pub cut_entries : distinct_entries (bz_and 0x68) (0 ∷ []) [] ≡ 1
