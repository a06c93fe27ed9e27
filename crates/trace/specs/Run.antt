-- What a run answers and leaves. Document 01, 'Marks and steps', and refusals 1, 2, 3, then 5, which keeps what the run wrote.
-- Assumes nothing.
use Rattle.std.specs.Prelude.{ℕ, Bool, true, false, List, [], ◌∷◌, ◌++◌, ◌≡◌, ltb, pos, length, take, Result, Ok, Err}
use Rattle.instruction.specs.Answer.{Answer, accepted, refused, Refusal, refuse, judge, after}
use Rattle.instruction.specs.CutOff.{cut_values}
use Rattle.instruction.specs.declared.answer.CutOff.{CutOff}
use Rattle.instruction.specs.Decode.{cut_at}
use Rattle.instruction.specs.declared.mode.Mode.{Mode}
use Rattle.reach.specs.Mark.{traced_mark, count}
use Rattle.reach.specs.Queue.{TakenInOrder}
use Rattle.reach.specs.Run.{End, finished, stopped, cut_off, Outcome, steps, noted, ordered, run_of}
use Rattle.reach.specs.Pins.{table}
use Rattle.marks.specs.Refusals.{size_refusals, size_refused}
use Rattle.marks.specs.Tracer.{tracer_of}
use Rattle.targets.specs.At.{fits_here}
use Rattle.trace.specs.declared.run.Ran.{Ran}
use Rattle.trace.specs.declared.run.Ran.TheVariants.{Finished, Stopped}
use Rattle.trace.specs.declared.run.RunError.{RunError}
use Rattle.trace.specs.declared.run.RunError.TheVariants.{Size, ShortOrder, Cut}

-- 3: order list shorter than image
abbrev pub run_refusals : List ℕ → List ℕ → List ℕ → List Refusal
run_refusals image marks order =
    size_refusals image marks ++ refuse (ltb (length order) (length image)) 3 (pos (length order) ∷ []) ∷ []

abbrev pub run_judged : List ℕ → List ℕ → List ℕ → Answer (Unit {0})
run_judged image marks order = judge (run_refusals image marks order) tt

-- the run starts afresh: the entries noted over cleared marks with the pins
unfoldable pub outcome_of : Mode → List ℕ → List ℕ → List ℕ → List ℕ → ℕ → Outcome
outcome_of mode image marks entries pins limit = run_of limit (tracer_of mode image) entries (table (length image) pins marks)

-- whether it is finished, the steps and the positions noted
pub record RunResult : Type 0 where
  pub finished : Bool
  pub steps : ℕ
  pub noted : ℕ

abbrev pub run_accepted : Bool → ℕ → ℕ → Answer RunResult
run_accepted b s n = accepted (record { finished = b; steps = s; noted = n })

abbrev pub ran_of : Result Ran RunError → Answer RunResult
ran_of (Ok (Finished c)) = run_accepted true c.steps c.noted
ran_of (Ok (Stopped c)) = run_accepted false c.steps c.noted
ran_of (Err (Size e)) = size_refused e
ran_of (Err (ShortOrder n)) = refused 3 (pos n ∷ [])
ran_of (Err (Cut c)) = refused 5 (cut_values c)

-- how it ended: an instruction cut off is 5, with position, first byte and how many bytes are missing
abbrev pub end_of : List ℕ → End → ℕ → ℕ → Answer RunResult
end_of image finished s n = run_accepted true s n
end_of image stopped s n = run_accepted false s n
end_of image (cut_off p) s n = refused 5 (cut_values (cut_at image p))

abbrev pub ran_answer : List ℕ → Outcome → Answer RunResult
ran_answer image out = end_of image out.end (steps out) (length (noted out))

-- a refusal where there is one, else what follows
abbrev pub and_then : {A B : Type 0} → Answer A → Answer B → Answer B
and_then (accepted a) b = b
and_then (refused n vs) b = refused n vs

unfoldable pub run_answer : Mode → List ℕ → List ℕ → List ℕ → List ℕ → List ℕ → ℕ → Answer RunResult
run_answer mode image marks order entries pins limit =
    and_then (run_judged image marks order) (ran_answer image (outcome_of mode image marks entries pins limit))

-- what its start and its steps wrote: also where it ended by 5
unfoldable pub run_marks : Mode → List ℕ → List ℕ → List ℕ → List ℕ → List ℕ → ℕ → List ℕ
run_marks mode image marks order entries pins limit =
    after (run_judged image marks order) (outcome_of mode image marks entries pins limit).marks marks

-- the order list: the positions noted, and the rest as it was
unfoldable pub run_order : Mode → List ℕ → List ℕ → List ℕ → List ℕ → List ℕ → ℕ → List ℕ
run_order mode image marks order entries pins limit =
    after (run_judged image marks order) (ordered (outcome_of mode image marks entries pins limit) order) order

-- of the inner function that takes the next position up: it is taken up and what it found is written at the list's end, or its
-- instruction is cut off and nothing changes
pub record NextTaken (mode : Mode) (image m o : List ℕ) (p tail : ℕ) (r : Result ℕ CutOff) (m' o' : List ℕ) : Type 0 where
  pub on : (t : ℕ) → r ≡ Ok t → (fits_here image p ≡ true) × TakenInOrder (tracer_of mode image) p m o tail m' o' t
  pub off : (c : CutOff) → r ≡ Err c → (fits_here image p ≡ false) × (cut_values c ≡ cut_values (cut_at image p)) × (m' ≡ m) × (o' ≡ o)

-- the steps are the marks 2 and 3 afterwards
abbrev pub StepsTied : List ℕ → Result Ran RunError → List ℕ → Type 0
StepsTied image (Ok (Finished c)) m = c.steps ≡ count traced_mark (take (length image) m)
StepsTied image (Ok (Stopped c)) m = c.steps ≡ count traced_mark (take (length image) m)
StepsTied image (Err e) m = Unit {0}

-- of the inner function that runs once the sizes are judged
pub record RanTo (mode : Mode) (image marks order entries pins : List ℕ) (limit : ℕ) (r : Result Ran RunError) (m' o' : List ℕ) : Type 0 where
  pub answer_is : ran_of r ≡ ran_answer image (outcome_of mode image marks entries pins limit)
  pub marks_are : m' ≡ (outcome_of mode image marks entries pins limit).marks
  pub order_is : o' ≡ ordered (outcome_of mode image marks entries pins limit) order
  pub tied : StepsTied image r m'
