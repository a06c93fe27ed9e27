-- What a step answers and leaves. Document 01, 'Marks and steps' and the order of refusals: 1, 2, 4, 6 at p, 5, 6 at p - 2 (read only for
-- a Jmpf with B8 0D before it), 6 at the targets in their order. In a step, damage is a byte over 4 (document 02, W8) that it reads.
-- Assumes nothing.
use Rattle.std.specs.Prelude.{ℕ, ◌-◌, Bool, not, ◌&&◌, ◌||◌, List, [], ◌∷◌, ◌++◌, ltb, leb, eqb, pos, length, get_or, Result, Ok, Err}
use Rattle.instruction.specs.Answer.{Answer, accepted, refused, Refusal, refuse, judge, after}
use Rattle.instruction.specs.CutOff.{cut_values}
use Rattle.instruction.specs.Decode.{cut_at}
use Rattle.instruction.specs.declared.mode.Mode.{Mode}
use Rattle.reach.specs.Pins.{pinned}
use Rattle.reach.specs.Tracer.{Tracer, targets, mark, took, found}
use Rattle.marks.specs.Refusals.{size_refusals, size_refused, damaged}
use Rattle.marks.specs.Tracer.{tracer_of}
use Rattle.targets.specs.At.{fits_here, flash_here}
use Rattle.targets.specs.declared.not_whole.NotWhole.{NotWhole}
use Rattle.targets.specs.declared.not_whole.NotWhole.TheVariants as cause
use Rattle.trace.specs.declared.step.Advance.{Advance}
use Rattle.trace.specs.declared.step.StepError.{StepError}
use Rattle.trace.specs.declared.step.StepError.TheVariants.{Size, NotWaiting, Cut, Damaged}

-- 4: position not inside, with 0, or mark 0, 2, 3, with it; document 02, W8: or pinned
abbrev pub idle : ℕ → Bool
idle v = eqb v 0 || (eqb v 2 || (eqb v 3 || eqb v pinned))

-- 6 at each of the positions ts that is inside, in their order
unfoldable pub damages : ℕ → List ℕ → List ℕ → List Refusal
damages n m [] = []
damages n m (t ∷ ts) = refuse (ltb t n && damaged (get_or m t 0)) 6 (pos t ∷ []) ∷ damages n m ts

-- 6 at p - 2, read only for a Jmpf with B8 0D before it; 6 at the targets ts in their order
unfoldable pub damage_refusals : List ℕ → List ℕ → ℕ → List ℕ → List Refusal
damage_refusals image m p ts =
    refuse (flash_here image p && damaged (get_or m (p - 2) 0)) 6 (pos (p - 2) ∷ []) ∷ damages (length image) m ts

unfoldable pub step_refusals : Mode → List ℕ → List ℕ → ℕ → List Refusal
step_refusals mode image m p =
    size_refusals image m
    ++ (refuse (leb (length image) p) 4 (pos 0 ∷ [])
    ∷ refuse (idle (get_or m p 0)) 4 (pos (get_or m p 0) ∷ [])
    ∷ refuse (damaged (get_or m p 0)) 6 (pos p ∷ [])
    ∷ refuse (not (fits_here image p)) 5 (cut_values (cut_at image p))
    ∷ damage_refusals image m p (targets (tracer_of mode image) m p))

-- the new mark, and how many became 1
pub record StepResult : Type 0 where
  pub mark : ℕ
  pub waiting : ℕ

-- of the inner search for damage
abbrev pub damage_of : Result (Unit {0}) ℕ → Answer (Unit {0})
damage_of (Ok u) = accepted u
damage_of (Err q) = refused 6 (pos q ∷ [])

abbrev pub stepped_of : Result Advance StepError → Answer StepResult
stepped_of (Ok s) = accepted (record { mark = s.mark; waiting = s.waiting })
stepped_of (Err (Size e)) = size_refused e
stepped_of (Err (NotWaiting v)) = refused 4 (pos v ∷ [])
stepped_of (Err (Cut c)) = refused 5 (cut_values c)
stepped_of (Err (Damaged q)) = refused 6 (pos q ∷ [])

-- of an instruction that is not whole: cut off, or not inside
abbrev pub not_stepped : NotWhole → StepError
not_stepped (cause.Cut c) = Cut c
not_stepped cause.Outside = NotWaiting 0

-- by a tracer
abbrev pub step_result : Tracer → List ℕ → ℕ → StepResult
step_result G m p = record { mark = mark G m p; waiting = length (found G m p) }

unfoldable pub step_answer : Mode → List ℕ → List ℕ → ℕ → Answer StepResult
step_answer mode image m p = judge (step_refusals mode image m p) (step_result (tracer_of mode image) m p)

-- the position taken up; a refused step changes nothing
unfoldable pub step_marks : Mode → List ℕ → List ℕ → ℕ → List ℕ
step_marks mode image m p = after (step_answer mode image m p) (took (tracer_of mode image) m p) m

-- of the inner function that steps at a waiting position whose instruction is whole, by the tracer that has its targets
abbrev pub whole_answer : Tracer → List ℕ → List ℕ → ℕ → Answer StepResult
whole_answer G image m p = judge (damage_refusals image m p (targets G m p)) (step_result G m p)

abbrev pub whole_marks : Tracer → List ℕ → List ℕ → ℕ → List ℕ
whole_marks G image m p = after (whole_answer G image m p) (took G m p) m
