-- What a replay answers. Document 02, W10 and W11: the lines, interrupts and free moves; 1, 2, 6 and 11 before the first line, then 18 to 21
-- with the line's number, from 1.
-- Assumes nothing.
use Rattle.std.specs.Prelude.{ℕ, min, cond, not, ◌&&◌, Result, Ok, Err, List, [], ◌∷◌, ◌++◌, eqb, ltb, pos, length}
use Rattle.instruction.specs.Answer.{Answer, accepted, refused, Refusal, refuse, judge}
use Rattle.views.specs.View.{view_refusals, view_refused}
use Rattle.replay.specs.Log.{highest, one_more}
use Rattle.replay.specs.declared.log.Log.{Log}
use Rattle.replay.specs.declared.answer.Totals.{Totals}
use Rattle.replay.specs.declared.answer.ReplayError.{ReplayError}
use Rattle.replay.specs.declared.answer.ReplayError.TheVariants.{View, Malformed, Untraced, Forbidden, Full}

abbrev pub replay_refused : {A : Type 0} → ReplayError → Answer A
replay_refused (View e) = view_refused e
replay_refused (Malformed n) = refused 18 (pos n ∷ [])
replay_refused (Untraced n) = refused 19 (pos n ∷ [])
replay_refused (Forbidden n) = refused 20 (pos n ∷ [])
replay_refused (Full n) = refused 21 (pos n ∷ [])

abbrev pub replayed_of : Result Totals ReplayError → Answer Totals
replayed_of (Ok t) = accepted t
replayed_of (Err e) = replay_refused e

abbrev pub no_totals : Totals
no_totals = record { lines = 0; interrupts = 0; free = 0 }

-- 1, 2 and 6 as in a view; 11: counts shorter than the image, with its length
abbrev pub lent_refusals : List ℕ → List ℕ → List ℕ → List Refusal
lent_refusals image m counts =
    view_refusals image m ++ refuse (ltb (length counts) (length image)) 11 (pos (length image) ∷ []) ∷ []

unfoldable pub lent_answer : List ℕ → List ℕ → List ℕ → Answer Totals
lent_answer image m counts = judge (lent_refusals image m counts) no_totals

-- a refusal of these first, or else the answer
abbrev pub or_else : Answer Totals → Answer Totals → Answer Totals
or_else (accepted t) a = a
or_else (refused n vs) a = refused n vs

-- the number of a refusal that a record holds; a record that no call made may hold any, and all but these are 18
abbrev pub number_held : ℕ → ℕ
number_held n = cond (eqb n 19) 19 (cond (eqb n 20) 20 (cond (eqb n 21) 21 18))

-- the totals; a record that no call made may hold more than the highest
abbrev pub totals_of : Log → Totals
totals_of l = record { lines = min l.lines highest; interrupts = min l.interrupts highest; free = min l.free highest }

-- the refusal that is held, of the line after those taken, or else the totals
unfoldable pub told_of : Log → Answer Totals
told_of l =
    cond (eqb l.refusal 0) (accepted (totals_of l))
    (refused (number_held l.refusal) (pos (one_more l.lines) ∷ []))

-- at the end of the log, where a partial line is malformed
unfoldable pub closed_of : Log → Answer Totals
closed_of l = cond (eqb l.refusal 0 && not (eqb l.held 0)) (refused 18 (pos (one_more l.lines) ∷ [])) (told_of l)
