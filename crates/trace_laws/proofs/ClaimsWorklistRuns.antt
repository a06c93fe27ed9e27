-- The original's worklist over images: what is claimed of every tracer whose exception goes by what is traced, said of run's contract.
-- Assumes nothing.
use Prim.Native.Nat.{ℕ, ◌≤◌}
use native.Mathlib.Omega.{arith}
use mathlib.Core.Bool.{true}
use mathlib.Core.List.{List, [], ◌++◌, append-nil}
use mathlib.Core.Logic.{◌≢◌}
use mathlib.Core.Path.{◌≡◌, sym, ap, ap₂, ◌∙◌}
use lib.ListN.{length, take, drop, length-append, take-append-drop}
use lib.Seq.{take-append-le, take-append_seam}
use Rattle.instruction.specs.Answer.{Answer, after}
use Rattle.instruction.specs.Bytes.{Bytes}
use Rattle.instruction.specs.declared.mode.Mode.TheVariants.{Unwrapped}
use Rattle.reach.specs.ClaimsWorklist.{AsRun}
use Rattle.reach.specs.Pins.{pin, table}
use Rattle.reach.specs.Run.{End, finished, stopped, cut_off, Outcome, steps, noted, ordered}
use Rattle.reach.specs.Tracer.{Tracer}
use Rattle.reach.specs.Worklist.{Built}
use Rattle.reach.proofs.Run.{run_ending}
use Rattle.reach.proofs.RunNotes.{run_ordering}
use Rattle.reach.proofs.Table.{table_base}
use Rattle.reach.proofs.Worklist.{worklist_runs}
use Rattle.reach.proofs.WorklistEnds.{worklist_ends}
use Rattle.marks.specs.Tracer.{tracer_of}
use Rattle.trace.specs.Run.{run_accepted, run_answer, run_marks, run_order, end_of, outcome_of}
use Rattle.trace_laws.specs.ClaimsWorklist as claims
use Rattle.trace_laws.proofs.ByTraced.{by_traced, jmpf_leads}
use Rattle.trace_laws.proofs.ClaimsSweepsImages.{judged, answer_is}
use Rattle.trace_laws.proofs.Finished as finish

-- a list that is written from its start on begins with the first part of what was written
begins : (a b o : List ℕ) → take (length (a ++ b)) o ≡ a ++ b → take (length a) o ≡ a
begins a b o e =
    let k = length (a ++ b) in
    ap (take (length a)) (sym (take-append-drop k o) ∙ ap (λ (l : List ℕ). l ++ drop k o) e)
    ∙ take-append-le (length a) (a ++ b) (drop k o) (omega (arith, length-append a b)) ∙ take-append_seam a b

module _ (most limit : ℕ) (image marks order entries : List ℕ) (B : Bytes image) (small : length image ≤ 65536)
    (room : length image ≤ length marks) (places : length image ≤ length order) (enough : length image ≤ limit)
    (ends : (claims.original most entries image).end ≢ stopped) where
  abbrev G : Tracer
  G = tracer_of Unwrapped image

  abbrev b : Built
  b = claims.original most entries image

  abbrev out : Outcome
  out = outcome_of Unwrapped image marks entries [] limit

  as_run : AsRun G b out
  unfolding outcome_of pin
  as_run = worklist_runs most limit G (by_traced image B) entries marks room enough ends

  marks_are : run_marks Unwrapped image marks order entries [] limit ≡ out.marks
  marks_are =
      finish.marks_left Unwrapped image marks order entries [] limit (judged Unwrapped image marks order entries [] limit small room places)

  order_is : run_order Unwrapped image marks order entries [] limit ≡ ordered out order
  unfolding run_order
  order_is =
      ap (λ (q : Answer (Unit {0})). after q (ordered out order) order) (judged Unwrapped image marks order entries [] limit small room places)

  written : take (length out.taken) (ordered out order) ≡ out.taken
  unfolding outcome_of
  written =
      begins out.taken out.left (ordered out order)
      (run_ordering limit G entries (table (length image) [] marks) order (table_base G [] marks room) places).written

  -- a finished run has noted what it took up
  all_taken : out.end ≡ finished → noted out ≡ out.taken
  unfolding outcome_of
  all_taken e =
      ap (λ (l : List ℕ). out.taken ++ l)
      ((run_ending limit G entries (table (length image) [] marks) (table_base G [] marks room)).when_finished e).1 ∙ append-nil out.taken

  answered : (e : End) → b.end ≡ e → run_answer Unwrapped image marks order entries [] limit ≡ end_of image e (steps out) (length (noted out))
  answered e f =
      answer_is Unwrapped image marks order entries [] limit small room places
      ∙ ap (λ (x : End). end_of image x (steps out) (length (noted out))) (sym as_run.same_end ∙ f)

  as_original : claims.AsOriginal image b (run_answer Unwrapped image marks order entries [] limit)
      (run_marks Unwrapped image marks order entries [] limit) (run_order Unwrapped image marks order entries [] limit)
  as_original = record {
    ok = λ e.
        answered finished e
        ∙ ap₂ (run_accepted true) (ap length (sym as_run.first_visits_lem))
        (ap length (all_taken (sym as_run.same_end ∙ e) ∙ sym as_run.first_visits_lem));
    error = λ p e. answered (cut_off p) e;
    order = rw (order_is, as_run.first_visits_lem) written;
    traced = rw marks_are as_run.same_traced;
    jumps = rw (marks_are, as_run.first_visits_lem) as_run.same_jumps;
    not_followed = λ p i e. let t = jmpf_leads image B p e in rw marks_are (as_run.not_followed p t.0 i t.1);
  }

pub image_worklist : claims.ImageWorklist
image_worklist = as_original

pub image_worklist_ends : claims.ImageWorklistEnds
image_worklist_ends most image entries B h = worklist_ends most (tracer_of Unwrapped image) (by_traced image B) entries h
