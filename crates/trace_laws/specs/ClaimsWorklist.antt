-- The original's worklist over images, beside a run. Document 01, 'Marks and steps': 'This equals the Rust's worklist, where repeats change no
-- first visit.' Stated over the very definitions that the contract of run cites, in unwrapped mode and without pins, as the original is.
-- Proved in proofs/ClaimsWorklistRuns.antt and proofs/ClaimsWorklistComputed.antt. Assumes nothing.
use Rattle.std.specs.Prelude.{ℕ, ◌+◌, ◌<◌, ◌≤◌, true, ◌↔◌, ◌≢◌, ◌≡◌, length, get_or, take}
use mathlib.Core.List.{List, [], ◌∷◌, Memᴰ as Among}
use Rattle.instruction.specs.Answer.{Answer, refused}
use Rattle.instruction.specs.Bytes.{Bytes}
use Rattle.instruction.specs.CutOff.{cut_values}
use Rattle.instruction.specs.Decode.{cut_at}
use Rattle.instruction.specs.Forms.{form_named}
use Rattle.instruction.specs.declared.mode.Mode.TheVariants.{Unwrapped}
use Rattle.targets.specs.At.{form_here}
use Rattle.reach.specs.ClaimsWorklist.{firsts}
use Rattle.reach.specs.Mark.{flash, IsTraced}
use Rattle.reach.specs.Run.{finished, stopped, cut_off}
use Rattle.reach.specs.Tracer.{held}
use Rattle.reach.specs.Worklist.{Built, contains_instr, worklist}
use Rattle.marks.specs.Tracer.{tracer_of}
use Rattle.trace.specs.Run.{RunResult, run_accepted, run_answer, run_marks, run_order}
use Rattle.trace_laws.specs.ClaimsBetweenSamples.{flash_to}

-- `build_instruction_graph` of these entries and this image, in at most so many rounds
abbrev pub original : ℕ → List ℕ → List ℕ → Built
original most entries image = worklist most (tracer_of Unwrapped image) entries

-- its first visits, in their order
abbrev pub first_visits : Built → List ℕ
first_visits b = firsts [] b.visits

-- What the original builds, beside what a run answers, its marks m and its order list o. `Ok`: the run finishes, with a step for each first visit
-- and nothing noted besides; `NoInstruction` at p: the run is refused by 5 there. The order list begins with the first visits. The graph contains
-- the traced positions, and its jumps lead from each to the targets that it had when it was taken up. A Jmpf from which no jump leads
-- was not followed at its first visit: it has mark 3
pub record AsOriginal (image : List ℕ) (b : Built) (r : Answer RunResult) (m o : List ℕ) : Type 0 where
  pub ok : b.end ≡ finished → r ≡ run_accepted true (length (first_visits b)) (length (first_visits b))
  pub error : (p : ℕ) → b.end ≡ cut_off p → r ≡ refused 5 (cut_values (cut_at image p))
  pub order : take (length (first_visits b)) o ≡ first_visits b
  pub traced : (q : ℕ) → q < length image → (contains_instr b.graph q ≡ true) ↔ IsTraced (get_or m q 0)
  pub jumps : (p q : ℕ) → Among q (b.graph.jump_to p) ↔ (Among p (first_visits b) × Among q (held (tracer_of Unwrapped image) m p))
  pub not_followed : (p : ℕ) → Among p b.visits → form_here image p ≡ form_named "Jmpf"
      → (get_or m p 0 ≡ flash) ↔ ((q : ℕ) → Among q (b.graph.jump_to p) → ⊥)

-- where the original ends within these rounds, so does a run with a limit of at least the image length, the image and what is lent being of
-- sizes that it does not refuse
abbrev pub ImageWorklist : Type 0
ImageWorklist =
    (most limit : ℕ) (image marks order entries : List ℕ) → Bytes image → length image ≤ 65536 → length image ≤ length marks
    → length image ≤ length order → length image ≤ limit → (original most entries image).end ≢ stopped
    → AsOriginal image (original most entries image) (run_answer Unwrapped image marks order entries [] limit)
    (run_marks Unwrapped image marks order entries [] limit) (run_order Unwrapped image marks order entries [] limit)

-- and it always ends: within two rounds more than the image has bytes, however often each position is visited
abbrev pub ImageWorklistEnds : Type 0
ImageWorklistEnds =
    (most : ℕ) (image entries : List ℕ) → Bytes image → length image + 2 ≤ most → (original most entries image).end ≢ stopped

-- three branches to their own next position, and a Ret
abbrev pub doubling : List ℕ
doubling = 0x80 ∷ 0x00 ∷ 0x80 ∷ 0x00 ∷ 0x80 ∷ 0x00 ∷ 0xA0 ∷ []

-- Computed: each such branch doubles the visits of all that follows, and the first visits are four. Of B8 0D 21 00 00 with entries 2, 0, 2 the Jmpf
-- is followed at its first visit and no more at its second; the jump from it stays, and what it pushed is visited again
pub record WorklistSamples : Type 0 where
  pub doubled : length (original 9 (0 ∷ []) doubling).visits ≡ 15
  pub once_each : first_visits (original 9 (0 ∷ []) doubling) ≡ 0 ∷ 2 ∷ 4 ∷ 6 ∷ []
  pub visited_again : (original 7 (2 ∷ 0 ∷ 2 ∷ []) (flash_to 0)).visits ≡ 2 ∷ 0 ∷ 2 ∷ 0 ∷ []
  pub jump_stays : (original 7 (2 ∷ 0 ∷ 2 ∷ []) (flash_to 0)).graph.jump_to 2 ≡ 0 ∷ []
