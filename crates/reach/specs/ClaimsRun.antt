-- Claims: a run is one of the orders; what it answers, notes and writes (document 01, "Marks and steps"; request W12).
-- Proved in proofs/Run.antt and proofs/RunNotes.antt. Assumes nothing.
use Rattle.std.specs.Prelude.{ℕ, ◌+◌, ◌*◌, ◌<◌, ◌≤◌, false, ◌≡◌, ◌↔◌, ◌≢◌, length, get_or, take, drop}
use mathlib.Core.List.{List, [], ◌∷◌, Memᴰ as Among}
use Rattle.reach.specs.Mark.{waiting, IsTraced, traced_mark, count}
use Rattle.reach.specs.Note.{note, fresh}
use Rattle.reach.specs.Tracer.{Tracer}
use Rattle.reach.specs.Takes.{Takes, Ended, Base, Once}
use Rattle.reach.specs.ClaimsOrder.{Plain, Final}
use Rattle.reach.specs.Run.{finished, stopped, cut_off, Outcome, steps, noted, ordered, run_of}

-- It takes positions up in one of the orders; "the count is the number of marks 2 and 3 afterwards"; at most as many as limit and length
pub record RunSteps (limit : ℕ) (G : Tracer) (entries base : List ℕ) (out : Outcome) : Type 0 where
  pub takes : Takes G (note G.size entries base) out.taken out.marks
  pub counted : count traced_mark (take G.size out.marks) ≡ steps out
  pub in_limit : steps out ≤ limit
  pub in_image : steps out ≤ G.size

-- so does every run
abbrev pub RunTakes : Type 0
RunTakes = (limit : ℕ) (G : Tracer) (entries base : List ℕ) → Base G base → RunSteps limit G entries base (run_of limit G entries base)

-- p is what a run was cut off at: the next to be taken up, inside and waiting, but its instruction is cut off
pub record CutAt (G : Tracer) (out : Outcome) (p : ℕ) : Type 0 where
  pub inside : p < G.size
  pub waits : get_or out.marks p 0 ≡ waiting
  pub cut : G.fits p ≡ false
  pub queue : List ℕ
  pub next : out.left ≡ p ∷ queue

-- Finished: none can be taken up, nothing noted is left; stopped: the limit is used up and something is left; cut off: at that position.
-- A limit of the image's length is never used up with something left
pub record RunEnds (limit : ℕ) (G : Tracer) (out : Outcome) : Type 0 where
  pub when_finished : out.end ≡ finished → Ended G out.marks × (out.left ≡ [])
  pub when_stopped : out.end ≡ stopped → (steps out ≡ limit) × (0 < length out.left)
  pub when_cut : (p : ℕ) → out.end ≡ cut_off p → CutAt G out p
  pub enough : G.size ≤ limit → out.end ≢ stopped

-- so ends every run
abbrev pub RunEnding : Type 0
RunEnding = (limit : ℕ) (G : Tracer) (entries base : List ℕ) → Base G base → RunEnds limit G (run_of limit G entries base)

-- a finished run's marks are demand 3's
abbrev pub RunFinal : Type 0
RunFinal =
    (limit : ℕ) (G : Tracer) (entries base : List ℕ) → Plain G → Base G base → (run_of limit G entries base).end ≡ finished
    → Final G base entries (run_of limit G entries base).marks

-- Each position noted stands once in the order; those taken up are the traced ones, those left are the waiting ones; there are at most as
-- many as the image is long, and, where no instruction has more than two targets, as were set by the entries and two for each step; so many
-- only where each one taken up has two
pub record RunNotes (G : Tracer) (entries base : List ℕ) (out : Outcome) : Type 0 where
  pub once : Once (noted out)
  pub taken_traced : (q : ℕ) → Among q out.taken ↔ ((q < G.size) × IsTraced (get_or out.marks q 0))
  pub left_waiting : (q : ℕ) → Among q out.left ↔ ((q < G.size) × (get_or out.marks q 0 ≡ waiting))
  pub sum : length (noted out) ≡ steps out + length out.left
  pub in_image : length (noted out) ≤ G.size
  pub in_twice : ((p : ℕ) → length (G.ways p) ≤ 2) → length (noted out) ≤ length (fresh G.size entries base) + 2 * steps out
  pub two_each : ((p : ℕ) → length (G.ways p) ≤ 2) → length (noted out) ≡ length (fresh G.size entries base) + 2 * steps out
      → (q : ℕ) → Among q out.taken → length (G.ways q) ≡ 2

-- so notes every run
abbrev pub RunNoting : Type 0
RunNoting = (limit : ℕ) (G : Tracer) (entries base : List ℕ) → Base G base → RunNotes G entries base (run_of limit G entries base)

-- "each noted once in a lent order list, whose rest stays"
pub record RunOrder (lent : List ℕ) (out : Outcome) : Type 0 where
  pub long : length (ordered out lent) ≡ length lent
  pub written : take (length (noted out)) (ordered out lent) ≡ noted out
  pub rest : drop (length (noted out)) (ordered out lent) ≡ drop (length (noted out)) lent

-- so writes every run into a list that is as long as the image
abbrev pub RunOrdering : Type 0
RunOrdering =
    (limit : ℕ) (G : Tracer) (entries base lent : List ℕ) → Base G base → G.size ≤ length lent → RunOrder lent (run_of limit G entries base)
