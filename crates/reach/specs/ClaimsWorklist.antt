-- Claims: "This equals the Rust's worklist, where repeats change no first visit" (document 01, "Marks and steps").
-- Proved in proofs/Worklist.antt and proofs/WorklistEnds.antt. Assumes nothing.
use Rattle.std.specs.Prelude.{ℕ, ◌+◌, ◌-◌, ◌<◌, ◌≤◌, true, false, cond, ◌≡◌, ◌↔◌, ◌≢◌, length, get_or}
use mathlib.Core.List.{List, [], ◌∷◌, Memᴰ as Among}
use Rattle.reach.specs.HowMany.{is_among}
use Rattle.reach.specs.Mark.{flash, IsTraced, cleared}
use Rattle.reach.specs.Tracer.{Tracer, held}
use Rattle.reach.specs.Run.{stopped, Outcome, run_of}
use Rattle.reach.specs.Worklist.{contains_instr, Built, worklist}

-- what is traced inside by the marks m is so by m'
abbrev pub TracedToo : Tracer → List ℕ → List ℕ → Type 0
TracedToo G m m' = (q : ℕ) → q < G.size → IsTraced (get_or m q 0) → IsTraced (get_or m' q 0)

-- The exception goes by what is traced inside: where more is, it still holds. It holds at p only where p - 2 is traced, has p for a target and
-- never is under the exception itself
pub record ByTraced (G : Tracer) : Type 0 where
  pub still : (m m' : List ℕ) (p : ℕ) → p < G.size → TracedToo G m m' → G.exempt m p ≡ true → G.exempt m' p ≡ true
  pub before : (m : List ℕ) (p : ℕ) → p < G.size → G.exempt m p ≡ true → IsTraced (get_or m (p - 2) 0) × Among p (G.ways (p - 2))
  pub never : (m m' : List ℕ) (p : ℕ) → G.exempt m p ≡ true → G.exempt m' (p - 2) ≡ false

-- the first visits: those not seen before, in their order
unfoldable pub firsts : List ℕ → List ℕ → List ℕ
firsts seen [] = []
firsts seen (p ∷ ps) = cond (is_among p seen) (firsts seen ps) (p ∷ firsts (p ∷ seen) ps)

-- The worklist b comes out as the run: it ends as the run does; its first visits, in their order, are what the run took up; the graph contains
-- the traced positions; a jump leads from each one taken up to the targets that it had then, so that one that has targets and has
-- no jump is one under the exception
pub record AsRun (G : Tracer) (b : Built) (out : Outcome) : Type 0 where
  pub same_end : b.end ≡ out.end
  pub first_visits_lem : firsts [] b.visits ≡ out.taken
  pub same_traced : (q : ℕ) → q < G.size → (contains_instr b.graph q ≡ true) ↔ IsTraced (get_or out.marks q 0)
  pub same_jumps : (p q : ℕ) → Among q (b.graph.jump_to p) ↔ (Among p out.taken × Among q (held G out.marks p))
  pub not_followed : (p t : ℕ) → Among p b.visits → Among t (G.ways p)
      → (get_or out.marks p 0 ≡ flash) ↔ ((q : ℕ) → Among q (b.graph.jump_to p) → ⊥)

-- where it ends within these rounds, it does so, beside a run over cleared marks with a limit of the image's length or more
abbrev pub WorklistRuns : Type 0
WorklistRuns =
    (most limit : ℕ) (G : Tracer) → ByTraced G → (entries marks : List ℕ) → G.size ≤ length marks → G.size ≤ limit
    → (worklist most G entries).end ≢ stopped → AsRun G (worklist most G entries) (run_of limit G entries (cleared G.size marks))

-- and it always ends: within two rounds more than there are positions, however often each is visited
abbrev pub WorklistEnds : Type 0
WorklistEnds = (most : ℕ) (G : Tracer) → ByTraced G → (entries : List ℕ) → G.size + 2 ≤ most → (worklist most G entries).end ≢ stopped
