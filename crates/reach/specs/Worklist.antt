-- The Rust's worklist (document 01, "Marks and steps"), over a tracer: `build_instruction_graph` of source document 001, by the Rust's names.
-- Unlike a run it takes a position up again for every repeat, and judges its targets anew by what is traced by then. Assumes nothing.
use Rattle.std.specs.Prelude.{ℕ, zero, suc, ◌-◌, Bool, cond, ◌&&◌, List, [], ◌∷◌, ◌++◌, get_or, set, replicate, ltb, eqb}
use Rattle.reach.specs.HowMany.{is_among}
use Rattle.reach.specs.Mark.{untouched, traced, traced_mark}
use Rattle.reach.specs.Run.{End, finished, stopped, cut_off}
use Rattle.reach.specs.Tracer.{Tracer}

-- `InstructionGraph`: `instrs` as a table with mark 2 where it has an instruction, and where `jump_to` leads from a position; `jump_from` has
-- the same jumps by where they lead
pub record Graph : Type 0 where
  pub instrs : List ℕ
  pub jump_to : ℕ → List ℕ

-- `InstructionGraph::new`
abbrev pub new_graph : Tracer → Graph
new_graph G = record { instrs = replicate G.size untouched; jump_to = λ p. [] }

-- `contains_instr`
abbrev pub contains_instr : Graph → ℕ → Bool
contains_instr g p = traced_mark (get_or g.instrs p 0)

-- `instr_arrived_from`: p was arrived at from q
abbrev pub arrived_from : Graph → ℕ → ℕ → Bool
arrived_from g p q = is_among p (g.jump_to q)

-- `targets`: none under the exception, for which the Rust asks, beside the instruction at p - 2, whether p was arrived at from there
unfoldable pub targets_by : Tracer → Graph → ℕ → List ℕ
targets_by G g p = cond (G.exempt g.instrs p && arrived_from g p (p - 2)) [] (G.ways p)

-- the graph after a visit to p: `jump_to` for each target, then `instr`
unfoldable pub visited : Tracer → Graph → ℕ → Graph
visited G g p = record {
  instrs = set g.instrs p traced;
  jump_to = λ q. cond (eqb q p) (g.jump_to q ++ targets_by G g p) (g.jump_to q);
}

-- those of ts that the graph does not contain
unfoldable pub uncontained : Graph → List ℕ → List ℕ
uncontained g [] = []
uncontained g (t ∷ ts) = cond (contains_instr g t) (uncontained g ts) (t ∷ uncontained g ts)

-- what a visit to p pushes: its targets, also outside the image and also twice, that the graph does not contain, p being in it by then
unfoldable pub pushed : Tracer → Graph → ℕ → List ℕ
pushed G g p = uncontained (visited G g p) (targets_by G g p)

-- what the worklist comes to: `finished` with `Ok`, `cutOff p` with `NoInstruction` at p, `stopped` where more rounds were needed than asked
-- for; the positions visited, each as often as it was; and the graph by then
pub record Built : Type 0 where
  pub end : End
  pub visits : List ℕ
  pub graph : Graph

-- a worklist that ends here
abbrev pub ending : End → Graph → Built
ending e g = record { end = e; visits = []; graph = g }

-- one that visited p first
abbrev pub visiting : ℕ → Built → Built
visiting p b = record { end = b.end; visits = p ∷ b.visits; graph = b.graph }

-- One round, `for pos in locs`: one outside the image is passed over, one that does not decode ends it all, any other is visited, and what it
-- pushes is put at the end of `positions`. Then comes `next`
unfoldable pub round : Tracer → List ℕ → List ℕ → Graph → (List ℕ → Graph → Built) → Built
round G [] positions g next = next positions g
round G (pos ∷ locs) positions g next =
    let visit = visiting pos (round G locs (positions ++ pushed G g pos) (visited G g pos) next) in
    let pass = round G locs positions g next in
    cond (ltb pos G.size) (cond (G.fits pos) visit (ending (cut_off pos) g)) pass

-- `while !positions.is_empty()`, at most so many rounds: `locs` takes all of `positions`, which a round fills anew
unfoldable pub rounds : ℕ → Tracer → List ℕ → Graph → Built
rounds zero G [] g = ending finished g
rounds zero G (p ∷ positions) g = ending stopped g
rounds (suc most) G [] g = ending finished g
rounds (suc most) G (p ∷ positions) g = round G (p ∷ positions) [] g (rounds most G)

-- `build_instruction_graph`
unfoldable pub worklist : ℕ → Tracer → List ℕ → Built
worklist most G entries = rounds most G entries (new_graph G)
