-- Laws of the worklist: the turns of a round, and the rounds. Assumes nothing.
use Prim.Native.Nat.{ℕ, zero, suc, ◌<◌, ◌≤◌}
use mathlib.Core.Bool.{Bool, true, false, cond}
use mathlib.Core.Path.{◌≡◌, refl, ap}
use mathlib.Core.List.{List, [], ◌∷◌, ◌++◌}
use borrow.Author.Tests.{lt-ltb, le-ltb}
use Rattle.reach.specs.HowMany.{is_among}
use Rattle.reach.specs.Run.{finished, stopped, cut_off}
use Rattle.reach.specs.Tracer.{Tracer}
use Rattle.reach.specs.ClaimsWorklist.{firsts}
use Rattle.reach.specs.Worklist.{Graph, Built, visited, pushed, ending, visiting, round, rounds}

module _ (G : Tracer) (positions : List ℕ) (g : Graph) (next : List ℕ → Graph → Built) where
  pub round_over : round G [] positions g next ≡ next positions g
  unfolding round
  round_over = refl

  module _ (p : ℕ) (locs : List ℕ) where
    -- outside the image
    pub round_pass : G.size ≤ p → round G (p ∷ locs) positions g next ≡ round G locs positions g next
    unfolding round
    round_pass h = rw (le-ltb p G.size h)

    -- not decoded
    pub round_cut : p < G.size → G.fits p ≡ false → round G (p ∷ locs) positions g next ≡ ending (cut_off p) g
    unfolding round
    round_cut h f = rw (lt-ltb p G.size h, f)

    -- a visit
    pub round_visit : p < G.size → G.fits p ≡ true
        → round G (p ∷ locs) positions g next ≡ visiting p (round G locs (positions ++ pushed G g p) (visited G g p) next)
    unfolding round
    round_visit h f = rw (lt-ltb p G.size h, f)

module _ (G : Tracer) (g : Graph) where
  pub rounds_over : (most : ℕ) → rounds most G [] g ≡ ending finished g
  unfolding rounds
  rounds_over zero = refl
  rounds_over (suc most) = refl

  module _ (p : ℕ) (positions : List ℕ) where
    pub rounds_short : rounds 0 G (p ∷ positions) g ≡ ending stopped g
    unfolding rounds
    rounds_short = refl

    pub rounds_on : (most : ℕ) → rounds (suc most) G (p ∷ positions) g ≡ round G (p ∷ positions) [] g (rounds most G)
    unfolding rounds
    rounds_on most = refl

-- the first visits
module _ (seen : List ℕ) (p : ℕ) (ps : List ℕ) where
  pub firsts_again : is_among p seen ≡ true → firsts seen (p ∷ ps) ≡ firsts seen ps
  unfolding firsts
  firsts_again e = ap (λ (b : Bool). cond b (firsts seen ps) (p ∷ firsts (p ∷ seen) ps)) e

  pub firsts_new : is_among p seen ≡ false → firsts seen (p ∷ ps) ≡ p ∷ firsts (p ∷ seen) ps
  unfolding firsts
  firsts_new e = ap (λ (b : Bool). cond b (firsts seen ps) (p ∷ firsts (p ∷ seen) ps)) e

pub firsts_none : (seen : List ℕ) → firsts seen [] ≡ []
unfolding firsts
firsts_none seen = refl
