-- A round that takes the run further: fewer of the run's steps are left after it. Assumes nothing.
use Prim.Native.Nat.{ℕ, zero, suc, ◌+◌, ◌<◌, ◌≤◌}
use native.Mathlib.Omega.{arith}
use mathlib.Core.Bool.{true, false}
use mathlib.Core.Path.{◌≡◌, ap, subst, ◌∙◌}
use mathlib.Core.Logic.{◌⊎◌, inl, inr, ◌≢◌}
use mathlib.Core.List.{List, [], ◌∷◌, ◌++◌, append_assoc}
use Rattle.reach.specs.Note.{fresh}
use Rattle.reach.specs.Run.{stopped, Outcome, steps, taking_first, run_from}
use Rattle.reach.specs.Tracer.{Tracer, took}
use Rattle.reach.specs.ClaimsWorklist.{ByTraced}
use Rattle.reach.specs.Worklist.{Graph, Built, contains_instr, visited, pushed, round}
use Rattle.reach.proofs.Cases.{lt_or_le, yes_or_no}
use Rattle.reach.proofs.Note.{fresh_nil, fresh_shut}
use Rattle.reach.proofs.Open.{outside_shut}
use Rattle.reach.proofs.RoundTurn.{beside, turn_short, turn_on}
use Rattle.reach.proofs.Abreast.{Abreast}
use Rattle.reach.proofs.VisitAgain.{pass_queue, pass_abreast, again_shut, again_queue, again_abreast, again_alike}
use Rattle.reach.proofs.VisitFirst.{first_abreast}
use Rattle.reach.proofs.WorklistLaws.{round_over, round_pass, round_cut, round_visit}
use Rattle.reach.proofs.RoundIdle.{Ends, cuts}

module _ (G : Tracer) (T : ByTraced G) where
  -- what the worklist comes to with this ahead ends, wherever it stands so beside a run with enough steps, of which fewer than k are left
  abbrev pub Under : ℕ → List ℕ → Graph → Built → Type 0
  Under k ahead g b =
      (seen m : List ℕ) (limit : ℕ) → Abreast G seen ahead g m → (beside G limit ahead g m).end ≢ stopped
      → steps (beside G limit ahead g m) < k → Ends b

  -- fewer than k are left, or k are and the round has a first visit to come
  abbrev pub Yet : ℕ → List ℕ → Graph → Outcome → Type 0
  Yet k locs g out = (steps out < k) ⊎ ((steps out ≤ k) × (fresh G.size locs g.instrs ≢ []))

  -- a position passed over or visited again leaves it so
  yet_same : (k : ℕ) (p : ℕ) (locs : List ℕ) (g g' : Graph) (out out' : Outcome) → out ≡ out'
      → fresh G.size (p ∷ locs) g.instrs ≡ fresh G.size locs g'.instrs → Yet k (p ∷ locs) g out → Yet k locs g' out'
  yet_same k p locs g g' out out' o e (inl y) = inl (subst (λ (x : Outcome). steps x < k) o y)
  yet_same k p locs g g' out out' o e (inr y) = inr (subst (λ (x : Outcome). steps x ≤ k) o y.0, λ z. y.1 (e ∙ z))

  -- a first visit leaves fewer
  yet_less : (k : ℕ) (p : ℕ) (locs : List ℕ) (g : Graph) (out out' : Outcome) → out ≡ taking_first p out' → Yet k (p ∷ locs) g out → steps out' < k
  yet_less k p locs g out out' o (inl y) = omega (arith, ap steps o)
  yet_less k p locs g out out' o (inr y) = omega (arith, y.0, ap steps o)

  module _ (next : List ℕ → Graph → Built) (k : ℕ) (N : (positions : List ℕ) (g : Graph) → Under k positions g (next positions g)) where
    -- what a round comes to ends
    abbrev RoundEnds : List ℕ → List ℕ → Graph → Type 0
    RoundEnds locs positions g =
        (seen m : List ℕ) (limit : ℕ) → Abreast G seen (locs ++ positions) g m → (beside G limit (locs ++ positions) g m).end ≢ stopped
        → Yet k locs g (beside G limit (locs ++ positions) g m) → Ends (round G locs positions g next)

    over : (positions : List ℕ) (g : Graph) → RoundEnds [] positions g
    over positions g seen m limit S enough y = rw (round_over G positions g next) (N positions g seen m limit S enough (by y))
      where
        by : Yet k [] g (beside G limit positions g m) → steps (beside G limit positions g m) < k
        by (inl l) = l
        by (inr l) = absurd (l.1 (fresh_nil G.size g.instrs))

    module _ (p : ℕ) (locs positions : List ℕ) (g : Graph) where
      pass : G.size ≤ p → RoundEnds locs positions g → RoundEnds (p ∷ locs) positions g
      pass h on seen m limit S enough y =
          let shut = outside_shut G.size g.instrs p h in
          let e = pass_queue G seen p (locs ++ positions) g m S shut in
          let o = ap (λ (l : List ℕ). run_from limit G l m) e in
          rw (round_pass G positions g next p locs h)
          (on seen m limit (pass_abreast G seen p (locs ++ positions) g m S shut) (rw e at enough)
          (yet_same k p locs g g _ _ o (fresh_shut G.size g.instrs p locs shut) y))

      cut : p < G.size → G.fits p ≡ false → RoundEnds (p ∷ locs) positions g
      cut h f seen m limit S enough y = cuts {p = p} (ap (λ (b : Built). b.end) (round_cut G positions g next p locs h f))

      module _ (h : p < G.size) (f : G.fits p ≡ true) (on : RoundEnds locs (positions ++ pushed G g p) (visited G g p)) where
        again : contains_instr g p ≡ true → RoundEnds (p ∷ locs) positions g
        unfolding visited
        again c seen m limit S enough y =
            let a = append_assoc locs positions (pushed G g p) in
            let e = rw a at (again_queue G seen p (locs ++ positions) g m S T h c) in
            let o = ap (λ (l : List ℕ). run_from limit G l m) e in
            let s = fresh_shut G.size g.instrs p locs (again_shut G seen p (locs ++ positions) g m S T h c)
            ∙ (again_alike G seen p (locs ++ positions) g m S T h c locs).fresh_same in
            rw (round_visit G positions g next p locs h f)
            (on seen m limit (rw a at (again_abreast G seen p (locs ++ positions) g m S T h c)) (rw e at enough)
            (yet_same k p locs g (visited G g p) _ _ o s y))

        first : contains_instr g p ≡ false → RoundEnds (p ∷ locs) positions g
        first c seen m zero S enough y = absurd (enough (turn_short G T p (locs ++ positions) g seen m S h c))
        first c seen m (suc limit) S enough y =
            let a = append_assoc locs positions (pushed G g p) in
            let e = rw a at (turn_on G T p (locs ++ positions) g seen m S h c limit f) in
            rw (round_visit G positions g next p locs h f)
            (on (p ∷ seen) (took G m p) limit (rw a at (first_abreast G T seen p (locs ++ positions) g m S h c f)) (rw e at enough)
            (inl (yet_less k p locs g _ _ e y)))

    pub going_round : (locs positions : List ℕ) (g : Graph) → RoundEnds locs positions g
    going_round [] positions g = over positions g
    going_round (p ∷ locs) positions g =
        by (lt_or_le p G.size) (yes_or_no (G.fits p)) (yes_or_no (contains_instr g p)) (going_round locs positions g)
        (going_round locs (positions ++ pushed G g p) (visited G g p))
      where
        by : (p < G.size) ⊎ (G.size ≤ p) → (G.fits p ≡ true) ⊎ (G.fits p ≡ false) → (contains_instr g p ≡ true) ⊎ (contains_instr g p ≡ false)
            → RoundEnds locs positions g → RoundEnds locs (positions ++ pushed G g p) (visited G g p) → RoundEnds (p ∷ locs) positions g
        by (inr h) f c on push = pass p locs positions g h on
        by (inl h) (inr f) c on push = cut p locs positions g h f
        by (inl h) (inl f) (inl c) on push = again p locs positions g h f push c
        by (inl h) (inl f) (inr c) on push = first p locs positions g h f push c
