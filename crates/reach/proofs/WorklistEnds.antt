-- The worklist ends: each round takes the run a step further, until it has nothing left; then two rounds are enough. Assumes nothing.
use Prim.Native.Nat.{ℕ, zero, suc, ◌+◌, ◌<◌, ◌≤◌}
use native.Mathlib.Omega.{arith}
use mathlib.Core.Path.{◌≡◌, refl, ap}
use mathlib.Core.Logic.{◌⊎◌, inl, inr, ◌≢◌}
use mathlib.Core.List.{List, [], ◌∷◌, ◌++◌, append-nil}
use lib.ListN.{length, replicate, length-replicate}
use Rattle.reach.specs.Mark.{untouched, cleared}
use Rattle.reach.specs.Note.{note, fresh}
use Rattle.reach.specs.Run.{stopped, steps, run_of}
use Rattle.reach.specs.Tracer.{Tracer}
use Rattle.reach.specs.ClaimsWorklist.{ByTraced, WorklistEnds}
use Rattle.reach.specs.Worklist.{Graph, Built, new_graph, round, rounds, worklist}
use Rattle.reach.proofs.Order.{cleared_base}
use Rattle.reach.proofs.RoundTurn.{beside}
use Rattle.reach.proofs.Run.{run_takes, run_ending}
use Rattle.reach.proofs.Abreast.{Abreast}
use Rattle.reach.proofs.Worklist.{start_abreast, start_run}
use Rattle.reach.proofs.WorklistLaws.{rounds_over, rounds_on}
use Rattle.reach.proofs.RoundIdle.{Ends, finishes, idle_ends}
use Rattle.reach.proofs.RoundGoing.{Under, Yet, going_round}

module _ (G : Tracer) (T : ByTraced G) where
  nothing_or_some : (l : List ℕ) → (l ≡ []) ⊎ (l ≢ [])
  nothing_or_some [] = inl refl
  nothing_or_some (p ∷ l) = inr (λ e. omega (arith, ap length e))

  rounds_under : (most k : ℕ) → k < most → (positions : List ℕ) (g : Graph) → Under G T k positions g (rounds most G positions g)
  rounds_under most zero h positions g = λ seen m limit S enough y. absurd (omega arith)
  rounds_under zero (suc k) h positions g = absurd (omega arith)
  rounds_under (suc zero) (suc k) h positions g = absurd (omega arith)
  rounds_under (suc (suc most)) (suc k) h [] g = λ seen m limit S enough y. finishes (ap (λ (b : Built). b.end) (rounds_over G g (suc (suc most))))
  rounds_under (suc (suc most)) (suc k) h (p ∷ positions) g = λ seen m limit S enough y.
      by seen m limit S enough y (nothing_or_some (fresh G.size (p ∷ positions) g.instrs))
      (going_round G T (rounds (suc most) G) k (rounds_under (suc most) k (omega arith)) (p ∷ positions) [] g seen m limit)
    where
      n : (p ∷ positions) ++ [] ≡ p ∷ positions
      n = append-nil (p ∷ positions)

      by : (seen m : List ℕ) (limit : ℕ) → Abreast G seen (p ∷ positions) g m → (beside G limit (p ∷ positions) g m).end ≢ stopped
          → steps (beside G limit (p ∷ positions) g m) < suc k
          → (fresh G.size (p ∷ positions) g.instrs ≡ []) ⊎ (fresh G.size (p ∷ positions) g.instrs ≢ [])
          → (Abreast G seen ((p ∷ positions) ++ []) g m → (beside G limit ((p ∷ positions) ++ []) g m).end ≢ stopped
          → Yet G T k (p ∷ positions) g (beside G limit ((p ∷ positions) ++ []) g m) → Ends (round G (p ∷ positions) [] g (rounds (suc most) G)))
          → Ends (rounds (suc (suc most)) G (p ∷ positions) g)
      by seen m limit S enough y (inl e) on = idle_ends G T most (p ∷ positions) g seen m S e
      by seen m limit S enough y (inr ne) on =
          let z : steps (beside G limit (p ∷ positions) g m) ≤ k = omega arith in
          rw (rounds_on G g p positions (suc most)) (on (rw n S) (rw n enough) (inr (rw n z, ne)))

pub worklist_ends : WorklistEnds
unfolding worklist
worklist_ends most G T entries h =
    let n = G.size in
    let marks = replicate n untouched in
    let l : n ≤ length marks = omega (arith, length-replicate {A = ℕ} n untouched) in
    let e = start_run G entries marks l n in
    let B = cleared_base G marks l in
    let enough = (run_ending n G entries (cleared n marks) B).enough (omega arith) in
    let few : steps (run_of n G entries (cleared n marks)) ≤ n = (run_takes n G entries (cleared n marks) B).in_image in
    rounds_under G T most (suc n) (omega arith) entries (new_graph G) [] (note n entries (cleared n marks)) n (start_abreast G entries marks l)
    (rw e at enough) (rw e at (let z : steps (run_of n G entries (cleared n marks)) < suc n = omega arith in z))
