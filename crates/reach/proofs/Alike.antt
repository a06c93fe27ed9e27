-- Targets count only where the instruction fits: taking up, and a run. Assumes nothing.
use Prim.Native.Nat.{ℕ, zero, suc}
use mathlib.Core.Bool.{true, false, cond}
use mathlib.Core.Path.{◌≡◌, refl, sym, ap, ◌∙◌}
use mathlib.Core.Logic.{◌⊎◌, inl, inr}
use mathlib.Core.List.{List, [], ◌∷◌, ◌++◌}
use lib.ListN.{set}
use Rattle.reach.specs.Note.{note, fresh}
use Rattle.reach.specs.Tracer.{Tracer, targets, mark, took, found}
use Rattle.reach.specs.Run.{taking_first, run_from, run_of}
use Rattle.reach.specs.ClaimsAlike.{with_ways, SameWays, AlikeTakings, AlikeRuns}
use Rattle.reach.proofs.Cases.{yes_or_no}
use Rattle.reach.proofs.RunLaws.{run_cut, run_on}

pub alike_takings : AlikeTakings
unfolding targets mark took found
alike_takings G w s m p f =
    let e : cond (G.exempt m p) [] (w p) ≡ cond (G.exempt m p) [] (G.ways p) = ap (λ (ts : List ℕ). cond (G.exempt m p) [] ts) (s p f) in
    record {
      alike_targets = e;
      alike_mark = refl;
      alike_took = ap (λ (ts : List ℕ). note G.size ts (set m p (mark G m p))) e;
      alike_found = ap (λ (ts : List ℕ). fresh G.size ts (set m p (mark G m p))) e;
    }

module _ (G : Tracer) (w : ℕ → List ℕ) (s : SameWays G w) where
  -- a turn of the run
  turn : (limit p : ℕ) (queue m : List ℕ)
      → run_from limit (with_ways G w) (queue ++ found G m p) (took G m p) ≡ run_from limit G (queue ++ found G m p) (took G m p)
      → (G.fits p ≡ true) ⊎ (G.fits p ≡ false)
      → run_from (suc limit) (with_ways G w) (p ∷ queue) m ≡ run_from (suc limit) G (p ∷ queue) m
  turn limit p queue m on (inr f) = run_cut (with_ways G w) p queue m limit f ∙ sym (run_cut G p queue m limit f)
  turn limit p queue m on (inl f) =
      let A = alike_takings G w s m p f in
      let a = ap (λ (l : List ℕ). run_from limit (with_ways G w) (queue ++ l) (took (with_ways G w) m p)) A.alike_found in
      let b = ap (λ (l : List ℕ). run_from limit (with_ways G w) (queue ++ found G m p) l) A.alike_took in
      run_on (with_ways G w) p queue m limit f ∙ (ap (taking_first p) (a ∙ (b ∙ on)) ∙ sym (run_on G p queue m limit f))

  run_alike : (limit : ℕ) (queue m : List ℕ) → run_from limit (with_ways G w) queue m ≡ run_from limit G queue m
  unfolding run_from
  run_alike zero [] m = refl
  run_alike zero (p ∷ queue) m = refl
  run_alike (suc limit) [] m = refl
  run_alike (suc limit) (p ∷ queue) m =
      turn limit p queue m (run_alike limit (queue ++ found G m p) (took G m p)) (yes_or_no (G.fits p))

pub alike_runs : AlikeRuns
unfolding run_of
alike_runs limit G w s entries base = run_alike G w s limit (fresh G.size entries base) (note G.size entries base)
