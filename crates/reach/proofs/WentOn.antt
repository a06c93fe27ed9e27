-- What a run from a queue comes to, turn by turn. Assumes nothing.
use Prim.Native.Nat.{ℕ, zero, suc, ◌<◌, ◌≤◌}
use native.Mathlib.Omega.{arith}
use mathlib.Core.Bool.{true, false}
use mathlib.Core.Path.{◌≡◌, refl}
use mathlib.Core.Logic.{◌⊎◌, inl, inr}
use mathlib.Core.List.Memᴰ
use mathlib.Core.List.{List, [], ◌∷◌, ◌++◌}
use lib.ListN.{length, length-append}
use Rattle.reach.specs.Tracer.{Tracer, took, found}
use Rattle.reach.specs.Takes.{up}
use Rattle.reach.specs.Run.{run_from}
use Rattle.reach.proofs.Cases.{yes_or_no}
use Rattle.reach.proofs.Took.{length_took}
use Rattle.reach.proofs.Found.{touched_took}
use Rattle.reach.proofs.RunLaws.{run_on}
use Rattle.reach.proofs.Line.{Line}
use Rattle.reach.proofs.LineNext.{line_next}
use Rattle.reach.proofs.Went.{Went, went_finished, went_stopped, went_cut}

-- a step
went_on : (G : Tracer) (m : List ℕ) (p : ℕ) (queue : List ℕ) → Line G m (p ∷ queue) → (limit : ℕ) → G.size ≤ length m
    → G.fits p ≡ true
    → Went limit G (queue ++ found G m p) (took G m p) (run_from limit G (queue ++ found G m p) (took G m p))
    → Went (suc limit) G (p ∷ queue) m (run_from (suc limit) G (p ∷ queue) m)
went_on G m p queue L limit l f W =
    let h : p < G.size = L.inside p (Memᴰ.head refl) in
    let w = L.waits p (Memᴰ.head refl) in
    let a = length-append queue (found G m p) in
    rw (run_on G p queue m limit f) (record {
      takes = up (record { inside = h; waits = w; whole = f }) W.takes;
      line = W.line;
      in_limit = omega (arith, W.in_limit);
      over = W.over;
      short = λ e. (omega (arith, (W.short e).0), (W.short e).1);
      broken = W.broken;
      sum = omega (arith, W.sum, a, touched_took G m p l h (λ z. omega arith));
    })

pub went : (limit : ℕ) (G : Tracer) (queue m : List ℕ) → G.size ≤ length m → Line G m queue → Went limit G queue m (run_from limit G queue m)
went zero G [] m l L = went_finished G m 0 L
went zero G (p ∷ queue) m l L = went_stopped G m p queue L
went (suc limit) G [] m l L = went_finished G m (suc limit) L
went (suc limit) G (p ∷ queue) m l L =
    by (yes_or_no (G.fits p)) (went limit G (queue ++ found G m p) (took G m p) (omega (arith, length_took G m p)) (line_next G m p queue l L))
  where
    by : (G.fits p ≡ true) ⊎ (G.fits p ≡ false)
        → Went limit G (queue ++ found G m p) (took G m p) (run_from limit G (queue ++ found G m p) (took G m p))
        → Went (suc limit) G (p ∷ queue) m (run_from (suc limit) G (p ∷ queue) m)
    by (inl f) W = went_on G m p queue L limit l f W
    by (inr f) W = went_cut G m p queue L limit f
