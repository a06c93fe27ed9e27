-- Laws of a run: its turns, and what is left of it once some positions are taken up. Assumes nothing.
use Prim.Native.Nat.{ℕ, zero, suc}
use mathlib.Core.Bool.{Bool, true, false, cond}
use mathlib.Core.Path.{◌≡◌, refl, sym, ap, ◌∙◌}
use mathlib.Core.List.{List, [], ◌∷◌, ◌++◌}
use lib.Seq.{append_snoc}
use Rattle.reach.specs.Tracer.{Tracer, took, found}
use Rattle.reach.specs.Run.{finished, stopped, cut_off, Outcome, halt, taking_first, run_from}

module _ (G : Tracer) where
  -- nothing waiting
  pub run_finished : (limit : ℕ) (m : List ℕ) → run_from limit G [] m ≡ halt finished [] m
  unfolding run_from
  run_finished zero m = refl
  run_finished (suc limit) m = refl

  module _ (p : ℕ) (queue m : List ℕ) where
    -- limit used up
    pub run_stopped : run_from 0 G (p ∷ queue) m ≡ halt stopped (p ∷ queue) m
    unfolding run_from
    run_stopped = refl

    -- instruction cut off
    pub run_cut : (limit : ℕ) → G.fits p ≡ false → run_from (suc limit) G (p ∷ queue) m ≡ halt (cut_off p) (p ∷ queue) m
    unfolding run_from
    run_cut limit f = rw f

    -- a step
    pub run_on : (limit : ℕ) → G.fits p ≡ true
        → run_from (suc limit) G (p ∷ queue) m ≡ taking_first p (run_from limit G (queue ++ found G m p) (took G m p))
    unfolding run_from
    run_on limit f =
        ap (λ (b : Bool). cond b (taking_first p (run_from limit G (queue ++ found G m p) (took G m p))) (halt (cut_off p) (p ∷ queue) m)) f

-- the outcome of a run that took `before` up and then came to `out`
abbrev pub after : List ℕ → Outcome → Outcome
after before out = record { end = out.end; taken = before ++ out.taken; left = out.left; marks = out.marks }

pub after_having : (before : List ℕ) (p : ℕ) (out : Outcome) → after before (taking_first p out) ≡ after (before ++ (p ∷ [])) out
after_having before p out =
    ap (λ (l : List ℕ). record { end = out.end; taken = l; left = out.left; marks = out.marks }) (sym (append_snoc before p out.taken))

-- what is left of a run after `before`, before and after a step
pub run_turn : (G : Tracer) (before : List ℕ) (p : ℕ) (queue m : List ℕ) (limit : ℕ) → G.fits p ≡ true
    → after before (run_from (suc limit) G (p ∷ queue) m) ≡ after (before ++ (p ∷ [])) (run_from limit G (queue ++ found G m p) (took G m p))
run_turn G before p queue m limit f =
    ap (after before) (run_on G p queue m limit f) ∙ after_having before p (run_from limit G (queue ++ found G m p) (took G m p))
