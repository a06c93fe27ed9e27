-- What taking a position up comes to, under the exception and without it.
-- Assumes nothing.
use mathlib.Core.Path.{◌≡◌, sym, ap, ◌∙◌}
use mathlib.Core.Bool.{true, false, cond}
use mathlib.Core.List.{List, []}
use Prim.Native.Nat.{ℕ}
use lib.ListN.{length, set}
use Rattle.instruction.specs.declared.mode.Mode.{Mode}
use Rattle.targets.specs.At.{ways_here}
use Rattle.targets.specs.Ways.{places_in}
use Rattle.targets.specs.declared.place.Places.{Places}
use Rattle.targets.specs.declared.place.Places.TheVariants.{Nothing}
use Rattle.reach.specs.Note.{note, fresh}
use Rattle.reach.specs.Tracer.{targets, mark, took, found}
use Rattle.reach.proofs.Exempt.{mark_plain, took_plain, found_plain, mark_exempt, took_exempt, found_exempt}
use Rattle.marks.specs.Tracer.{exempt_here, tracer_of}
use Rattle.marks.specs.Taken.{going_to, TakenUp}
use Rattle.marks.specs.declared.take.Taken.{Taken}

module _ (image ts m : List ℕ) (p : ℕ) (m' : List ℕ) where
  pub under : exempt_here image m p ≡ true → m' ≡ set m p 3 → TakenUp (going_to image ts) m p (record { mark = 3; noted = Nothing }) m'
  under e q =
      record {
        mark_is = sym (mark_exempt (going_to image ts) m p e);
        noted_are = sym (found_exempt (going_to image ts) m p e);
        marks_are = q ∙ sym (took_exempt (going_to image ts) m p e);
      }

  pub plainly : exempt_here image m p ≡ false → (ps : Places) (m₁ : List ℕ) → m₁ ≡ set m p 2 → places_in ps ≡ fresh (length image) ts m₁
      → m' ≡ note (length image) ts m₁ → TakenUp (going_to image ts) m p (record { mark = 2; noted = ps }) m'
  plainly e ps m₁ s f g =
      record {
        mark_is = sym (mark_plain (going_to image ts) m p e);
        noted_are = f ∙ ap (fresh (length image) ts) s ∙ sym (found_plain (going_to image ts) m p e);
        marks_are = g ∙ ap (note (length image) ts) s ∙ sym (took_plain (going_to image ts) m p e);
      }

-- where these are the targets of the instruction at p, it is the image's own tracer that took p up
pub by_ways : (mode : Mode) (image ts m : List ℕ) (p : ℕ) (r : Taken) (m' : List ℕ) → ts ≡ ways_here mode image p → TakenUp (going_to image ts) m p r m'
    → TakenUp (tracer_of mode image) m p r m'
unfolding mark found took targets
by_ways mode image ts m p r m' e t =
    record {
      mark_is = t.mark_is;
      noted_are = t.noted_are ∙ ap (λ (ws : List ℕ). fresh (length image) (cond (exempt_here image m p) [] ws) (set m p (mark (tracer_of mode image) m p))) e;
      marks_are = t.marks_are ∙ ap (λ (ws : List ℕ). note (length image) (cond (exempt_here image m p) [] ws) (set m p (mark (tracer_of mode image) m p))) e;
    }
