-- Positions written at the end of the order list are noted there.
-- Assumes nothing.
use mathlib.Core.Path.{◌≡◌, ap, ◌∙◌}
use mathlib.Core.List.{List}
use Prim.Native.Nat.{ℕ, ◌+◌, ◌≤◌}
use lib.ListN.{length}
use lib.Seq.{sets}
use Rattle.instruction.specs.declared.mode.Mode.{Mode}
use Rattle.reach.specs.Note.{note, fresh}
use Rattle.reach.specs.Queue.{Noted}
use Rattle.reach.specs.Queue as queue
use Rattle.reach.specs.Tracer.{found}
use Rattle.marks.specs.Taken.{TakenUp}
use Rattle.targets.specs.Ways.{places_in}
use Rattle.marks.specs.Tracer.{tracer_of}
use Rattle.marks.specs.declared.take.Taken.{Taken}

-- ps written into o from its end t on, which leaves o' and the end t'
abbrev pub Put : List ℕ → ℕ → List ℕ → List ℕ → ℕ → Type 0
Put o t ps o' t' = (t' ≡ t + length ps) × (o' ≡ sets o t ps)

module _ (o : List ℕ) (t : ℕ) (o' : List ℕ) (t' : ℕ) (ps : List ℕ) (P : Put o t ps o' t') where
  put_order : (qs : List ℕ) → ps ≡ qs → o' ≡ sets o t qs
  put_order qs e = P.1 ∙ ap (sets o t) e

  put_tail : (qs : List ℕ) → ps ≡ qs → t' ≡ t + length qs
  put_tail qs e = P.0 ∙ ap (λ (rs : List ℕ). t + length rs) e

  pub noted_put : {n : ℕ} {ts m m' : List ℕ} → (ps ≡ fresh n ts m) × (m' ≡ note n ts m) → Noted n ts m o t m' o' t'
  noted_put {n} {ts} {m} a = record { marks_are = a.1; order_is = put_order (fresh n ts m) a.0; tail_is = put_tail (fresh n ts m) a.0 }

pub taken_put : (mode : Mode) (image m : List ℕ) (p : ℕ) (r : Taken) (m' o : List ℕ) (t : ℕ) (o' : List ℕ) (t' : ℕ) → TakenUp (tracer_of mode image) m p r m'
    → Put o t (places_in r.noted) o' t' → queue.TakenInOrder (tracer_of mode image) p m o t m' o' t'
taken_put mode image m p r m' o t o' t' T P =
    record {
      marks_are = T.marks_are;
      order_is = put_order o t o' t' (places_in r.noted) P (found (tracer_of mode image) m p) T.noted_are;
      tail_is = put_tail o t o' t' (places_in r.noted) P (found (tracer_of mode image) m p) T.noted_are;
    }

-- room for them
pub room_for : (t k : ℕ) (ps qs : List ℕ) → ps ≡ qs → t + length qs ≤ k → t + length ps ≤ k
room_for t k ps qs e h = rw e h
