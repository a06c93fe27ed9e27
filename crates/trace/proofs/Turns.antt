-- A turn of a run: the next position taken up, or its instruction cut off.
-- Assumes nothing.
use mathlib.Core.Path.{◌≡◌, refl, subst}
use mathlib.Core.Bool.{true, false}
use mathlib.Core.List.{List}
use Prim.Native.Nat.{ℕ}
use native.Mathlib.Omega.{arith}
use Rattle.instruction.specs.CutOff.{cut_values}
use Rattle.instruction.specs.declared.answer.CutOff.{CutOff}
use Rattle.instruction.specs.Decode.{cut_at}
use Rattle.instruction.specs.declared.mode.Mode.{Mode}
use Rattle.reach.specs.Queue.{TakenInOrder}
use Rattle.trace.specs.Run.{NextTaken}
use Rattle.marks.specs.Tracer.{tracer_of}
use Rattle.targets.specs.At.{fits_here}
use Rattle.std.specs.Prelude.{Ok, Err}

module _ (mode : Mode) (image m o : List ℕ) (p tail : ℕ) where
  pub turned_on : (t : ℕ) (m' o' : List ℕ) → fits_here image p ≡ true → TakenInOrder (tracer_of mode image) p m o tail m' o' t
      → NextTaken mode image m o p tail (Ok t) m' o'
  turned_on t m' o' f T =
      record {
        on = λ u e. (f, (let g : t ≡ u = cc in subst (λ (k : ℕ). TakenInOrder (tracer_of mode image) p m o tail m' o' k) g T));
        off = λ c e. absurd (let z : ◌≡◌ {A = ℕ} 0 1 = cc in omega arith);
      }

  pub turned_off : (c : CutOff) → (fits_here image p ≡ false) × (cut_values c ≡ cut_values (cut_at image p)) → NextTaken mode image m o p tail (Err c) m o
  turned_off c h =
      record {
        on = λ u e. absurd (let z : ◌≡◌ {A = ℕ} 0 1 = cc in omega arith);
        off = λ d e. (h.0, (let g : c ≡ d = cc in subst (λ (x : CutOff). cut_values x ≡ cut_values (cut_at image p)) g h.1), refl, refl);
      }
