-- What is listed or refused, by its parts: the lines of the text, the run, the views.
-- Assumes nothing.
use mathlib.Core.Path.{◌≡◌, refl}
use mathlib.Core.List.{List}
use mathlib.Core.Logic.{◌⊎◌, inl, inr}
use Prim.Native.Nat.{ℕ}
use lib.IntN.{ℤ}
use Rattle.instruction.proofs.Accepting.{differ}
use Rattle.instruction.specs.Answer.{Answer, accepted, refused}
use Rattle.trace.specs.Run.{and_then}

module _ {A B : Type 0} where
  -- what is accepted at last was accepted at first
  pub or_accepted : (r : Answer A) (s : Answer B) (b : B) → and_then r s ≡ accepted b → ((a : A) × (r ≡ accepted a)) × (s ≡ accepted b)
  or_accepted (accepted a) s b e = ((a, refl), e)
  or_accepted (refused n vs) s b e = absurd (differ e)

  -- what is refused is refused at first, or accepted there and refused then
  pub or_refused : (r : Answer A) (s : Answer B) (n : ℕ) (vs : List ℤ) → and_then r s ≡ refused n vs
      → (r ≡ refused n vs) ⊎ (((a : A) × (r ≡ accepted a)) × (s ≡ refused n vs))
  or_refused (accepted a) s n vs e = inr ((a, refl), e)
  or_refused (refused k us) s n vs e = inl (let f : k ≡ n = cc in let g : us ≡ vs = cc in cc)
