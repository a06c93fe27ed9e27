-- The lent order list as the queue of a run: what noting and taking up do to it, for the inner functions' contracts
-- (document 01, "Marks and steps": "each noted once in a lent order list, whose rest stays"). Assumes nothing.
use Rattle.std.specs.Prelude.{ℕ, ◌+◌, ◌≡◌, List, length}
use Rattle.std.proofs.lemmas.List.Edits.{sets}
use Rattle.reach.specs.Note.{note, fresh}
use Rattle.reach.specs.Tracer.{Tracer, took, found}

-- the positions ts noted: in the marks, and in the order list from its end `tail` on
pub record Noted (n : ℕ) (ts m o : List ℕ) (tail : ℕ) (m' o' : List ℕ) (tail' : ℕ) : Type 0 where
  pub marks_are : m' ≡ note n ts m
  pub order_is : o' ≡ sets o tail (fresh n ts m)
  pub tail_is : tail' ≡ tail + length (fresh n ts m)

-- the position p taken up: in the marks, and what it found in the order list from its end `tail` on
pub record TakenInOrder (G : Tracer) (p : ℕ) (m o : List ℕ) (tail : ℕ) (m' o' : List ℕ) (tail' : ℕ) : Type 0 where
  pub marks_are : m' ≡ took G m p
  pub order_is : o' ≡ sets o tail (found G m p)
  pub tail_is : tail' ≡ tail + length (found G m p)
