-- Where a line may stand after the line before: no line before, a lower position, or the same position and an earlier letter.
-- Assumes nothing.
use mathlib.Core.Path.{◌≡◌, refl}
use mathlib.Core.Bool.{true, ◌&&◌, ◌||◌}
use Prim.Native.Nat.{ℕ, ◌<◌, ◌≤◌}
use native.Mathlib.Omega.{arith}
use lib.Dec.{eqb, ltb}
use borrow.Author.Tests.{eq-eqb, lt-ltb}
use Rattle.views.proofs.Ors.{or_second}

-- after a line at `last` whose letter has the rank a, letters from the rank r on may stand at p
pub data Open (p r last a : ℕ) : Type 0 where
  none : a ≡ 0 → Open p r last a
  higher : last < p → Open p r last a
  later : last ≡ p → a < r → Open p r last a

pub open_more : {p r s last a : ℕ} → r ≤ s → Open p r last a → Open p s last a
open_more h (none e) = none e
open_more h (higher l) = higher l
open_more h (later e l) = later e (omega arith)

pub open_past : {p q r last a : ℕ} → p < q → Open p r last a → Open q 0 last a
open_past h (none e) = none e
open_past h (higher l) = higher (omega arith)
open_past h (later e l) = higher (omega arith)

-- the test of the definition; only at a higher position may the letter have the rank 5
pub open_follows : {p r last a : ℕ} (b : ℕ) → Open p r last a → r ≤ b → (0 < r → b < 5)
    → (eqb a 0 || (ltb last p || (eqb last p && (ltb a b && ltb b 5)))) ≡ true
open_follows {a} b (none e) h k = rw (eq-eqb a 0 e)
open_follows {p} {last} {a} b (higher l) h k = rw (lt-ltb last p l) (or_second (eqb a 0) true refl)
open_follows {p} {r} {last} {a} b (later e l) h k =
    let j : b < 5 = k (omega arith) in
    rw (eq-eqb last p e, lt-ltb a b (omega arith), lt-ltb b 5 j) (or_second (eqb a 0) _ (or_second (ltb last p) true refl))
