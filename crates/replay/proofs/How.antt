-- What becomes of a line: it is refused with a number, or it is taken.
-- Assumes nothing.
use Prim.Native.Nat.{ℕ, ◌+◌}
use native.Mathlib.Omega.{arith}
use mathlib.Core.Path.{◌≡◌, refl}
use mathlib.Core.Bool.{Bool, true, false, cond, not}
use mathlib.Core.List.{List}
use lib.Dec.{eqb}
use lib.ListN.{get_or, set}
use borrow.Author.Tests.{eqb-false}
use Rattle.instruction.specs.declared.mode.Mode.{Mode}
use Rattle.views.specs.Positions.{traced_at}
use Rattle.replay.specs.Log.{top, refusing, going}
use Rattle.replay.specs.Moves.{is_forbidden}
use Rattle.replay.specs.Take.{State, state, move_now, fault_at, taken_at}

module _ (mode : Mode) (image m : List ℕ) (isEntry : ℕ → Bool) where
  pub data How (s : State) (p : ℕ) (t : State) : Type 0 where
    stopped : (n : ℕ) → (n ≡ 0 → ⊥) → t ≡ state (refusing s.log n) s.counts → How s p t
    went : traced_at image m p ≡ true → is_forbidden (move_now mode image m isEntry s.log p) ≡ false → (get_or s.counts p 0 ≡ top → ⊥)
        → t ≡ state (going s.log p (move_now mode image m isEntry s.log p)) (set s.counts p (get_or s.counts p 0 + 1)) → How s p t

  module _ (s : State) (p : ℕ) where
    abbrev fault : Bool → Bool → Bool → Bool → ℕ
    fault a t f u = cond a 18 (cond (not t) 19 (cond f 20 (cond u 21 0)))

    abbrev after : ℕ → State
    after n =
        cond (eqb n 0) (state (going s.log p (move_now mode image m isEntry s.log p)) (set s.counts p (get_or s.counts p 0 + 1)))
        (state (refusing s.log n) s.counts)

    by : (a : Bool) → eqb p 65536 ≡ a → (t : Bool) → traced_at image m p ≡ t → (f : Bool) → is_forbidden (move_now mode image m isEntry s.log p) ≡ f
        → (u : Bool) → eqb (get_or s.counts p 0) top ≡ u → How s p (after (fault a t f u))
    by true e t g f h u i = stopped 18 (λ z. omega arith) refl
    by false e false g f h u i = stopped 19 (λ z. omega arith) refl
    by false e true g true h u i = stopped 20 (λ z. omega arith) refl
    by false e true g false h true i = stopped 21 (λ z. omega arith) refl
    by false e true g false h false i = went g h (eqb-false (get_or s.counts p 0) top i) refl

    pub how : How s p (taken_at mode image m isEntry s p)
    unfolding taken_at fault_at
    how = by (eqb p 65536) refl (traced_at image m p) refl (is_forbidden (move_now mode image m isEntry s.log p)) refl (eqb (get_or s.counts p 0) top) refl
