-- Positions noted in the marks and in an order list: one position, or none. Assumes nothing.
use Prim.Native.Nat.{ℕ, ◌+◌, ◌<◌, ◌≤◌}
use native.Mathlib.Omega.{arith}
use mathlib.Core.Path.{◌≡◌, sym, ap, ◌∙◌}
use mathlib.Core.Logic.{◌≢◌}
use mathlib.Core.List.{List, [], ◌∷◌}
use lib.ListN.{length, get_or, set}
use lib.Seq.{sets, length-sets}
use Rattle.reach.specs.Mark.{waiting}
use Rattle.reach.specs.Note.{Open, note, fresh}
use Rattle.reach.specs.Queue.{Noted}
use Rattle.reach.proofs.Open.{outside_shut, marked_shut}
use Rattle.reach.proofs.NoteOne.{note_one, fresh_one, note_none, fresh_none}
use Rattle.reach.proofs.Note.{note_nil, fresh_nil, length_note}

module _ {n : ℕ} {m o : List ℕ} {tail : ℕ} where
  -- nothing is done where nothing becomes waiting
  none : {ts : List ℕ} → note n ts m ≡ m → fresh n ts m ≡ [] → Noted n ts m o tail m o tail
  none e f = record { marks_are = sym e; order_is = ap (sets o tail) (sym f); tail_is = omega (arith, ap length f) }

  pub noted_nil : Noted n [] m o tail m o tail
  noted_nil = none (note_nil n m) (fresh_nil n m)

  -- one position: noted if it is inside and untouched, else passed over
  pub noted_open : {t : ℕ} → t < n → get_or m t 0 ≡ 0 → Noted n (t ∷ []) m o tail (set m t waiting) (set o tail t) (tail + 1)
  noted_open {t} h e =
      let u : Open n m t = record { inside = h; clear = e } in
      let f = sym (fresh_one n m t u) in
      record { marks_are = sym (note_one n m t u); order_is = ap (sets o tail) f; tail_is = ap (λ (l : List ℕ). tail + length l) f }

  pub noted_outside : {t : ℕ} → n ≤ t → Noted n (t ∷ []) m o tail m o tail
  noted_outside {t} h = none (note_none n m t (outside_shut n m t h)) (fresh_none n m t (outside_shut n m t h))

  pub noted_marked : {t : ℕ} → get_or m t 0 ≢ 0 → Noted n (t ∷ []) m o tail m o tail
  noted_marked {t} h = none (note_none n m t (marked_shut n m t h)) (fresh_none n m t (marked_shut n m t h))

-- there is room for a position that will be noted
pub room_one : (n t : ℕ) (m o : List ℕ) (tail : ℕ) → t < n → get_or m t 0 ≡ 0 → tail + length (fresh n (t ∷ []) m) ≤ length o → tail < length o
room_one n t m o tail h e r = omega (arith, (noted_open {n = n} {m = m} {o = o} {tail = tail} h e).tail_is)

-- lengths stay
pub noted_long : {n : ℕ} {ts m o : List ℕ} {tail : ℕ} {m' o' : List ℕ} {tail' : ℕ}
    → Noted n ts m o tail m' o' tail' → (length m' ≡ length m) × (length o' ≡ length o)
noted_long {n} {ts} {m} {o} {tail} N = (ap length N.marks_are ∙ length_note n ts m, ap length N.order_is ∙ length-sets o tail (fresh n ts m))
