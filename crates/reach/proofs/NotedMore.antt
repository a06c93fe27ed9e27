-- Lists noted one after the other, in the marks and in an order list. Assumes nothing.
use Prim.Native.Nat.{ℕ, ◌+◌, ◌<◌, ◌≤◌}
use native.Mathlib.Omega.{arith}
use mathlib.Core.Path.{◌≡◌, sym, ap, ap₂, ◌∙◌}
use mathlib.Core.List.{List, [], ◌∷◌, ◌++◌}
use lib.ListN.{length, get_or, take, length-append}
use lib.Seq.{sets, take_all}
use Rattle.reach.specs.Note.{note, fresh}
use Rattle.reach.specs.Queue.{Noted}
use Rattle.reach.proofs.Note.{note_append, fresh_append}
use Rattle.reach.proofs.FreshCount.{fresh_le}
use Rattle.reach.proofs.Sets.{sets_append}
use Rattle.reach.proofs.NoteOne.{one_more_lem}
use Rattle.reach.proofs.Noted.{noted_long}

-- one list after the other
module _ {n : ℕ} {a m o : List ℕ} {tail : ℕ} {m₁ o₁ : List ℕ} {t₁ : ℕ} (A : Noted n a m o tail m₁ o₁ t₁) where
  both : (b : List ℕ) → fresh n (a ++ b) m ≡ fresh n a m ++ fresh n b m₁
  both b = fresh_append n a b m ∙ ap (λ (x : List ℕ). fresh n a m ++ fresh n b x) (sym A.marks_are)

  pub noted_append : {b m₂ o₂ : List ℕ} {t₂ : ℕ} → Noted n b m₁ o₁ t₁ m₂ o₂ t₂ → Noted n (a ++ b) m o tail m₂ o₂ t₂
  noted_append {b} B = record {
    marks_are = B.marks_are ∙ ap (note n b) A.marks_are ∙ sym (note_append n a b m);
    order_is =
        B.order_is ∙ ap₂ (λ (x : List ℕ) (k : ℕ). sets x k (fresh n b m₁)) A.order_is A.tail_is
        ∙ sets_append (fresh n a m) (fresh n b m₁) o tail
        ∙ ap (sets o tail) (sym (both b));
    tail_is = omega (arith, A.tail_is, B.tail_is, ap length (both b), length-append (fresh n a m) (fresh n b m₁));
  }

  -- where there is room for both, there is for the second after the first
  pub room_next : (b : List ℕ) → tail + length (fresh n (a ++ b) m) ≤ length o → t₁ + length (fresh n b m₁) ≤ length o₁
  room_next b r = omega (arith, A.tail_is, ap length (both b), length-append (fresh n a m) (fresh n b m₁), (noted_long A).1)

-- and for the first
pub room_first : (n : ℕ) (a b m o : List ℕ) (tail : ℕ) → tail + length (fresh n (a ++ b) m) ≤ length o → tail + length (fresh n a m) ≤ length o
room_first n a b m o tail r = omega (arith, ap length (fresh_append n a b m), length-append (fresh n a m) (fresh n b (note n a m)))

-- a loop over a list: one more of it, all of it, and room for one more
module _ {n : ℕ} (es : List ℕ) {m o : List ℕ} {tail : ℕ} {m₁ o₁ : List ℕ} {t₁ : ℕ} (i : ℕ) (N : Noted n (take i es) m o tail m₁ o₁ t₁) where
  pub noted_next : {m₂ o₂ : List ℕ} {t₂ : ℕ} → i < length es
      → Noted n (get_or es i 0 ∷ []) m₁ o₁ t₁ m₂ o₂ t₂ → Noted n (take (i + 1) es) m o tail m₂ o₂ t₂
  noted_next h M = rw (one_more_lem es i h) (noted_append N M)

  pub noted_all : length es ≤ i → Noted n es m o tail m₁ o₁ t₁
  noted_all h = rw (take_all i es h) at N

  pub noted_room : n ≤ length m → tail + n ≤ length o → i < length es → t₁ + length (fresh n (get_or es i 0 ∷ []) m₁) ≤ length o₁
  noted_room l r h = room_next N (get_or es i 0 ∷ []) (rw (← one_more_lem es i h) (omega (arith, fresh_le n (take (i + 1) es) m l)))
