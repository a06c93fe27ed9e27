-- Laws of noting: what the first position noted does, and lists noted one after the other. Assumes nothing.
use Prim.Native.Nat.{ℕ}
use mathlib.Core.Bool.{Bool, true, false, cond}
use mathlib.Core.Path.{◌≡◌, refl, sym, ap, ◌∙◌}
use mathlib.Core.List.{List, [], ◌∷◌, ◌++◌, append_assoc}
use lib.ListN.{length, set, length-set}
use Rattle.reach.specs.Mark.{waiting}
use Rattle.reach.specs.Note.{Open, is_open, note, fresh}
use Rattle.reach.proofs.Open.{open_yes, open_no}

-- the first of a list: noted if it is open, else passed over
module _ (n : ℕ) (m : List ℕ) (t : ℕ) (ts : List ℕ) where
  pub note_open : Open n m t → note n (t ∷ ts) m ≡ note n ts (set m t waiting)
  unfolding note
  note_open o = ap (λ (b : Bool). note n ts (cond b (set m t waiting) m)) (open_yes n m t o)

  pub note_shut : (Open n m t → ⊥) → note n (t ∷ ts) m ≡ note n ts m
  unfolding note
  note_shut s = ap (λ (b : Bool). note n ts (cond b (set m t waiting) m)) (open_no n m t s)

  pub fresh_open : Open n m t → fresh n (t ∷ ts) m ≡ t ∷ fresh n ts (set m t waiting)
  unfolding fresh note
  fresh_open o = ap (λ (b : Bool). cond b (t ∷ []) [] ++ fresh n ts (cond b (set m t waiting) m)) (open_yes n m t o)

  pub fresh_shut : (Open n m t → ⊥) → fresh n (t ∷ ts) m ≡ fresh n ts m
  unfolding fresh note
  fresh_shut s = ap (λ (b : Bool). cond b (t ∷ []) [] ++ fresh n ts (cond b (set m t waiting) m)) (open_no n m t s)

pub note_nil : (n : ℕ) (m : List ℕ) → note n [] m ≡ m
unfolding note
note_nil n m = refl

pub fresh_nil : (n : ℕ) (m : List ℕ) → fresh n [] m ≡ []
unfolding fresh
fresh_nil n m = refl

-- one list after the other
pub note_append : (n : ℕ) (a b m : List ℕ) → note n (a ++ b) m ≡ note n b (note n a m)
unfolding note
note_append n [] b m = refl
note_append n (t ∷ a) b m = note_append n a b (cond (is_open n m t) (set m t waiting) m)

pub fresh_append : (n : ℕ) (a b m : List ℕ) → fresh n (a ++ b) m ≡ fresh n a m ++ fresh n b (note n a m)
unfolding note fresh
fresh_append n [] b m = refl
fresh_append n (t ∷ a) b m =
    let m₁ = cond (is_open n m t) (set m t waiting) m in
    let first = cond (is_open n m t) (t ∷ []) [] in
    ap (λ (l : List ℕ). first ++ l) (fresh_append n a b m₁) ∙ sym (append_assoc first (fresh n a m₁) (fresh n b (note n a m₁)))

pub length_note : (n : ℕ) (ts m : List ℕ) → length (note n ts m) ≡ length m
unfolding note
length_note n [] m = refl
length_note n (t ∷ ts) m = length_note n ts (cond (is_open n m t) (set m t waiting) m) ∙ by (is_open n m t)
  where
    by : (b : Bool) → length (cond b (set m t waiting) m) ≡ length m
    by true = length-set m t waiting
    by false = refl
