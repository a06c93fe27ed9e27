-- Positions written into a list from a place on: what is written, what stays, and one writing after the other. Assumes nothing.
use Prim.Native.Nat.{ℕ, suc, ◌+◌, ◌-◌, ◌≤◌}
use native.Mathlib.Omega.{arith}
use mathlib.Core.Path.{◌≡◌, sym, ap, ◌∙◌}
use mathlib.Core.List.{List, [], ◌∷◌, ◌++◌}
use lib.ListN.{length, set, take, drop, length-append, take-append-drop}
use lib.Seq.{sets, sets-eq, length-take-le, take_at, drop_at, drop-drop}

pub sets_append : (a b l : List ℕ) (i : ℕ) → sets (sets l i a) (i + length a) b ≡ sets l i (a ++ b)
sets_append [] b l i = ap (λ (k : ℕ). sets l k b) (omega arith)
sets_append (x ∷ a) b l i = ap (λ (k : ℕ). sets (sets (set l i x) (suc i) a) k b) (omega arith) ∙ sets_append a b (set l i x) (suc i)

module _ (l : List ℕ) (i : ℕ) (vs : List ℕ) (h : i + length vs ≤ length l) where
  front : length (take i l ++ vs) ≡ i + length vs
  front = omega (arith, length-append (take i l) vs, length-take-le i l (omega arith))

  pub take_sets : take (i + length vs) (sets l i vs) ≡ take i l ++ vs
  take_sets = rw (sets-eq vs l i h) (take_at (take i l ++ vs) (drop (i + length vs) l) (i + length vs) front)

  pub drop_sets : drop (i + length vs) (sets l i vs) ≡ drop (i + length vs) l
  drop_sets = rw (sets-eq vs l i h) (drop_at (take i l ++ vs) (drop (i + length vs) l) (i + length vs) front)

-- lists that agree from j on agree from a later place on
pub drop_later : (a b : List ℕ) (j k : ℕ) → j ≤ k → drop j a ≡ drop j b → drop k a ≡ drop k b
drop_later a b j k h e =
    let x : j + (k - j) ≡ k = omega arith in
    ap (λ (y : ℕ). drop y a) (sym x) ∙ sym (drop-drop (k - j) j a) ∙ ap (drop (k - j)) e ∙ drop-drop (k - j) j b ∙ ap (λ (y : ℕ). drop y b) x

-- a list is its own front written over any list that agrees with it behind
pub sets_front : (o l : List ℕ) (t : ℕ) → t ≤ length o → length o ≡ length l → drop t o ≡ drop t l → sets l 0 (take t o) ≡ o
sets_front o l t h e d =
    let x : 0 + length (take t o) ≡ t = omega (arith, length-take-le t o h) in
    sets-eq (take t o) l 0 (omega arith) ∙ ap (λ (k : ℕ). take t o ++ drop k l) x ∙ ap (λ (r : List ℕ). take t o ++ r) (sym d) ∙ take-append-drop t o
