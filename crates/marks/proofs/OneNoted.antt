-- One position noted: whether it became waiting, and what is fresh by that.
-- Assumes nothing.
use mathlib.Core.Path.{◌≡◌, refl, ap, sym, ◌∙◌}
use mathlib.Core.Bool.{Bool, true, false, cond}
use mathlib.Core.Logic.{◌≢◌}
use lib.Dec.{ltb}
use borrow.Author.Tests.{lt-ltb, le-ltb, eq-eqb, ne_eqb}
use Rattle.instruction.proofs.Ands.{both, not_first, not_second}
use mathlib.Core.List.{List, [], ◌∷◌, ◌++◌}
use Prim.Native.Nat.{ℕ, ◌+◌, ◌≤◌, ◌<◌}
use lib.ListN.{length, get_or, set, take, length-append}
use Rattle.reach.specs.Note.{note, fresh, is_open}
use Rattle.reach.proofs.Note.{note_append, fresh_append}
use Rattle.reach.proofs.NoteOne.{note_one, note_none, note_next, fresh_next}
use Rattle.reach.proofs.Open.{outside_shut, marked_shut}

module _ (n : ℕ) (m : List ℕ) (t : ℕ) where
  pub opened : t < n → get_or m t 0 ≡ 0 → (true ≡ is_open n m t) × (set m t 1 ≡ note n (t ∷ []) m)
  unfolding is_open
  opened h e = (sym (both (ltb t n) _ (lt-ltb t n h) (eq-eqb (get_or m t 0) 0 e)), sym (note_one n m t (record { inside = h; clear = e })))

  pub marked : get_or m t 0 ≢ 0 → (false ≡ is_open n m t) × (m ≡ note n (t ∷ []) m)
  unfolding is_open
  marked e = (sym (not_second (ltb t n) _ (ne_eqb (get_or m t 0) 0 e)), sym (note_none n m t (marked_shut n m t e)))

  pub outside : n ≤ t → (false ≡ is_open n m t) × (m ≡ note n (t ∷ []) m)
  unfolding is_open
  outside h = (sym (not_first (ltb t n) _ (le-ltb t n h)), sym (note_none n m t (outside_shut n m t h)))

  -- read from whether it became waiting
  pub fresh_is : (b : Bool) → b ≡ is_open n m t → fresh n (t ∷ []) m ≡ cond b (t ∷ []) []
  unfolding fresh
  fresh_is true e = rw (← e)
  fresh_is false e = rw (← e)

-- one entry more
module _ (n : ℕ) (es m m₁ : List ℕ) (i : ℕ) (h : i < length es) (e : m₁ ≡ note n (take i es) m) where
  pub marks_more : (m₂ : List ℕ) → m₂ ≡ note n (get_or es i 0 ∷ []) m₁ → m₂ ≡ note n (take (i + 1) es) m
  marks_more m₂ f = f ∙ ap (note n (get_or es i 0 ∷ [])) e ∙ sym (note_next n es m i h)

  pub count_more : (s : ℕ) (b : Bool) → s ≡ length (fresh n (take i es) m) → b ≡ is_open n m₁ (get_or es i 0)
      → s + cond b 1 0 ≡ length (fresh n (take (i + 1) es) m)
  count_more s b p q =
      let r : cond b 1 0 ≡ length (fresh n (get_or es i 0 ∷ []) m₁) = one_long b (get_or es i 0) ∙ sym (ap length (fresh_is n m₁ (get_or es i 0) b q)) in
      rw (p, r, e) (sym (ap length (fresh_next n es m i h) ∙ length-append (fresh n (take i es) m) (fresh n (get_or es i 0 ∷ []) (note n (take i es) m))))
    where
      one_long : (b : Bool) (t : ℕ) → cond b 1 0 ≡ length (cond b (t ∷ []) [])
      one_long true t = refl
      one_long false t = refl

-- two positions, one after the other
module _ (n : ℕ) (m m₁ : List ℕ) (s t : ℕ) (e : m₁ ≡ note n (s ∷ []) m) where
  pub marks_two : (m₂ : List ℕ) → m₂ ≡ note n (t ∷ []) m₁ → m₂ ≡ note n (s ∷ t ∷ []) m
  marks_two m₂ f = f ∙ ap (note n (t ∷ [])) e ∙ sym (note_append n (s ∷ []) (t ∷ []) m)

  pub fresh_two : (a b : Bool) → a ≡ is_open n m s → b ≡ is_open n m₁ t → cond a (s ∷ []) [] ++ cond b (t ∷ []) [] ≡ fresh n (s ∷ t ∷ []) m
  fresh_two a b p q =
      rw (← fresh_is n m s a p, ← fresh_is n m₁ t b q, e) (sym (fresh_append n (s ∷ []) (t ∷ []) m))
