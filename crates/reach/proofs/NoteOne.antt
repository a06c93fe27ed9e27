-- One position noted alone, and one more of a list. Assumes nothing.
use Prim.Native.Nat.{ℕ, ◌+◌, ◌<◌}
use native.Mathlib.Numerals.{add-one}
use mathlib.Core.Path.{◌≡◌, ap, ◌∙◌}
use mathlib.Core.List.{List, [], ◌∷◌, ◌++◌}
use lib.ListN.{length, get_or, set, take}
use lib.Seq.{take-suc}
use Rattle.reach.specs.Mark.{waiting}
use Rattle.reach.specs.Note.{Open, note, fresh}
use Rattle.reach.proofs.Note.{note_open, note_shut, fresh_open, fresh_shut, note_nil, fresh_nil, note_append, fresh_append}

module _ (n : ℕ) (m : List ℕ) (t : ℕ) where
  -- inside and untouched: it becomes waiting
  pub note_one : Open n m t → note n (t ∷ []) m ≡ set m t waiting
  note_one o = note_open n m t [] o ∙ note_nil n (set m t waiting)

  pub fresh_one : Open n m t → fresh n (t ∷ []) m ≡ t ∷ []
  fresh_one o = fresh_open n m t [] o ∙ ap (λ (l : List ℕ). t ∷ l) (fresh_nil n (set m t waiting))

  -- otherwise nothing is done
  pub note_none : (Open n m t → ⊥) → note n (t ∷ []) m ≡ m
  note_none s = note_shut n m t [] s ∙ note_nil n m

  pub fresh_none : (Open n m t → ⊥) → fresh n (t ∷ []) m ≡ []
  fresh_none s = fresh_shut n m t [] s ∙ fresh_nil n m

-- one more of a list
pub one_more_lem : (es : List ℕ) (i : ℕ) → i < length es → take (i + 1) es ≡ take i es ++ (get_or es i 0 ∷ [])
one_more_lem es i h = rw add-one (take-suc es i 0 h)

module _ (n : ℕ) (es m : List ℕ) (i : ℕ) (h : i < length es) where
  pub note_next : note n (take (i + 1) es) m ≡ note n (get_or es i 0 ∷ []) (note n (take i es) m)
  note_next = rw (one_more_lem es i h) (note_append n (take i es) (get_or es i 0 ∷ []) m)

  pub fresh_next : fresh n (take (i + 1) es) m ≡ fresh n (take i es) m ++ fresh n (get_or es i 0 ∷ []) (note n (take i es) m)
  fresh_next = rw (one_more_lem es i h) (fresh_append n (take i es) (get_or es i 0 ∷ []) m)
