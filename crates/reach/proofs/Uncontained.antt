-- What the worklist does not push, the graph containing it, noting would pass over. Assumes nothing.
use Prim.Native.Nat.{ℕ, ◌≤◌}
use native.Mathlib.Omega.{arith}
use mathlib.Core.Bool.{Bool, true, false, cond}
use mathlib.Core.Path.{◌≡◌, refl, sym, ap, ◌∙◌}
use mathlib.Core.Logic.{◌⊎◌, inl, inr, ⊎_elim}
use mathlib.Core.List.Memᴰ
use mathlib.Core.List.{List, [], ◌∷◌, Memᴰ as Among}
use lib.ListN.{length, set, length-set}
use Rattle.reach.specs.Mark.{waiting}
use Rattle.reach.specs.Note.{Open, note, fresh}
use Rattle.reach.specs.Worklist.{Graph, contains_instr, uncontained}
use Rattle.reach.proofs.Cases.{Decided, yes_or_no}
use Rattle.reach.proofs.Open.{open_or_shut}
use Rattle.reach.proofs.Note.{note_open, note_shut, fresh_open, fresh_shut}
use Rattle.reach.proofs.Set.{noted_open_before}

module _ (g : Graph) (t : ℕ) (ts : List ℕ) where
  uncontained_not : contains_instr g t ≡ true → uncontained g (t ∷ ts) ≡ uncontained g ts
  unfolding uncontained
  uncontained_not e = ap (λ (b : Bool). cond b (uncontained g ts) (t ∷ uncontained g ts)) e

  uncontained_yes : contains_instr g t ≡ false → uncontained g (t ∷ ts) ≡ t ∷ uncontained g ts
  unfolding uncontained
  uncontained_yes e = ap (λ (b : Bool). cond b (uncontained g ts) (t ∷ uncontained g ts)) e

-- nothing but those of ts
pub uncontained_among : (g : Graph) (ts : List ℕ) (q : ℕ) → Among q (uncontained g ts) → Among q ts × (contains_instr g q ≡ false)
unfolding uncontained
uncontained_among g [] q i = absurd (Memᴰ.not-nil i)
uncontained_among g (t ∷ ts) q i = by (contains_instr g t) refl i (λ (j : Among q (uncontained g ts)). uncontained_among g ts q j)
  where
    by : (b : Bool) → contains_instr g t ≡ b → Among q (cond b (uncontained g ts) (t ∷ uncontained g ts))
        → (Among q (uncontained g ts) → Among q ts × (contains_instr g q ≡ false)) → Among q (t ∷ ts) × (contains_instr g q ≡ false)
    by true e j on = let r = on j in (Among.tail r.0, r.1)
    by false e j on =
        ⊎_elim (λ x. (Among.head x, ap (contains_instr g) x ∙ e)) (λ k. let r = on k in (Among.tail r.0, r.1)) (Memᴰ.cases_cons j)

-- the same is noted
pub record NotesUncontained (n : ℕ) (g : Graph) (ts m : List ℕ) : Type 0 where
  pub fresh_uncontained : fresh n (uncontained g ts) m ≡ fresh n ts m
  pub note_uncontained : note n (uncontained g ts) m ≡ note n ts m

pub notes_uncontained : (n : ℕ) (g : Graph) (ts m : List ℕ) → n ≤ length m → ((t : ℕ) → contains_instr g t ≡ true → Open n m t → ⊥)
    → NotesUncontained n g ts m
unfolding uncontained
notes_uncontained n g [] m l c = record { fresh_uncontained = refl; note_uncontained = refl }
notes_uncontained n g (t ∷ ts) m l c =
    by (yes_or_no (contains_instr g t)) (open_or_shut n m t)
    (λ (k : List ℕ) (h : n ≤ length k) (d : (x : ℕ) → contains_instr g x ≡ true → Open n k x → ⊥). notes_uncontained n g ts k h d)
  where
    by : (contains_instr g t ≡ true) ⊎ (contains_instr g t ≡ false) → Decided (Open n m t)
        → ((k : List ℕ) → n ≤ length k → ((x : ℕ) → contains_instr g x ≡ true → Open n k x → ⊥) → NotesUncontained n g ts k)
        → NotesUncontained n g (t ∷ ts) m
    by (inl e) d on =
        let r = on m l c in
        record {
          fresh_uncontained = ap (λ (x : List ℕ). fresh n x m) (uncontained_not g t ts e) ∙ r.fresh_uncontained ∙ sym (fresh_shut n m t ts (c t e));
          note_uncontained = ap (λ (x : List ℕ). note n x m) (uncontained_not g t ts e) ∙ r.note_uncontained ∙ sym (note_shut n m t ts (c t e));
        }
    by (inr e) (inr s) on =
        let r = on m l c in
        record {
          fresh_uncontained = ap (λ (x : List ℕ). fresh n x m) (uncontained_yes g t ts e) ∙ fresh_shut n m t (uncontained g ts) s ∙ r.fresh_uncontained
              ∙ sym (fresh_shut n m t ts s);
          note_uncontained = ap (λ (x : List ℕ). note n x m) (uncontained_yes g t ts e) ∙ note_shut n m t (uncontained g ts) s ∙ r.note_uncontained
              ∙ sym (note_shut n m t ts s);
        }
    by (inr e) (inl o) on =
        let r = on (set m t waiting) (omega (arith, length-set m t waiting)) (λ x f u. c x f (noted_open_before n m t x l o u).1) in
        record {
          fresh_uncontained = ap (λ (x : List ℕ). fresh n x m) (uncontained_yes g t ts e) ∙ fresh_open n m t (uncontained g ts) o
              ∙ ap (λ (x : List ℕ). t ∷ x) r.fresh_uncontained ∙ sym (fresh_open n m t ts o);
          note_uncontained = ap (λ (x : List ℕ). note n x m) (uncontained_yes g t ts e) ∙ note_open n m t (uncontained g ts) o ∙ r.note_uncontained
              ∙ sym (note_open n m t ts o);
        }
