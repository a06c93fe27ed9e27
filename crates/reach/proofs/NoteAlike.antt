-- Noting goes by what is open: over tables with the same open positions it makes the same ones wait. Assumes nothing.
use Prim.Native.Nat.{ℕ, ◌<◌, ◌≤◌}
use native.Mathlib.Omega.{arith}
use mathlib.Core.Path.{◌≡◌, refl, sym, ap, ◌∙◌}
use mathlib.Core.Logic.{inl, inr, ◌↔◌, ◌≢◌}
use mathlib.Core.List.{List, [], ◌∷◌, Memᴰ as Among}
use lib.ListN.{length, set, length-set}
use Rattle.reach.specs.Mark.{waiting}
use Rattle.reach.specs.Note.{Open, note, fresh}
use Rattle.reach.proofs.Cases.{Decided}
use Rattle.reach.proofs.Open.{open_or_shut}
use Rattle.reach.proofs.Note.{note_open, note_shut, fresh_open, fresh_shut, note_nil, fresh_nil}
use Rattle.reach.proofs.NoteAt.{Noticed, as_before, newly, noticed}
use Rattle.reach.proofs.Set.{open_set, set_open}

-- the same positions are open
abbrev pub SameOpen : ℕ → List ℕ → List ℕ → Type 0
SameOpen n m m' = (q : ℕ) → Open n m q ↔ Open n m' q

-- so it is where one position, whatever it was, is set in both
pub same_open_set : (n : ℕ) (m m' : List ℕ) (p v v' : ℕ) → p < length m → p < length m' → v ≢ 0 → v' ≢ 0
    → ((q : ℕ) → q ≢ p → Open n m q ↔ Open n m' q) → SameOpen n (set m p v) (set m' p v')
same_open_set n m m' p v v' h h' nz nz' same q = (
  λ o. let r = set_open n m p v q nz h o in open_set n m' p v' q r.0 ((same q r.0).0 r.1),
  λ o. let r = set_open n m' p v' q nz' h' o in open_set n m p v q r.0 ((same q r.0).1 r.1),
)

-- what noting has left open was open before
pub open_before : (n : ℕ) (ts m : List ℕ) (q : ℕ) → n ≤ length m → Open n (note n ts m) q → Open n m q
open_before n ts m q l o = by (noticed n ts m q l)
  where
    by : Noticed n ts m q → Open n m q
    by (as_before f e) = record { inside = o.inside; clear = sym e ∙ o.clear }
    by (newly i u e) = u

-- the same ones become waiting, and the same ones are open afterwards
pub record NotedAlike (n : ℕ) (ts m m' : List ℕ) : Type 0 where
  pub fresh_same : fresh n ts m ≡ fresh n ts m'
  pub open_same : SameOpen n (note n ts m) (note n ts m')

pub noted_alike : (n : ℕ) (ts m m' : List ℕ) → n ≤ length m → n ≤ length m' → SameOpen n m m' → NotedAlike n ts m m'
noted_alike n [] m m' l l' s = record { fresh_same = fresh_nil n m ∙ sym (fresh_nil n m'); open_same = rw (note_nil n m, note_nil n m') s }
noted_alike n (t ∷ ts) m m' l l' s =
    by (open_or_shut n m t)
    (λ (k k' : List ℕ) (h : n ≤ length k) (h' : n ≤ length k') (u : SameOpen n k k'). noted_alike n ts k k' h h' u)
  where
    by : Decided (Open n m t)
        → ((k k' : List ℕ) → n ≤ length k → n ≤ length k' → SameOpen n k k' → NotedAlike n ts k k') → NotedAlike n (t ∷ ts) m m'
    by (inl o) on =
        let o' = (s t).0 o in
        let u = same_open_set n m m' t waiting waiting (omega (arith, o.inside)) (omega (arith, o.inside)) (λ z. omega arith) (λ z. omega arith)
        (λ q ne. s q) in
        let r = on (set m t waiting) (set m' t waiting) (omega (arith, length-set m t waiting)) (omega (arith, length-set m' t waiting)) u in
        record {
          fresh_same = fresh_open n m t ts o ∙ ap (λ (x : List ℕ). t ∷ x) r.fresh_same ∙ sym (fresh_open n m' t ts o');
          open_same = rw (note_open n m t ts o, note_open n m' t ts o') r.open_same;
        }
    by (inr c) on =
        let c' : Open n m' t → ⊥ = λ o. c ((s t).1 o) in
        let r = on m m' l l' s in
        record {
          fresh_same = fresh_shut n m t ts c ∙ r.fresh_same ∙ sym (fresh_shut n m' t ts c');
          open_same = rw (note_shut n m t ts c, note_shut n m' t ts c') r.open_same;
        }

-- where none of them is open nothing is done
pub note_all_shut : (n : ℕ) (ts m : List ℕ) → ((t : ℕ) → Among t ts → Open n m t → ⊥) → note n ts m ≡ m
note_all_shut n [] m c = note_nil n m
note_all_shut n (t ∷ ts) m c = note_shut n m t ts (c t (Among.head refl)) ∙ note_all_shut n ts m (λ x i. c x (Among.tail i))

pub fresh_all_shut : (n : ℕ) (ts m : List ℕ) → ((t : ℕ) → Among t ts → Open n m t → ⊥) → fresh n ts m ≡ []
fresh_all_shut n [] m c = fresh_nil n m
fresh_all_shut n (t ∷ ts) m c = fresh_shut n m t ts (c t (Among.head refl)) ∙ fresh_all_shut n ts m (λ x i. c x (Among.tail i))
