-- How the marks come out of taking a position up. Assumes nothing.
use Prim.Native.Nat.{ℕ, suc, ◌<◌, ◌≤◌}
use native.Mathlib.Omega.{arith}
use mathlib.Core.Bool.{Bool, true, false, cond}
use mathlib.Core.Path.{◌≡◌, refl, ap, ◌∙◌}
use mathlib.Core.Logic.{◌⊎◌, inl, inr, ◌≢◌}
use mathlib.Core.List.{List, Memᴰ as Among}
use lib.ListN.{length, get_or, set, take, length-set}
use lib.Seq.{get_or-set_other}
use Rattle.reach.specs.Mark.{waiting, flash, traced, IsTraced, traced_mark, count}
use Rattle.reach.specs.Note.{Open}
use Rattle.reach.specs.Tracer.{Tracer, targets, mark, took}
use Rattle.reach.specs.Takes.{Ready}
use Rattle.reach.proofs.Cases.{eq_or_ne}
use Rattle.reach.proofs.Mark.{live_ne, traced_test}
use Rattle.reach.proofs.Count.{one, count_mark}
use Rattle.reach.proofs.Note.{length_note}
use Rattle.reach.proofs.Set.{set_here, open_set, set_open}
use Rattle.reach.proofs.NoteAt.{Noticed, as_before, newly, noticed}
use Rattle.reach.proofs.FreshCount.{count_note}

-- the mark that a position gets says traced
pub mark_traced : (G : Tracer) (m : List ℕ) (p : ℕ) → IsTraced (mark G m p)
unfolding mark
mark_traced G m p = by (G.exempt m p)
  where
    by : (b : Bool) → IsTraced (cond b flash traced)
    by true = inr refl
    by false = inl refl

pub length_took : (G : Tracer) (m : List ℕ) (p : ℕ) → length (took G m p) ≡ length m
unfolding took
length_took G m p = length_note G.size (targets G m p) (set m p (mark G m p)) ∙ length-set m p (mark G m p)

-- how q comes out of taking p up: as p itself; as before, being no open target; or newly waiting
pub data Moved (G : Tracer) (m : List ℕ) (p q : ℕ) : Type 0 where
  itself : q ≡ p → get_or (took G m p) q 0 ≡ mark G m p → Moved G m p q
  kept : q ≢ p → (Among q (targets G m p) → Open G.size m q → ⊥) → get_or (took G m p) q 0 ≡ get_or m q 0 → Moved G m p q
  called : q ≢ p → Among q (targets G m p) → Open G.size m q → get_or (took G m p) q 0 ≡ waiting → Moved G m p q

pub moved : (G : Tracer) (m : List ℕ) (p q : ℕ) → G.size ≤ length m → p < G.size → Moved G m p q
unfolding took
moved G m p q l h = by (eq_or_ne q p) (noticed G.size (targets G m p) (set m p (mark G m p)) q (omega (arith, length-set m p (mark G m p))))
  where
    nz : mark G m p ≢ 0
    nz = live_ne (inr (mark_traced G m p))

    by : (q ≡ p) ⊎ (q ≢ p) → Noticed G.size (targets G m p) (set m p (mark G m p)) q → Moved G m p q
    by (inl e) (as_before f x) = itself e (x ∙ set_here m p (mark G m p) q e (omega arith))
    by (inl e) (newly i o x) = absurd ((set_open G.size m p (mark G m p) q nz (omega arith) o).0 e)
    by (inr ne) (as_before f x) = kept ne (λ i o. f i (open_set G.size m p (mark G m p) q ne o)) (x ∙ get_or-set_other m p q (mark G m p) 0 ne)
    by (inr ne) (newly i o x) = called ne i (set_open G.size m p (mark G m p) q nz (omega arith) o).1 x

-- one more is traced
pub count_took : (G : Tracer) (m : List ℕ) (p : ℕ) → G.size ≤ length m → Ready G m p
    → count traced_mark (take G.size (took G m p)) ≡ suc (count traced_mark (take G.size m))
unfolding took traced_mark
count_took G m p l R =
    let n = G.size in
    let a = count_note traced_mark n (targets G m p) (set m p (mark G m p)) (omega (arith, length-set m p (mark G m p))) in
    let b = count_mark traced_mark n m p (mark G m p) R.inside l in
    let c : one (traced_mark (get_or m p 0)) ≡ 0 = ap (λ (x : ℕ). one (traced_mark x)) R.waits in
    let d : one (traced_mark (mark G m p)) ≡ 1 = ap one ((traced_test (mark G m p)).1 (mark_traced G m p)) in
    omega (arith, a, b, c, d)
