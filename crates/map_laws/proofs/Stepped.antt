-- A step: its marks stay sound, and the mask grows by the bytes of the position's instruction.
-- Assumes nothing.
use mathlib.Core.Path.{◌≡◌, refl, sym, ap, ap₂, ◌∙◌}
use mathlib.Core.Bool.{Bool, true, false, ◌&&◌, ◌||◌}
use mathlib.Core.List.{List}
use Prim.Native.Nat.{ℕ, zero, suc, ◌+◌, ◌<◌, ◌≤◌}
use native.Mathlib.Omega.{arith}
use lib.Dec.{eqb}
use lib.ListN.{length, get_or}
use borrow.Author.Tests.{lt-ltb, le-leb, eq-eqb, ne_eqb, eqb-true}
use Rattle.instruction.specs.declared.mode.Mode.{Mode}
use Rattle.targets.specs.At.{size_here}
use Rattle.reach.specs.Mark.{traced_mark}
use Rattle.reach.specs.Takes.{Ready}
use Rattle.reach.specs.Tracer.{mark, took}
use Rattle.reach.proofs.Mark.{traced_test}
use Rattle.reach.proofs.Took.{Moved, itself, kept, called, moved, mark_traced, length_took}
use Rattle.marks.specs.Tracer.{tracer_of}
use Rattle.map.specs.Bits.{between}
use Rattle.views.specs.Mask.{under, covers, masked}
use Rattle.views.specs.Positions.{up_from, some}
use Rattle.views.specs.View.{Sound, damaged_here}
use Rattle.views.proofs.Refusing.{left_from_lem, sound}
use Rattle.views.proofs.Viewing.{is_sound}
use Rattle.views_laws.proofs.ClaimsSoundRun.{step_good}
use Rattle.map.proofs.Packing.{begins, begins_none}

-- ---- one test more for one position

and_none : (u b : Bool) → b ≡ false → (b && u) ≡ false
and_none u b e = ap (λ (t : Bool). t && u) e

or_none : (a b : Bool) → b ≡ false → a ≡ (a || b)
or_none true b e = refl
or_none false b e = sym e

last : (a : Bool) → (a || true) ≡ true
last true = refl
last false = refl

regroup : (a b c d u : Bool) → ((a || (b && u)) || (c || (d && u))) ≡ ((a || c) || ((b || d) && u))
regroup true b c d u = refl
regroup false b true d u = last (b && u)
regroup false true false d true = refl
regroup false true false true false = refl
regroup false true false false false = refl
regroup false false false d u = refl

some_more : (f g : ℕ → Bool) (u : Bool) (p k q : ℕ) → ((i : ℕ) → i < q + k → f i ≡ (g i || (eqb p i && u)))
    → some f (up_from k q) ≡ (some g (up_from k q) || (between q (q + k) p && u))
unfolding some up_from
some_more f g u p zero q e = sym (and_none u (between q (q + 0) p) (begins_none q p))
some_more f g u p (suc k) q e =
    ap₂ (λ (a b : Bool). a || b) (e q (omega arith)) (some_more f g u p k (suc q) (λ i h. e i (omega arith)))
    ∙ regroup (g q) (eqb p q) (some g (up_from k (suc q))) (between (suc q) (suc q + k) p) u
    ∙ ap (λ (b : Bool). (g q || some g (up_from k (suc q))) || (b && u)) (begins q k p (eqb p q) refl)

waiting_untraced : traced_mark 1 ≡ traced_mark 0
unfolding traced_mark
waiting_untraced = refl

either : (t e u : Bool) → ((t || e) && u) ≡ ((t && u) || (e && u))
either true e true = refl
either true true false = refl
either true false false = refl
either false e u = refl

module _ (mode : Mode) (image m : List ℕ) (p : ℕ) (room : length image ≤ length m) (ready : Ready (tracer_of mode image) m p) where
  abbrev n : ℕ
  n = length image

  abbrev m' : List ℕ
  m' = took (tracer_of mode image) m p

  -- ---- the mask

  -- traced afterwards: as before, and p
  traced_more : (q : ℕ) → traced_mark (get_or m' q 0) ≡ (traced_mark (get_or m q 0) || eqb p q)
  traced_more q = by (moved (tracer_of mode image) m p q room ready.inside)
    where
      by : Moved (tracer_of mode image) m p q → traced_mark (get_or m' q 0) ≡ (traced_mark (get_or m q 0) || eqb p q)
      by (itself e x) =
          ap traced_mark x ∙ (traced_test (mark (tracer_of mode image) m p)).1 (mark_traced (tracer_of mode image) m p)
          ∙ sym (ap (λ (b : Bool). traced_mark (get_or m q 0) || b) (eq-eqb p q (sym e)) ∙ last (traced_mark (get_or m q 0)))
      by (kept d f x) = ap traced_mark x ∙ or_none (traced_mark (get_or m q 0)) (eqb p q) (ne_eqb p q (λ e. d (sym e)))
      by (called d i o x) =
          ap traced_mark x ∙ waiting_untraced ∙ ap traced_mark (sym o.clear) ∙ or_none (traced_mark (get_or m q 0)) (eqb p q) (ne_eqb p q (λ e. d (sym e)))

  pub traced_here : traced_mark (get_or m' p 0) ≡ true
  traced_here = traced_more p ∙ ap (λ (b : Bool). traced_mark (get_or m p 0) || b) (eq-eqb p p refl) ∙ last (traced_mark (get_or m p 0))

  covers_more : (b q : ℕ) → q < n → covers image m' b q ≡ (covers image m b q || (eqb p q && under image b p))
  covers_more b q h =
      ap₂ (λ (x y : Bool). (x && y) && under image b q) (lt-ltb q n h) (traced_more q)
      ∙ either (traced_mark (get_or m q 0)) (eqb p q) (under image b q)
      ∙ ap₂ (λ (x y : Bool). ((x && traced_mark (get_or m q 0)) && under image b q) || y) (sym (lt-ltb q n h)) (there (eqb p q) refl)
    where
      there : (t : Bool) → eqb p q ≡ t → (t && under image b q) ≡ (t && under image b p)
      there true e = ap (under image b) (sym (eqb-true p q e))
      there false e = refl

  -- the mask grows by the bytes of the instruction at p
  pub masked_more : (b : ℕ) → masked image m' b ≡ (masked image m b || between p (p + size_here image p) b)
  unfolding masked
  masked_more b =
      some_more (covers image m' b) (covers image m b) (under image b p) p n 0 (λ q h. covers_more b q (omega arith))
      ∙ ap (λ (t : Bool). some (covers image m b) (up_from n 0) || (t && under image b p))
      (ap₂ (λ (x y : Bool). x && y) (le-leb 0 p (omega arith)) (lt-ltb p (0 + n) (let h : p < n = ready.inside in omega arith)))

  -- ---- soundness

  undamaged_after : ((q : ℕ) → q < n → damaged_here image m q ≡ false) → (q : ℕ) → q < n → damaged_here image m' q ≡ false
  unfolding damaged_here
  undamaged_after g = step_good mode image m p room ready g

  pub sound_after : n ≤ 65536 → ((q : ℕ) → q < n → damaged_here image m q ≡ false) → Sound image m'
  sound_after fits g =
      is_sound image m' (sound image m' fits (let e = length_took (tracer_of mode image) m p in omega arith) n (omega arith)
      (left_from_lem image m' n (omega arith) (undamaged_after g)))
