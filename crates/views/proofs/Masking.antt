-- The mask in one pass upward: what is masked from p on lies before where the code so far ends, or under a traced position from p on.
-- Assumes nothing.
use mathlib.Core.Path.{◌≡◌, refl, sym, ap, ◌∙◌}
use mathlib.Core.Bool.{Bool, true, false, cond, ◌&&◌, ◌||◌}
use mathlib.Core.List.{List}
use Prim.Native.Nat.{ℕ, zero, suc, ◌+◌, ◌-◌, ◌<◌, ◌≤◌}
use native.Mathlib.Omega.{arith}
use native.Mathlib.Nat.{zero-add}
use lib.Dec.{ltb, leb}
use lib.ListN.{length, get_or, length-map}
use borrow.Author.Tests.{lt-ltb, le-ltb, ltb-true, ltb-false, le-leb, lt-leb}
use Rattle.targets.specs.At.{size_here}
use Rattle.instruction.proofs.Ands.{not_first, not_second}
use Rattle.views.specs.Positions.{up_from, positions, some, bit, traced_at}
use Rattle.views.proofs.Ors.{or_rest, or_start, or_assoc}
use Rattle.views.proofs.Ups.{up_next, up_start, up_length, up_at}
use Rattle.views.specs.Mask.{under, covers, masked, mask_of, end_with}

-- of two ends the further one decides
further : (b x y : ℕ) → x ≤ y → (ltb b x || ltb b y) ≡ ltb b y
further b x y h = by (ltb b x) refl
  where
    by : (t : Bool) → ltb b x ≡ t → (t || ltb b y) ≡ ltb b y
    by true e = sym (lt-ltb b y (omega (arith, ltb-true b x e)))
    by false e = refl

nearer : (b x y : ℕ) → y ≤ x → (ltb b x || ltb b y) ≡ ltb b x
nearer b x y h = by (ltb b x) refl
  where
    by : (t : Bool) → ltb b x ≡ t → (t || ltb b y) ≡ t
    by true e = refl
    by false e = le-ltb b y (omega (arith, ltb-false b x e))

module _ (image m : List ℕ) where
  abbrev n : ℕ
  n = length image

  -- the instruction at p joined to what ends at e
  joined : (b p e : ℕ) → p ≤ b → (ltb b e || covers image m b p) ≡ ltb b (end_with image m p e)
  joined b p e k = rw (le-leb p b k) (by (traced_at image m p) (ltb e (p + size_here image p)) refl)
    where
      by : (t u : Bool) → ltb e (p + size_here image p) ≡ u → (ltb b e || (t && ltb b (p + size_here image p))) ≡ ltb b (cond (t && u) (p + size_here image p) e)
      by false u f = or_start (ltb b e) false refl
      by true true f = further b e (p + size_here image p) (let g = ltb-true e (p + size_here image p) f in omega arith)
      by true false f = nearer b e (p + size_here image p) (ltb-false e (p + size_here image p) f)

  -- positions after b do not cover it
  later : (b k q : ℕ) → b < q → some (covers image m b) (up_from k q) ≡ false
  unfolding some up_from
  later b zero q h = refl
  later b (suc k) q h =
      or_rest (covers image m b q) _ (not_second (traced_at image m q) (under image b q) (not_first (leb q b) (ltb b (q + size_here image q)) (lt-leb q b h)))
      ∙ later b k (suc q) (omega arith)

  -- what is masked from p on, where the code before p ends at e
  pub Masks : ℕ → ℕ → Type 0
  Masks p e = (b : ℕ) → p ≤ b → masked image m b ≡ (ltb b e || some (covers image m b) (up_from (n - p) p))

  pub masks_start : Masks 0 0
  unfolding Masks masked
  masks_start b h =
      sym (or_rest (ltb b 0) _ (le-ltb b 0 (omega arith)) ∙ ap (some (covers image m b)) (up_start n))

  here : (p e : ℕ) → p < n → Masks p e → (b : ℕ) → p ≤ b
      → masked image m b ≡ (ltb b (end_with image m p e) || some (covers image m b) (up_from (n - (p + 1)) (p + 1)))
  unfolding Masks some
  here p e h M b k =
      M b k ∙ ap (λ (ps : List ℕ). ltb b e || some (covers image m b) ps) (up_next n p h)
      ∙ or_assoc (ltb b e) (covers image m b p) _
      ∙ ap (λ (t : Bool). t || some (covers image m b) (up_from (n - (p + 1)) (p + 1))) (joined b p e k)

  pub masks_next : (p e : ℕ) → p < n → Masks p e → Masks (p + 1) (end_with image m p e)
  unfolding Masks
  masks_next p e h M b k = here p e h M b (omega arith)

  pub masks_here : (p e : ℕ) → p < n → Masks p e → bit (ltb p (end_with image m p e)) ≡ get_or (mask_of image m) p 0
  unfolding mask_of
  masks_here p e h M =
      ap bit (sym (here p e h M p (omega arith)
      ∙ or_start (ltb p (end_with image m p e)) (some (covers image m p) (up_from (n - (p + 1)) (p + 1))) (later p (n - (p + 1)) (p + 1) (omega arith))))
      ∙ sym (up_at (λ (b : ℕ). bit (masked image m b)) n 0 p h ∙ ap (λ (b : ℕ). bit (masked image m b)) (zero-add p))

  pub mask_length : length (mask_of image m) ≡ n
  unfolding mask_of
  mask_length = length-map (positions image) (λ (b : ℕ). bit (masked image m b)) ∙ up_length n 0
