-- The walk as its stops: what is passed over is data, and no data is traced.
-- Assumes nothing.
use mathlib.Core.Path.{◌≡◌, refl, sym, ap, ◌∙◌}
use mathlib.Core.Bool.{Bool, true, false, cond}
use mathlib.Core.List.{List, ◌∷◌, ◌++◌, map}
use Prim.Native.Nat.{ℕ, zero, suc, ◌+◌, ◌-◌, ◌<◌}
use native.Mathlib.Nat.{zero-add}
use native.Mathlib.Omega.{arith}
use lib.Dec.{eqb, ltb, leb}
use lib.ListN.{length, get_or, drop, length-take}
use borrow.Author.Tests.{eqb-true, le-leb, lt-ltb}
use Rattle.instruction.specs.Bytes.{Bytes}
use Rattle.targets.specs.At.{size_here}
use Rattle.instruction.proofs.Ands.{both}
use Rattle.instruction.specs.declared.mode.Mode.{Mode}
use Rattle.targets.proofs.Within.{size_short}
use Rattle.reach.specs.Mark.{traced_mark}
use Rattle.views.specs.Positions.{up_from, kept, bit, traced_at}
use Rattle.views.proofs.TracedAt.{traced_inside}
use Rattle.views.proofs.Ups.{up_at}
use Rattle.views.specs.DataRun.{leading, is_data, run_length, data_run}
use Rattle.views.specs.Mask.{under, covers, masked, mask_of}
use Rattle.views.proofs.DataRuns.{data_inside, by_mask}
use Rattle.views.proofs.Masking.{mask_length}
use Rattle.views_laws.proofs.Somes.{passing}
use Rattle.listing.specs.Walk.{lines_at, passed, walk, listing_of}
use Rattle.listing_laws.specs.ClaimsLines.{joined, stops_from, TracedListed}

-- each of the positions that pass a test one after another passes it
pub leading_each : (f : ℕ → Bool) (k p i : ℕ) → i < leading f (up_from k p) → f (p + i) ≡ true
unfolding leading up_from
leading_each f zero p i h = absurd (omega arith)
leading_each f (suc k) p i h = by (f p) i refl h (leading_each f k (suc p))
  where
    by : (t : Bool) (i : ℕ) → f p ≡ t → i < cond t (suc (leading f (up_from k (suc p)))) 0 → ((j : ℕ) → j < leading f (up_from k (suc p)) → f (suc p + j) ≡ true)
        → f (p + i) ≡ true
    by true zero e g rest = ap f (let d : p + 0 ≡ p = omega arith in d) ∙ e
    by true (suc i) e g rest = ap f (let d : p + suc i ≡ suc p + i = omega arith in d) ∙ rest i (omega arith)
    by false i e g rest = absurd (omega arith)

module _ (mode : Mode) (image m mask labels : List ℕ) (chosen : Bool) where
  walk_stops_lem : (k p s : ℕ) → walk mode image m mask labels chosen k p s ≡ joined (map (lines_at mode image m mask labels chosen) (stops_from image m mask k p s))
  unfolding walk joined stops_from
  walk_stops_lem zero p s = refl
  walk_stops_lem (suc k) p (suc s) = walk_stops_lem k (suc p) s
  walk_stops_lem (suc k) p zero = ap (λ (t : List ℕ). lines_at mode image m mask labels chosen p ++ t) (walk_stops_lem k (suc p) (passed image m mask p))

module _ (image m : List ℕ) (B : Bytes image) where
  abbrev Untraced : ℕ → ℕ → Type 0
  Untraced p s = (i : ℕ) → i < s → traced_at image m (p + i) ≡ false

  -- a traced position is masked
  pub traced_masked : (b : ℕ) → traced_at image m b ≡ true → masked image m b ≡ true
  unfolding masked
  traced_masked b t =
      let h : b < length image = traced_inside image m b t in
      let s : 0 < size_here image b = (size_short image b B).0 in
      passing (covers image m b) (length image) 0 b (omega arith) (omega arith)
      (both (traced_at image m b) (under image b b) t
      (both (leb b b) (ltb b (b + size_here image b)) (le-leb b b (omega arith)) (lt-ltb b (b + size_here image b) (omega arith))))

  pub data_untraced : (b : ℕ) → is_data image (mask_of image m) b ≡ true → traced_at image m b ≡ false
  unfolding mask_of
  data_untraced b e = by (traced_at image m b) refl
    where
      h : b < length image
      h = data_inside image (mask_of image m) b e

      unmasked : bit (masked image m b) ≡ 0
      unmasked =
          sym (up_at (λ (k : ℕ). bit (masked image m k)) (length image) 0 b h ∙ ap (λ (k : ℕ). bit (masked image m k)) (zero-add b))
          ∙ eqb-true _ 0 (by_mask image (mask_of image m) b h (omega (arith, h, mask_length image m)) ∙ e)

      by : (t : Bool) → traced_at image m b ≡ t → traced_at image m b ≡ false
      by true t = absurd (let z : 1 ≡ 0 = sym (ap bit (traced_masked b t)) ∙ unmasked in omega arith)
      by false t = t

  passed_untraced : (p : ℕ) → Untraced (suc p) (passed image m (mask_of image m) p)
  unfolding passed data_run run_length
  passed_untraced p i h = by (traced_mark (get_or m p 0)) (eqb (get_or (mask_of image m) p 0) 0) h
    where
      inside_run : i < length (data_run image (mask_of image m) p) - 1 → suc i < run_length image (mask_of image m) p
      inside_run g = omega (arith, g, length-take (run_length image (mask_of image m) p) (drop p image))

      ahead : suc i < run_length image (mask_of image m) p → traced_at image m (suc p + i) ≡ false
      ahead g =
          ap (traced_at image m) (let d : suc p + i ≡ p + suc i = omega arith in d)
          ∙ data_untraced (p + suc i) (leading_each (is_data image (mask_of image m)) 16 p (suc i) g)

      by : (t b : Bool) → i < cond t 0 (cond b (length (data_run image (mask_of image m) p) - 1) 0) → traced_at image m (suc p + i) ≡ false
      by true b g = absurd (omega arith)
      by false true g = ahead (inside_run g)
      by false false g = absurd (omega arith)

  stops_traced : (k p s : ℕ) → Untraced p s → kept (traced_at image m) (stops_from image m (mask_of image m) k p s) ≡ kept (traced_at image m) (up_from k p)
  unfolding kept stops_from up_from
  stops_traced zero p s u = refl
  stops_traced (suc k) p (suc s) u =
      stops_traced k (suc p) s (λ i h. ap (traced_at image m) (let d : suc p + i ≡ p + suc i = omega arith in d) ∙ u (suc i) (omega arith))
      ∙ rw (ap (traced_at image m) (let d : p ≡ p + 0 = omega arith in d) ∙ u 0 (omega arith))
  stops_traced (suc k) p zero u =
      ap (λ (l : List ℕ). cond (traced_at image m p) (p ∷ l) l) (stops_traced k (suc p) (passed image m (mask_of image m) p) (passed_untraced p))

pub traced_listed : TracedListed
unfolding listing_of
traced_listed mode image m choice B =
    record { text = walk_stops_lem mode image m _ _ _ (length image) 0 0; traced = stops_traced image m B (length image) 0 0 (λ i h. absurd (omega arith)) }
