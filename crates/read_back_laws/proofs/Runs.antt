-- The data run at an unmasked position: 1 to 16 bytes of the image, none of them traced.
-- Assumes nothing.
use mathlib.Core.Path.{◌≡◌, sym, ◌∙◌}
use mathlib.Core.Bool.{Bool, true, false}
use mathlib.Core.List.{List}
use Prim.Native.Nat.{ℕ, suc, ◌+◌, ◌-◌, ◌<◌, ◌≤◌}
use native.Mathlib.Omega.{arith}
use lib.Dec.{eqb}
use lib.ListN.{length, get_or, drop, length-drop}
use lib.Seq.{length-take-le}
use Rattle.instruction.specs.Bytes.{Bytes}
use Rattle.views.specs.Positions.{up_from, traced_at}
use Rattle.views.specs.DataRun.{leading, is_data, run_length, data_run}
use Rattle.views.specs.Mask.{mask_of}
use Rattle.views.proofs.DataRuns.{by_mask, data_inside}
use Rattle.views.proofs.Masking.{mask_length}
use Rattle.listing.proofs.Widths.{leading_few}
use Rattle.listing_laws.proofs.ClaimsLinesListed.{leading_each, data_untraced}
use Rattle.read_back_laws.proofs.Cells.{Part, part_of}

leading_least : (f : ℕ → Bool) (k p : ℕ) → f p ≡ true → 1 ≤ leading f (up_from (suc k) p)
unfolding leading up_from
leading_least f k p e = rw e (omega arith)

module _ (image m : List ℕ) (p : ℕ) where
  abbrev run : List ℕ
  run = data_run image (mask_of image m) p

  pub record Run : Type 0 where
    pub least : 1 ≤ length run
    pub most : length run ≤ 16
    pub inside : p + length run ≤ length image
    pub from : Part image p run
    pub free : (i : ℕ) → i < length run → traced_at image m (p + i) ≡ false

  pub run_of : Bytes image → p < length image → eqb (get_or (mask_of image m) p 0) 0 ≡ true → Run
  unfolding data_run run_length
  run_of B h e = record {
    least = omega (arith, least, size);
    most = omega (arith, leading_few is_one 16 p, size);
    inside = omega (arith, inside, size);
    from = part_of image count p inside;
    free = λ i j. data_untraced image m B (p + i) (leading_each is_one 16 p i (omega (arith, j, size)));
  }
    where
      is_one : ℕ → Bool
      is_one = is_data image (mask_of image m)

      count : ℕ
      count = leading is_one (up_from 16 p)

      least : 1 ≤ count
      least = leading_least is_one 15 p (sym (by_mask image (mask_of image m) p h (omega (arith, h, mask_length image m))) ∙ e)

      inside : p + count ≤ length image
      inside = let g : p + (count - 1) < length image =
          data_inside image (mask_of image m) (p + (count - 1)) (leading_each is_one 16 p (count - 1) (omega (arith, least))) in omega (arith, g, least)

      size : length run ≡ count
      size = length-take-le count (drop p image) (omega (arith, inside, length-drop p image))
