-- The walk one position after another: what is printed at each, how far it goes, and what is left.
-- Assumes nothing.
use mathlib.Core.Path.{◌≡◌, refl, ap, sym, ◌∙◌}
use mathlib.Core.Bool.{Bool, true, false, cond}
use mathlib.Core.List.{List, [], ◌++◌}
use Prim.Native.Nat.{ℕ, zero, suc, ◌+◌, ◌-◌, ◌<◌, ◌≤◌}
use native.Mathlib.Nat.{add-zero, zero-add, add-suc, suc-add}
use native.Mathlib.Omega.{arith}
use borrow.Author.Tests.{eqb-true}
use lib.Dec.{eqb}
use lib.ListN.{length, get_or, take, drop, length-take, length-drop}
use lib.Seq.{length-take-le}
use Rattle.instruction.specs.declared.mode.Mode.{Mode}
use Rattle.reach.specs.Mark.{traced_mark}
use Rattle.views.specs.Positions.{up_from}
use Rattle.views.specs.DataRun.{is_data, leading, run_length, data_run}
use Rattle.views.specs.Mask.{mask_of}
use Rattle.views.proofs.DataRuns.{data_inside, leading_in}
use Rattle.views.specs.Labels.{labels_of}
use Rattle.listing.specs.Lent.{run_at, text_of}
use Rattle.listing.specs.Lines.{data_line}
use Rattle.listing.specs.Walk.{code_lines, lines_at, passed, walk}

-- ---- what is printed at p, and how far it goes

module _ (mode : Mode) (image m labels : List ℕ) (chosen : Bool) (p : ℕ) where
  pub print_code : traced_mark (get_or m p 0) ≡ true → code_lines mode image m labels chosen p ≡ lines_at mode image m (mask_of image m) labels chosen p
  unfolding lines_at
  print_code e = rw e

  -- an empty run prints nothing
  pub print_run : traced_mark (get_or m p 0) ≡ false → (run : List ℕ) → run ≡ run_at image m p
      → data_line p run ≡ lines_at mode image m (mask_of image m) labels chosen p
  unfolding lines_at data_line
  print_run e run g = rw (e, g) (by (eqb (get_or (mask_of image m) p 0) 0))
    where
      by : (b : Bool) → data_line p (cond b (data_run image (mask_of image m) p) []) ≡ cond b (data_line p (data_run image (mask_of image m) p)) []
      by true = refl
      by false = refl

-- the run of a traced position is empty, since that is masked
pub step_run : (image m : List ℕ) (p : ℕ) → (traced_mark (get_or m p 0) ≡ true → get_or (mask_of image m) p 0 ≡ 1) → (run : List ℕ) → run ≡ run_at image m p
    → 1 + (length run - 1) ≡ 1 + passed image m (mask_of image m) p
unfolding passed
step_run image m p h run g =
    ap (λ (l : List ℕ). 1 + (length l - 1)) g ∙ by (traced_mark (get_or m p 0)) refl (eqb (get_or (mask_of image m) p 0) 0) refl
  where
    r : List ℕ
    r = data_run image (mask_of image m) p

    by : (t : Bool) → traced_mark (get_or m p 0) ≡ t → (b : Bool) → eqb (get_or (mask_of image m) p 0) 0 ≡ b
        → 1 + (length (cond b r []) - 1) ≡ 1 + cond t 0 (cond b (length r - 1) 0)
    by true e true f = absurd (omega (arith, h e, eqb-true (get_or (mask_of image m) p 0) 0 f))
    by true e false f = refl
    by false e true f = refl
    by false e false f = refl

module _ (image mask : List ℕ) (p : ℕ) where
  pub run_fits : p ≤ length image → p + length (data_run image mask p) ≤ length image
  unfolding data_run run_length
  run_fits h =
      let k : ℕ = leading (is_data image mask) (up_from 16 p) in
      let l : p + k ≤ length image = leading_in (is_data image mask) (length image) (λ b e. data_inside image mask b e) 16 p h in
      let e : length (take k (drop p image)) ≡ k = length-take-le k (drop p image) (omega (arith, length-drop p image)) in
      omega arith

-- a run is no longer than the image
pub run_length_lem : (image m : List ℕ) (p : ℕ) → length image ≤ 65536 → (run : List ℕ) → run ≡ run_at image m p → length run ≤ 65536
unfolding data_run
run_length_lem image m p h run e = omega (arith, ap length e, by (eqb (get_or mask p 0) 0))
  where
    mask : List ℕ
    mask = mask_of image m

    by : (b : Bool) → length (cond b (data_run image mask p) []) ≤ 65536
    by true = omega (arith, length-take (run_length image mask p) (drop p image), length-drop p image)
    by false = omega arith

-- a step stays within the image
pub step_fits : (image m mask : List ℕ) (p : ℕ) → p < length image → p + (1 + passed image m mask p) ≤ length image
unfolding passed
step_fits image m mask p h = by (traced_mark (get_or m p 0)) (eqb (get_or mask p 0) 0) (run_fits image mask p (omega arith))
  where
    by : (t b : Bool) → p + length (data_run image mask p) ≤ length image → p + (1 + cond t 0 (cond b (length (data_run image mask p) - 1) 0)) ≤ length image
    by true b g = omega arith
    by false true g = omega arith
    by false false g = omega arith

-- ---- what is left

module _ (mode : Mode) (image m mask labels : List ℕ) (chosen : Bool) where
  abbrev from : ℕ → ℕ → ℕ → List ℕ
  from k p s = walk mode image m mask labels chosen k p s

  -- passing over s positions is the walk from s further on
  walk_pass : (s k p : ℕ) → from (s + k) p s ≡ from k (p + s) 0
  unfolding walk
  walk_pass zero k p = rw (zero-add, add-zero)
  walk_pass (suc s) k p =
      ap (λ (n : ℕ). from n p (suc s)) (suc-add s k) ∙ walk_pass s k (suc p) ∙ ap (λ (n : ℕ). from k n 0) (suc-add p s ∙ sym (add-suc p s))

  walk_step : (k p : ℕ) → from (suc k) p 0 ≡ lines_at mode image m mask labels chosen p ++ from k (suc p) (passed image m mask p)
  unfolding walk
  walk_step k p = refl

  -- the walk that is left at p
  abbrev pub left_at : ℕ → List ℕ
  left_at p = from (length image - p) p 0

  pub left_next : (p s : ℕ) → p < length image → s ≡ 1 + passed image m mask p → left_at p ≡ lines_at mode image m mask labels chosen p ++ left_at (p + s)
  left_next p s h e =
      let j : ℕ = passed image m mask p in
      let k : ℕ = length image - (p + s) in
      let fits : p + (1 + j) ≤ length image = step_fits image m mask p h in
      let q : length image - p ≡ suc (j + k) = omega (arith, fits, e) in
      let r : suc p + j ≡ p + s = omega (arith, e) in
      ap (λ (n : ℕ). from n p 0) q
      ∙ walk_step (j + k) p
      ∙ ap (λ (l : List ℕ). lines_at mode image m mask labels chosen p ++ l) (walk_pass j k (suc p) ∙ ap (λ (n : ℕ). from k n 0) r)

  pub left_end : (p : ℕ) → length image ≤ p → left_at p ≡ []
  unfolding walk
  left_end p h = let e : length image - p ≡ 0 = omega arith in ap (λ (n : ℕ). from n p 0) e

-- at the start it is the listing
pub left_text : (mode : Mode) (image m : List ℕ) (chosen : Bool) → left_at mode image m (mask_of image m) (labels_of mode image m) chosen 0
    ≡ text_of mode image m chosen
unfolding text_of
left_text mode image m chosen =
    let e : length image - 0 ≡ length image = omega arith in
    ap (λ (n : ℕ). walk mode image m (mask_of image m) (labels_of mode image m) chosen n 0 0) e
