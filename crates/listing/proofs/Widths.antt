-- Each stop of the walk prints at most 60 bytes, and with arrivals those of one line more: 7 and 5 for each of those that arrive, who are
-- at most two for each position of the image, all stops taken together.
-- Assumes nothing.
use mathlib.Core.Path.{◌≡◌, refl, ap, ◌∙◌}
use mathlib.Core.Bool.{Bool, true, false, cond, ◌&&◌}
use mathlib.Core.List.{List, [], ◌∷◌, ◌++◌, map}
use Prim.Native.Nat.{ℕ, zero, suc, ◌+◌, ◌*◌, ◌-◌, ◌≤◌}
use Prim.Native.Char.{code}
use native.Mathlib.Omega.{arith}
use lib.Dec.{eqb, ltb, leb}
use lib.ListN.{length, get_or, drop, length-append, length-take}
use Rattle.std.specs.Prelude.{Result, Ok, Err}
use Rattle.instruction.specs.Parts.{parts_of}
use Rattle.instruction.specs.declared.instr.Instr.{Instr}
use Rattle.instruction.specs.declared.mode.Mode.{Mode}
use Rattle.targets.specs.At.{form_here, size_here}
use Rattle.targets.specs.Here.{here_of}
use Rattle.targets.specs.Targets.{next_of}
use Rattle.targets.specs.declared.not_whole.NotWhole.{NotWhole}
use Rattle.targets.specs.declared.not_whole.NotWhole.TheVariants.{Cut, Outside}
use Rattle.targets.proofs.WaysAre.{whole_inside, here_whole}
use Rattle.targets.proofs.Within.{Small, form_here_lem, form_is, size_short}
use Rattle.reach.specs.Mark.{traced_mark}
use Rattle.views.specs.Positions.{up_from, kept, traced_at}
use Rattle.views.proofs.Kept.{kept_few}
use Rattle.views.specs.Labels.{labels_of}
use Rattle.views.specs.Mask.{mask_of}
use Rattle.views.specs.DataRun.{leading, is_data, run_length, data_run}
use Rattle.arrivals.specs.Arrivals.{arrivals_of}
use Rattle.views.specs.Overlaps.{from_before, overlaps_of}
use Rattle.arrivals.proofs.Counting.{total, total_same, arrivals_few}
use Rattle.listing.specs.Hex.{hex4, hexes}
use Rattle.listing.specs.Line.{fields_text}
use Rattle.listing.specs.Lines.{label_line, found_line, overlap_line, arrival_line, instr_text, here_line, code_by, code_line, data_line, all_zero}
use Rattle.listing.specs.Lent.{text_of}
use Rattle.listing.specs.Walk.{code_lines, lines_at, passed, walk}
use Rattle.listing.proofs.Hexing.{hex4_length, hexes_length}
use Rattle.listing.proofs.Lining.{label_length}
use Rattle.listing.proofs.LineWidths.{instr_width}

-- positions as fields, and the end of the line
places_width : (qs : List ℕ) → length (fields_text (map hex4 qs)) ≤ 5 * length qs + 1
unfolding fields_text
places_width [] = omega arith
places_width (q ∷ qs) = omega (arith, hex4_length q, places_width qs, length-append (hex4 q) (fields_text (map hex4 qs)))

found_width : (letter p : ℕ) (qs : List ℕ) → length (found_line letter p qs) ≤ 5 * length qs + 7
unfolding fields_text
found_width letter p [] = omega arith
found_width letter p (q ∷ qs) = omega (arith, hex4_length p, places_width (q ∷ qs), length-append (hex4 p) (fields_text (map hex4 (q ∷ qs))))

-- lines of 7 bytes and 5 for each position found
total_line_lem : (f : ℕ → ℕ) (k p : ℕ) → total (λ (x : ℕ). 7 + 5 * f x) k p ≡ 7 * k + 5 * total f k p
unfolding total
total_line_lem f zero p = omega arith
total_line_lem f (suc k) p = omega (arith, total_line_lem f k (suc p))

-- positions that pass a test one after another are no more than there are
pub leading_few : (f : ℕ → Bool) (k p : ℕ) → leading f (up_from k p) ≤ k
unfolding leading up_from
leading_few f zero p = omega arith
leading_few f (suc k) p = by (f p) (leading_few f k (suc p))
  where
    by : (t : Bool) → leading f (up_from k (suc p)) ≤ k → cond t (suc (leading f (up_from k (suc p)))) 0 ≤ suc k
    by true h = omega arith
    by false h = omega arith

module _ (image m : List ℕ) (B : Small image) where
  pub overlaps_few : (p : ℕ) → length (overlaps_of image m p) ≤ 3
  unfolding overlaps_of
  overlaps_few p = by (leb (length image) 65536 && traced_at image m p) (from_before image m p) (kept_few (traced_at image m) (size_here image p - 1) (p + 1))
    where
      ahead : List ℕ
      ahead = kept (traced_at image m) (up_from (size_here image p - 1) (p + 1))

      by : (t b : Bool) → length ahead ≤ size_here image p - 1 → length (cond t (cond b ((p - 1) ∷ []) [] ++ ahead) []) ≤ 3
      by true true h = omega (arith, (size_short image p B).1)
      by true false h = omega (arith, (size_short image p B).1)
      by false b h = omega arith

module _ (mode : Mode) (image m : List ℕ) (B : Small image) where
  -- what stands at q, shown at any place
  whole_width : (q : ℕ) (i : Instr) → Ok i ≡ here_of image q → (p : ℕ) (all : List ℕ) → length (instr_text mode p i all) ≤ 31
  whole_width q i e p all =
      let w = here_whole image q (whole_inside image q i e) i e in
      let f : (parts_of i).form ≡ form_here image q = ap (λ j. (parts_of j).form) w.1 ∙ form_is image q B in
      instr_width mode p i all (omega (arith, f, form_here_lem image q B))

  here_width : (p : ℕ) → length (here_line mode image p (here_of image p)) ≤ 31
  here_width p = by (here_of image p) refl
    where
      by : (h : Result Instr NotWhole) → h ≡ here_of image p → length (here_line mode image p h) ≤ 31
      by (Ok i) e = whole_width p i e p (drop p image)
      by (Err (Cut c)) e = omega arith
      by (Err Outside) e = omega arith

  -- bytes by themselves
  pub alone_width : (p : ℕ) → length (code_line mode p image) ≤ 31
  unfolding code_line
  alone_width p = by (here_of image 0) refl
    where
      past : (b : Bool) (i : Instr) → Ok i ≡ here_of image 0 → length (cond b [] (instr_text mode p i image)) ≤ 31
      past true i e = omega arith
      past false i e = whole_width 0 i e p image

      by : (h : Result Instr NotWhole) → h ≡ here_of image 0 → length (code_by mode p image h) ≤ 31
      by (Ok i) e = past (ltb 65536 (next_of p i)) i e
      by (Err (Cut c)) e = omega arith
      by (Err Outside) e = omega arith

  run_short : (mask : List ℕ) (p : ℕ) → length (data_run image mask p) ≤ 16
  unfolding data_run run_length
  run_short mask p = omega (arith, length-take (leading (is_data image mask) (up_from 16 p)) (drop p image), leading_few (is_data image mask) 16 p)

  data_width : (p : ℕ) (bytes : List ℕ) → length bytes ≤ 16 → length (data_line p bytes) ≤ 60
  unfolding data_line fields_text
  data_width p bytes h = by (all_zero bytes)
    where
      by : (t : Bool) → length (cond t [] (code "D" ∷ 9 ∷ hex4 p ++ (9 ∷ hexes bytes ++ (10 ∷ [])))) ≤ 60
      by true = omega arith
      by false = omega (arith, hex4_length p, hexes_length bytes, length-append (hex4 p) (9 ∷ hexes bytes ++ (10 ∷ [])), length-append (hexes bytes) (10 ∷ []))

  -- the line of arrivals
  abbrev arrived : Bool → ℕ → List ℕ
  arrived chosen p = cond chosen (arrival_line p (arrivals_of mode image m p)) []

  -- 7 bytes, and 5 for each of those that arrive
  abbrev arrived_most : ℕ → ℕ
  arrived_most p = 7 + 5 * length (arrivals_of mode image m p)

  arrived_width : (p : ℕ) → length (arrived true p) ≤ arrived_most p
  unfolding arrival_line
  arrived_width p = omega (arith, found_width (code "A") p (arrivals_of mode image m p))

  -- where it has at most w p bytes
  module _ (chosen : Bool) (w : ℕ → ℕ) (most : (p : ℕ) → length (arrived chosen p) ≤ w p) (mask labels : List ℕ) where
    code_width : (p : ℕ) → length (code_lines mode image m labels chosen p) ≤ 60 + w p
    unfolding code_lines overlap_line
    code_width p =
        let l = cond (eqb (get_or labels p 0) 0) [] (label_line p) in
        let o = overlap_line p (overlaps_of image m p) in
        let h = here_line mode image p (here_of image p) in
        omega (
          arith,
          label_length (get_or labels p 0) p,
          found_width (code "O") p (overlaps_of image m p),
          overlaps_few image m B p,
          most p,
          here_width p,
          length-append l (o ++ (arrived chosen p ++ h)),
          length-append o (arrived chosen p ++ h),
          length-append (arrived chosen p) h,
        )

    printed_width : (p : ℕ) → length (lines_at mode image m mask labels chosen p) ≤ 60 + w p
    unfolding lines_at
    printed_width p = by (traced_mark (get_or m p 0)) (eqb (get_or mask p 0) 0)
      where
        by : (t b : Bool) → length (cond t (code_lines mode image m labels chosen p) (cond b (data_line p (data_run image mask p)) [])) ≤ 60 + w p
        by true b = code_width p
        by false true = omega (arith, data_width p (data_run image mask p) (run_short mask p))
        by false false = omega arith

    walk_width : (k p s : ℕ) → length (walk mode image m mask labels chosen k p s) ≤ 60 * k + total w k p
    unfolding walk total
    walk_width zero p s = omega arith
    walk_width (suc k) p (suc s) = omega (arith, walk_width k (suc p) s)
    walk_width (suc k) p zero =
        let rest = walk mode image m mask labels chosen k (suc p) (passed image m mask p) in
        omega (arith, printed_width p, walk_width k (suc p) (passed image m mask p), length-append (lines_at mode image m mask labels chosen p) rest)

  pub all_width : (mask labels : List ℕ) (chosen : Bool) → length (walk mode image m mask labels chosen (length image) 0 0) ≤ cond chosen 77 60 * length image
  all_width mask labels true =
      let f : ℕ → ℕ = λ (p : ℕ). length (arrivals_of mode image m p) in
      omega (
        arith,
        walk_width true arrived_most arrived_width mask labels (length image) 0 0,
        total_line_lem f (length image) 0,
        arrivals_few mode image m (length image) 0,
      )
  all_width mask labels false =
      omega (arith, walk_width false (λ (p : ℕ). 0) (λ p. omega arith) mask labels (length image) 0 0, total_same 0 (length image) 0)

  pub text_width : (chosen : Bool) → length (text_of mode image m chosen) ≤ cond chosen 77 60 * length image
  unfolding text_of
  text_width chosen = all_width (mask_of image m) (labels_of mode image m) chosen
