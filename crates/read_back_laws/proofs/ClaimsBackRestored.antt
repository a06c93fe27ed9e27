-- The listing, read back along the walk that printed it.
-- Assumes nothing.
use mathlib.Core.Path.{◌≡◌, refl, sym, ◌∙◌}
use mathlib.Core.Bool.{Bool, true, false, cond}
use mathlib.Core.List.{List, [], ◌++◌, map}
use Prim.Native.Nat.{ℕ, zero, suc, ◌+◌, ◌-◌, ◌<◌, ◌≤◌}
use native.Mathlib.Omega.{arith}
use lib.Dec.{eqb}
use lib.ListN.{length, get_or, take}
use borrow.Author.Tests.{le-ltb}
use Rattle.instruction.specs.Bytes.{Bytes}
use Rattle.instruction.specs.Answer.{accepted, laid}
use Rattle.instruction.proofs.Judging.{pass}
use Rattle.instruction.specs.declared.mode.Mode.{Mode}
use Rattle.text.specs.Cut.{cut, lines}
use Rattle.targets.specs.At.{fits_here}
use Rattle.targets.proofs.HereIs.{answer}
use Rattle.reach.specs.Mark.{traced_mark}
use Rattle.views.specs.Positions.{traced_at}
use Rattle.views.proofs.TracedAt.{by_mark}
use Rattle.views.specs.DataRun.{data_run}
use Rattle.views.specs.Labels.{labels_of}
use Rattle.views.specs.Mask.{mask_of}
use Rattle.views_laws.specs.ClaimsSound.{Undamaged}
use Rattle.listing.specs.Walk.{is_chosen, code_lines, lines_at, passed, walk, listing_of}
use Rattle.listing.specs.Lines.{data_line}
use Rattle.listing_laws.proofs.ClaimsShownTraced.{traced_shown}
use Rattle.read_back.specs.Back.{back_answer, back_image, back_marks}
use Rattle.read_back.specs.Order.{start}
use Rattle.read_back.specs.Sheet.{Sheet, empty_sheet}
use Rattle.read_back.specs.declared.place.Place.{Place}
use Rattle.read_back_laws.specs.ClaimsBack.{told, ListingRestores}
use Rattle.read_back_laws.proofs.CodeStops.{Given, code_stop}
use Rattle.read_back_laws.proofs.DataStops.{nothing_stop, data_stop}
use Rattle.read_back_laws.proofs.Places.{none, open_past}
use Rattle.read_back_laws.proofs.Stand.{Stand, stand_start, stand_end, stand_over}
use Rattle.read_back_laws.proofs.Steps.{OpenAt, Restores, read_end}

module _ (mode : Mode) (image m : List ℕ) (B : Bytes image) (small : length image ≤ 65536) (long : length image ≤ length m) (U : Undamaged image m)
    (labels : List ℕ) (chosen : Bool) where
  abbrev from : ℕ → ℕ → ℕ → List ℕ
  from k p s = walk mode image m (mask_of image m) labels chosen k p s

  -- what is left of the walk is read
  abbrev Reads : ℕ → ℕ → ℕ → Type 0
  Reads k p s = (place : Place) (sheet : Sheet) → OpenAt p 0 place → Stand image m p s sheet → Given mode image m place sheet (from k p s)

  stop : (k p : ℕ) → p < length image → Reads k (suc p) (passed image m (mask_of image m) p) → Reads (suc k) p 0
  unfolding walk lines_at passed
  stop k p h go place sheet O S = by (traced_mark (get_or m p 0)) (eqb (get_or (mask_of image m) p 0) 0) refl refl go
    where
      run : List ℕ
      run = data_run image (mask_of image m) p

      fits : traced_at image m p ≡ true → fits_here image p ≡ true
      fits t = is (fits_here image p) refl
        where
          is : (b : Bool) → fits_here image p ≡ b → fits_here image p ≡ true
          is true f = f
          is false f =
              let d = (traced_shown mode image m B small U p t).decoded in
              let e = answer image p h false f in
              absurd (let z : ◌≡◌ {A = ℕ} 0 1 = cc in omega arith)

      by : (t b : Bool) → traced_mark (get_or m p 0) ≡ t → eqb (get_or (mask_of image m) p 0) 0 ≡ b → Reads k (suc p) (cond t 0 (cond b (length run - 1) 0))
          → Given mode image m place sheet
          (cond t (code_lines mode image m labels chosen p) (cond b (data_line p run) []) ++ from k (suc p) (cond t 0 (cond b (length run - 1) 0)))
      by true b e f go = let t : traced_at image m p ≡ true = sym (by_mark image m p h) ∙ e in
          code_stop mode image m B small long p t (fits t) labels chosen place sheet (from k (suc p) 0) S O go
      by false true e f go = data_stop mode image m B small long p h e place sheet (from k (suc p) (length run - 1)) S O f go
      by false false e f go = nothing_stop mode image m B small long p h e place sheet (from k (suc p) 0) S O f go

  reads : (k p s : ℕ) → p + k ≡ length image → Reads k p s
  unfolding walk cut
  reads zero p s e place sheet O S = let E = stand_end image m p s sheet (omega arith) S in read_end mode image _ place sheet E.0 E.1
  reads (suc k) p (suc s) e place sheet O S =
      reads k (suc p) s (omega arith) place sheet (open_past (omega arith) O) (stand_over image m p s sheet long (omega arith) S)
  reads (suc k) p zero e place sheet O S = stop k p (omega arith) (reads k (suc p) (passed image m (mask_of image m) p) (omega arith)) place sheet O S

-- lines that are read so from the beginning are what is given back
module _ (mode : Mode) (text image tells room marks : List ℕ) (R : Restores mode image tells start (empty_sheet (length image)) (lines text))
    (small : length image ≤ 65536) (k : length image ≤ length room) (l : length image ≤ length marks) where
  answers : back_answer mode text (length image) room marks ≡ accepted (length (lines text))
  unfolding back_answer
  answers =
      pass _ _ _ (le-ltb 65536 (length image) small) ∙ pass _ _ _ (le-ltb (length marks) (length image) l) ∙ pass _ _ _ (le-ltb (length room) (length image) k)
      ∙ R.accepts (length (lines text))

  restores_bytes : back_image mode text (length image) room marks ≡ laid image room
  unfolding back_image
  restores_bytes = rw (answers, R.bytes)

  restores_marks : back_marks mode text (length image) room marks ≡ laid tells marks
  unfolding back_marks
  restores_marks = rw (answers, R.tells)

pub listing_restores : ListingRestores
unfolding listing_of
listing_restores mode image m choice room marks B small long U k l =
    let R = reads mode image m B small long U (labels_of mode image m) (is_chosen choice) (length image) 0 0 (omega arith) start (empty_sheet (length image))
    (none refl) (stand_start image m) in
    let text : List ℕ = listing_of mode image m choice in
    let tells : List ℕ = map told (take (length image) m) in
    record {
      answer = answers mode text image tells room marks R small k l;
      bytes = restores_bytes mode text image tells room marks R small k l;
      tells = restores_marks mode text image tells room marks R small k l;
    }
