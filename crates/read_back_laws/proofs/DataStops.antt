-- An untraced position, read: an unmasked one begins a data run, which is stored or all zero; a masked one prints nothing.
-- Assumes nothing.
use mathlib.Core.Path.{◌≡◌, refl, sym, ap, ◌∙◌}
use mathlib.Core.Bool.{Bool, true, false, cond}
use mathlib.Core.List.{List, [], ◌∷◌, ◌++◌}
use Prim.Native.Nat.{ℕ, suc, ◌+◌, ◌-◌, ◌<◌, ◌≤◌}
use Prim.Native.Char.{code}
use native.Mathlib.Omega.{arith}
use lib.Dec.{eqb, lit≤}
use lib.ListN.{length, get_or}
use borrow.Author.Tests.{eqb-true, eqb-false}
use Rattle.instruction.specs.Bytes.{Bytes}
use Rattle.instruction.proofs.Sign.{never}
use Rattle.text.specs.Cut.{lines}
use Rattle.instruction.proofs.Ands.{first_part, second_part}
use Rattle.instruction.specs.declared.mode.Mode.{Mode}
use Rattle.reach.specs.Mark.{traced_mark}
use Rattle.views.specs.Positions.{traced_at}
use Rattle.views.proofs.TracedAt.{by_mark}
use Rattle.views.specs.DataRun.{data_run}
use Rattle.views.specs.Mask.{mask_of}
use Rattle.listing.specs.Hex.{hex4, hexes}
use Rattle.listing.specs.Line.{line}
use Rattle.listing.specs.Lines.{all_zero, data_line}
use Rattle.read_back.specs.Sheet.{Sheet}
use Rattle.read_back.specs.declared.place.Place.{Place}
use Rattle.read_back_laws.proofs.Cells.{Part, Cell, empty, full, Right, Sound, part_small, part_inside, part_agrees, Lays, lays}
use Rattle.read_back_laws.proofs.CodeStops.{Given}
use Rattle.read_back_laws.proofs.Fields.{four_above, bytes_above, cuts_line}
use Rattle.read_back_laws.proofs.Masked.{covered}
use Rattle.read_back_laws.proofs.Places.{open_past}
use Rattle.read_back_laws.proofs.Runs.{Run, run_of}
use Rattle.read_back_laws.proofs.Saying.{body, said_data}
use Rattle.read_back_laws.proofs.Stand.{Stand, stand_next}
use Rattle.read_back_laws.proofs.Steps.{wrote, OpenAt, read_line}
use Rattle.read_back_laws.proofs.Tells.{told_untouched}

-- a cell of a byte 0 is right as it is
cell_zero : {c b : ℕ} → Cell c b → b ≡ 0 → c - 1 ≡ b
cell_zero (empty e) z = omega arith
cell_zero (full e) z = omega arith

-- where bytes are all zero, nothing is to be stored
zeros_right : (image cells : List ℕ) → Sound image cells → (bs : List ℕ) (p : ℕ) → Part image p bs → all_zero bs ≡ true → (q : ℕ) → p ≤ q → q < p + length bs
    → Right image cells q
zeros_right image cells S [] p P z q h k = absurd (omega arith)
zeros_right image cells S (b ∷ bs) p P z q h k = by (eqb q p) refl (zeros_right image cells S bs (suc p) P.1 (second_part (eqb b 0) (all_zero bs) z) q)
  where
    by : (t : Bool) → eqb q p ≡ t → (suc p ≤ q → q < suc p + length bs → Right image cells q) → Right image cells q
    by true f rest =
        let d : q ≡ p = eqb-true q p f in
        let y : b ≡ 0 = eqb-true b 0 (first_part (eqb b 0) (all_zero bs) z) in
        cell_zero (S.each q) (ap (λ (j : ℕ). get_or image j 0) d ∙ sym P.0 ∙ y)
    by false f rest = let d : q ≡ p → ⊥ = eqb-false q p f in rest (omega arith) (omega arith)

module _ (mode : Mode) (image m : List ℕ) (B : Bytes image) (small : length image ≤ 65536) (long : length image ≤ length m) where
  module _ (p : ℕ) (h : p < length image) (u : traced_mark (get_or m p 0) ≡ false) (place : Place) (sheet : Sheet) (rest : List ℕ) (S : Stand image m p 0 sheet)
      (O : OpenAt p 0 place) where
    untraced : traced_at image m p ≡ false
    untraced = sym (by_mark image m p h) ∙ u

    -- from here on, with s positions passed over
    abbrev On : ℕ → Type 0
    On s = (after : Place) (next : Sheet) → OpenAt (suc p) 0 after → Stand image m (suc p) s next → Given mode image m after next rest

    -- bytes from p on are right, stored or not
    on : (s k : ℕ) (next : Sheet) → Lays image sheet.cells next.cells p k → next.marks ≡ sheet.marks → s < k
        → ((i : ℕ) → i < s → traced_at image m (suc p + i) ≡ false) → Stand image m (suc p) s next
    on s k next L e j f =
        stand_next image m p s k sheet next S L j (λ t. absurd (never (sym t ∙ untraced))) (e ∙ S.tells ∙ told_untouched (length image) m long p h u) f

    pub nothing_stop : eqb (get_or (mask_of image m) p 0) 0 ≡ false → On 0 → Given mode image m place sheet rest
    nothing_stop e go =
        let C = covered image m p h e untraced in
        let r : Right image sheet.cells p = S.under C.at p C.is_traced C.less (omega (arith, C.less)) C.ends in
        go place sheet (open_past (omega arith) O)
        (on 0 1 sheet (record { sound = S.sound; keeps = λ q r. r; fills = λ q i j. let d : q ≡ p = omega arith in rw d r }) refl (omega arith)
        (λ i j. absurd (omega arith)))

    pub data_stop : eqb (get_or (mask_of image m) p 0) 0 ≡ true → On (length (data_run image (mask_of image m) p) - 1)
        → Given mode image m place sheet (data_line p (data_run image (mask_of image m) p) ++ rest)
    unfolding data_line
    data_stop e go = by (all_zero run) refl
      where
        run : List ℕ
        run = data_run image (mask_of image m) p

        R : Run image m p
        R = run_of image m p B h e

        -- after the run, stored or not
        stands : (next : Sheet) → Lays image sheet.cells next.cells p (length run) → next.marks ≡ sheet.marks
            → Stand image m (suc p) (length run - 1) next
        stands next L f =
            on (length run - 1) (length run) next L f (omega (arith, R.least))
            (λ i j. ap (traced_at image m) (let d : suc p + i ≡ p + suc i = omega arith in d) ∙ R.free (suc i) (omega arith))

        by : (z : Bool) → all_zero run ≡ z → Given mode image m place sheet (cond z [] (line (code "D") (hex4 p ∷ hexes run ∷ [])) ++ rest)
        by true z =
            go place sheet (open_past (omega arith) O)
            (stands sheet (record { sound = S.sound; keeps = λ q r. r; fills = zeros_right image sheet.cells S.sound run p R.from z }) refl)
        by false z =
            rw (cuts_line rest (code "D") (hex4 p ∷ hexes run ∷ []) refl (rw (four_above p, bytes_above run)))
            (read_line mode image _ place sheet (body (code "D") p (hexes run ∷ [])) (lines rest) (code "D") p 0 run
            (said_data mode p run (omega arith) (part_small image B run p R.from) R.least R.most) O
            (lit≤ tt) (λ i. absurd (omega arith)) (part_agrees image run p sheet.cells S.sound R.from) (part_inside image run p R.inside)
            (λ after O. go after (wrote sheet (code "D") p run) (open_past (omega arith) O)
            (stands (wrote sheet (code "D") p run) (lays image run p sheet.cells S.sound R.from R.inside) refl)))
