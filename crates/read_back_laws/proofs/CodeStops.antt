-- The lines of a traced position, read: `L`, `O` and `A` where they are printed, then `I`, which stores its bytes and its mark.
-- Assumes nothing.
use mathlib.Core.Path.{◌≡◌, refl, ap, ◌∙◌}
use mathlib.Core.Bool.{Bool, true, false, cond}
use mathlib.Core.List.{List, [], ◌∷◌, ◌++◌, map, append_assoc}
use Prim.Native.Nat.{ℕ, suc, ◌+◌, ◌<◌, ◌≤◌}
use Prim.Native.Char.{code}
use native.Mathlib.Omega.{arith}
use lib.Dec.{eqb, ltb, lit<, lit≤}
use lib.ListN.{length, get_or, set, take}
use Rattle.instruction.specs.Bytes.{Bytes}
use Rattle.text.specs.Cut.{lines}
use Rattle.instruction.specs.Mnemonic.{mnemonic_of}
use Rattle.instruction.specs.Parts.{parts_of}
use Rattle.instruction.specs.declared.instr.Instr.{Instr}
use Rattle.targets.specs.At.{size_here, fits_here, instr_here}
use Rattle.targets.specs.Here.{here_of}
use Rattle.instruction.proofs.Ands.{second_part}
use Rattle.instruction.specs.declared.mode.Mode.{Mode}
use Rattle.reach.specs.Mark.{traced}
use Rattle.views.specs.Positions.{traced_at}
use Rattle.views.proofs.TracedAt.{traced_inside}
use Rattle.views.specs.Overlaps.{overlaps_of}
use Rattle.arrivals.specs.Arrivals.{arrivals_of}
use Rattle.listing.specs.Hex.{hex4, hexes}
use Rattle.listing.specs.Line.{line}
use Rattle.listing.specs.Lines.{label_line, overlap_line, arrival_line, here_line}
use Rattle.listing.specs.Operand.{operands}
use Rattle.listing.specs.Walk.{code_lines}
use Rattle.read_back.specs.Order.{rank_of}
use Rattle.read_back.specs.Sheet.{Sheet, agree}
use Rattle.read_back.specs.declared.place.Place.{Place}
use Rattle.read_back_laws.specs.ClaimsBack.{told}
use Rattle.read_back_laws.proofs.Cells.{Part, part_of, part_small, part_inside, part_agrees, lays}
use Rattle.read_back_laws.proofs.Codes.{bytes_at, there, bytes_size, code_own, code_text, code_form}
use Rattle.read_back_laws.proofs.Fields.{all_above, four_above, fours_above, bytes_above, cuts_line}
use Rattle.read_back_laws.proofs.Names.{name_above, operands_above}
use Rattle.read_back_laws.proofs.Places.{open_more, open_past}
use Rattle.read_back_laws.proofs.Saying.{body, said_label, said_overlaps, said_arrivals, said_code}
use Rattle.read_back_laws.proofs.Stand.{Stand, stand_next}
use Rattle.read_back_laws.proofs.Steps.{LineSays, wrote, OpenAt, Restores, read_line}
use Rattle.read_back_laws.proofs.Tells.{told_traced}

-- what is read from a place and a sheet on gives the image and the marks back
abbrev pub Given : Mode → List ℕ → List ℕ → Place → Sheet → List ℕ → Type 0
Given mode image m place sheet text = Restores mode image (map told (take (length image) m)) place sheet (lines text)

module _ (mode : Mode) (image m : List ℕ) (p : ℕ) (small : p < 65536) where
  -- a text that stores nothing: no line, or one of the rank r
  abbrev Passes : ℕ → List ℕ → Type 0
  Passes r t =
      (place : Place) (sheet : Sheet) (rest : List ℕ) → OpenAt p r place → ((after : Place) → OpenAt p (suc r) after → Given mode image m after sheet rest)
      → Given mode image m place sheet (t ++ rest)

  no_line : (r : ℕ) → Passes r []
  no_line r place sheet rest O go = go place (open_more (omega arith) O)

  one_line : (c : ℕ) (fs : List (List ℕ)) → eqb c 10 ≡ false → all_above fs ≡ true → LineSays mode c p [] (body c p fs)
      → ((sheet : Sheet) → wrote sheet c p [] ≡ sheet) → rank_of c < 5
      → Passes (rank_of c) (line c (hex4 p ∷ fs))
  unfolding agree
  one_line c fs e a S w h place sheet rest O go =
      rw (cuts_line rest c (hex4 p ∷ fs) e (rw (four_above p) a))
      (read_line mode image _ place sheet (body c p fs) (lines rest) c p (rank_of c) [] S O (omega arith) (λ i. h) refl refl
      (λ after O'. rw (w sheet) (go after O')))

  label : (b : Bool) → Passes 1 (cond b [] (label_line p))
  unfolding label_line
  label true = no_line 1
  label false = one_line (code "L") [] refl refl (said_label mode p small) (λ sheet. refl) (lit< tt)

  overlaps : (qs : List ℕ) → Passes 2 (overlap_line p qs)
  unfolding overlap_line
  overlaps [] = no_line 2
  overlaps (q ∷ qs) = one_line (code "O") (map hex4 (q ∷ qs)) refl (fours_above (q ∷ qs)) (said_overlaps mode p q qs small) (λ sheet. refl) (lit< tt)

  arrivals : (chosen : Bool) (qs : List ℕ) → Passes 3 (cond chosen (arrival_line p qs) [])
  unfolding arrival_line
  arrivals false qs = no_line 3
  arrivals true [] = no_line 3
  arrivals true (q ∷ qs) = one_line (code "A") (map hex4 (q ∷ qs)) refl (fours_above (q ∷ qs)) (said_arrivals mode p q qs small) (λ sheet. refl) (lit< tt)

module _ (mode : Mode) (image m : List ℕ) (B : Bytes image) (small : length image ≤ 65536) (long : length image ≤ length m) where
  module _ (p : ℕ) (t : traced_at image m p ≡ true) (f : fits_here image p ≡ true) where
    inside : p < length image
    inside = traced_inside image m p t

    abbrev listed : List ℕ
    listed = bytes_at image p

    -- `I`
    instr_line_lem : (place : Place) (sheet : Sheet) (rest : List ℕ) → Stand image m p 0 sheet → OpenAt p 4 place
        → ((after : Place) (next : Sheet) → OpenAt (suc p) 0 after → Stand image m (suc p) 0 next → Given mode image m after next rest)
        → Given mode image m place sheet (here_line mode image p (here_of image p) ++ rest)
    instr_line_lem place sheet rest S O go =
        let b : length listed ≡ size_here image p = bytes_size mode image B p inside f in
        let w : p + size_here image p ≤ length image = (there mode image B p inside f).most in
        let P : Part image p listed = part_of image (size_here image p) p w in
        let L = lays image listed p sheet.cells S.sound P (omega arith) in
        let i : Instr = instr_here image p in
        let name : List ℕ = mnemonic_of (parts_of i).form in
        let a : all_above (hexes listed ∷ name ∷ operands mode p i) ≡ true =
        rw (bytes_above listed, name_above (parts_of i).form (code_form mode image B p inside f)) (operands_above mode p i) in
        rw (
          code_text mode image B p inside f,
          cuts_line rest (code "I") (hex4 p ∷ hexes listed ∷ name ∷ operands mode p i) refl (rw (four_above p) a),
        )
        (read_line mode image _ place sheet (body (code "I") p (hexes listed ∷ name ∷ operands mode p i)) (lines rest) (code "I") p 4 listed
        (said_code mode p listed name (operands mode p i) (omega (arith, inside)) a (part_small image B listed p P) (code_own mode image B p inside f small)) O
        (lit≤ tt) (λ h. lit< tt) (part_agrees image listed p sheet.cells S.sound P) (part_inside image listed p (omega arith))
        (λ after O. go after (wrote sheet (code "I") p listed) (open_past (omega arith) O)
        (stand_next image m p 0 (length listed) sheet (wrote sheet (code "I") p listed) S L (omega (arith, b, (there mode image B p inside f).least))
        (λ t. omega arith)
        (ap (λ (l : List ℕ). set l p traced) S.tells ∙ told_traced (length image) m long p inside (second_part (ltb p (length image)) _ t))
        (λ i h. absurd (omega arith)))))

    pub code_stop : (labels : List ℕ) (chosen : Bool) (place : Place) (sheet : Sheet) (rest : List ℕ) → Stand image m p 0 sheet → OpenAt p 0 place
        → ((after : Place) (next : Sheet) → OpenAt (suc p) 0 after → Stand image m (suc p) 0 next → Given mode image m after next rest)
        → Given mode image m place sheet (code_lines mode image m labels chosen p ++ rest)
    unfolding code_lines
    code_stop labels chosen place sheet rest S O go =
        let s : p < 65536 = omega (arith, inside) in
        rw (append_assoc, append_assoc, append_assoc)
        (label mode image m p s (eqb (get_or labels p 0) 0) place sheet _ (open_more (omega arith) O)
        (λ a O. overlaps mode image m p s (overlaps_of image m p) a sheet _ O
        (λ a O. arrivals mode image m p s chosen (arrivals_of mode image m p) a sheet _ O
        (λ a O. instr_line_lem a sheet rest S O go))))
