-- Lines that are read one after another from a place and over a sheet, to the end of the text.
-- Assumes nothing.
use mathlib.Core.Path.{◌≡◌, refl, sym, ap, subst, ◌∙◌}
use mathlib.Core.Bool.{true, false, not, cond}
use mathlib.Core.List.{List, [], ◌∷◌, map}
use Prim.Native.Nat.{ℕ, suc, ◌<◌, ◌≤◌}
use Prim.Native.Char.{code}
use native.Mathlib.Nat.{le_refl}
use lib.Dec.{eqb}
use lib.ListN.{length, set}
use lib.Seq.{sets}
use Rattle.instruction.specs.Answer.{accepted, judge}
use Rattle.instruction.proofs.Judging.{pass}
use Rattle.instruction.proofs.Ands.{both}
use Rattle.instruction.specs.declared.mode.Mode.{Mode}
use Rattle.reach.specs.Mark.{traced}
use Rattle.read_back.specs.Back.{is_fit, line_refusals, sheet_after}
use Rattle.read_back.specs.Line.{letter_on, position_on, is_line, record_of}
use Rattle.read_back.specs.Order.{rank_of, follows, place_after}
use Rattle.read_back.specs.Sheet.{Sheet, listed_on, agree, reach, sheet_with, image_on}
use Rattle.read_back.specs.declared.place.Place.{Place}
use Rattle.read_back_laws.proofs.Places.{Open, later, open_follows}

-- a line of the letter c at p that lists these bytes
pub record LineSays (mode : Mode) (c p : ℕ) (bs l : List ℕ) : Type 0 where
  pub fits : is_line mode l ≡ true
  pub letter : letter_on l ≡ c
  pub position : position_on l ≡ p
  pub lists : listed_on l ≡ bs

-- what it leaves
abbrev pub wrote : Sheet → ℕ → ℕ → List ℕ → Sheet
wrote sheet c p bs = record {
  cells = sets sheet.cells p (map suc bs);
  marks = cond (eqb c (code "I")) (set sheet.marks p traced) sheet.marks;
}

-- letters from the rank r on may stand at p after this place
abbrev pub OpenAt : ℕ → ℕ → Place → Type 0
OpenAt p r place = Open p r place.last (rank_of place.letter)

-- the lines from a place on are accepted, and leave these bytes and marks
pub record Restores (mode : Mode) (image marks : List ℕ) (place : Place) (sheet : Sheet) (ls : List (List ℕ)) : Type 0 where
  pub accepts : (k : ℕ) → judge (line_refusals mode (length image) place sheet ls) k ≡ accepted k
  pub bytes : image_on (sheet_after sheet ls) ≡ image
  pub tells : (sheet_after sheet ls).marks ≡ marks

module _ (mode : Mode) (image marks : List ℕ) where
  -- nothing is left to read
  pub read_end : (place : Place) (sheet : Sheet) → image_on sheet ≡ image → sheet.marks ≡ marks → Restores mode image marks place sheet []
  unfolding line_refusals sheet_after judge
  read_end place sheet e f = record { accepts = λ k. refl; bytes = e; tells = f }

  -- one more line
  module _ (place : Place) (sheet : Sheet) (l : List ℕ) (ls : List (List ℕ)) where
    goes_on_lem : is_fit mode place sheet l ≡ true → reach (length image) (position_on l) (listed_on l) ≡ false
        → Restores mode image marks (place_after place (length l) (record_of l)) (sheet_with sheet l) ls → Restores mode image marks place sheet (l ∷ ls)
    unfolding line_refusals sheet_after
    goes_on_lem e f R = record {
      accepts = λ k. pass _ _ k (ap not e) ∙ pass _ _ k f ∙ R.accepts k;
      bytes = R.bytes;
      tells = R.tells;
    }

    module _ (c p r : ℕ) (bs : List ℕ) (S : LineSays mode c p bs l) (O : OpenAt p r place) (h : r ≤ rank_of c) (k : 0 < r → rank_of c < 5) where
      in_order : follows place (record_of l) ≡ true
      unfolding follows record_of
      in_order = rw (S.letter, S.position) (open_follows (rank_of c) O h k)

      wrote_so : sheet_with sheet l ≡ wrote sheet c p bs
      unfolding sheet_with record_of
      wrote_so =
          ap (λ (x : ℕ). wrote sheet x (position_on l) (listed_on l)) S.letter ∙ ap (λ (x : ℕ). wrote sheet c x (listed_on l)) S.position
          ∙ ap (wrote sheet c p) S.lists

      opens : OpenAt p (suc (rank_of c)) (place_after place (length l) (record_of l))
      unfolding place_after record_of
      opens = later S.position (subst (λ (b : ℕ). b < suc (rank_of c)) (ap rank_of (sym S.letter)) (le_refl (suc (rank_of c))))

      pub read_line : agree sheet.cells p bs ≡ true → reach (length image) p bs ≡ false
          → ((after : Place) → OpenAt p (suc (rank_of c)) after → Restores mode image marks after (wrote sheet c p bs) ls)
          → Restores mode image marks place sheet (l ∷ ls)
      read_line a f R =
          goes_on_lem
          (both _ _ (both _ _ S.fits in_order) (rw (S.position, S.lists) a))
          (rw (S.position, S.lists) f)
          (rw wrote_so (R _ opens))
