-- Of inner functions: what one line does to what the lines before it gave, which are bytes, 0 where nothing is listed, where what is listed
-- ends, and the table of `I` lines.
-- Assumes nothing.
use Rattle.std.specs.Prelude.{ℕ, suc, ◌+◌, Bool, true, cond, not, ◌&&◌, ◌||◌, Result, Ok, Err, List, [], ◌∷◌, ◌≡◌, eqb, leb, ltb, pos, length, get_or}
use Rattle.std.proofs.lemmas.List.Edits.{sets}
use Rattle.instruction.specs.Answer.{Answer, accepted, refuse, judge}
use Rattle.instruction.specs.declared.mode.Mode.{Mode}
use Rattle.read_back.specs.Back.{restore_refused}
use Rattle.read_back.specs.Line.{position_on, record_of}
use Rattle.read_back.specs.Noted.{noted_by}
use Rattle.read_back.specs.Order.{place_after}
use Rattle.read_back.specs.Read.{is_good}
use Rattle.read_back.specs.Sheet.{listed_on, reach}
use Rattle.read_back.specs.declared.place.Place.{Place}
use Rattle.read_back.specs.declared.back.RestoreError.{RestoreError}

-- bytes from p on contradict none of those that stand before the end
unfoldable pub agree_to : ℕ → List ℕ → ℕ → List ℕ → Bool
agree_to end image p [] = true
agree_to end image p (b ∷ bs) = (leb end p || eqb (get_or image p 0) b) && agree_to end image (suc p) bs

-- where bytes from p on end; 0 where there are none
abbrev pub far_of : ℕ → List ℕ → ℕ
far_of p [] = 0
far_of p (b ∷ bs) = p + length (b ∷ bs)

-- the later of two ends
abbrev pub later_of : ℕ → ℕ → ℕ
later_of a b = cond (ltb a b) b a

-- the place of the next line, or the refusal
abbrev pub turned_of : Result (Place × ℕ) RestoreError → Answer Place
turned_of (Ok p) = accepted p.0
turned_of (Err e) = restore_refused e

-- the line l at the place, of an image of n bytes, by whether it contradicts no earlier one
unfoldable pub turn_answer : Mode → Place → Bool → ℕ → List ℕ → Answer Place
turn_answer mode place agrees n l =
    judge
    (refuse (not (is_good mode place l && agrees)) 15 (pos place.line ∷ [])
    ∷ refuse (reach n (position_on l) (listed_on l)) 16 (pos place.line ∷ [])
    ∷ [])
    (place_after place (length l) (record_of l))

-- what is answered, and what a good line leaves
pub record Turned (mode : Mode) (place : Place) (end : ℕ) (image table l : List ℕ) (r : Result (Place × ℕ) RestoreError) (new told : List ℕ) : Type 0 where
  pub answer : turned_of r ≡ turn_answer mode place (agree_to end image (position_on l) (listed_on l)) (length image) l
  pub leaves : (next : Place) (e : ℕ) → r ≡ Ok (next, e)
      → (new ≡ sets image (position_on l) (listed_on l)) × (told ≡ noted_by (record_of l) table) × (e ≡ later_of end (far_of (position_on l) (listed_on l)))
