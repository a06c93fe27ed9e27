-- The numbers that the answer to one line of a listing carries are a line's number and how much follows on it: each fits a value of a reply.
-- Assumes nothing.
use mathlib.Core.Path.{◌≡◌, refl, ap}
use mathlib.Core.Bool.{Bool, true, false, cond, not}
use mathlib.Core.List.{List, [], ◌∷◌}
use Prim.Native.Nat.{ℕ, ◌/◌, ◌<◌, ◌≤◌, ◌^◌}
use native.Mathlib.Omega.{arith}
use borrow.Author.Tests.{leb-false}
use lib.Dec.{leb}
use lib.IntN.{pos}
use lib.ListN.{length, drop, length-drop}
use Rattle.instruction.specs.Answer.{accepted, refuse, judge}
use Rattle.instruction.specs.declared.mode.Mode.{Mode}
use Rattle.instruction.proofs.Ands.{first_part}
use Rattle.text.specs.Cut.{up_to}
use Rattle.text.proofs.Cuts.{end_inside}
use Rattle.text.proofs.Pairs.{pairs}
use Rattle.read_back.specs.Line.{is_line, has_bytes, letter_on, record_of}
use Rattle.read_back.specs.Offsets.{digits_at, bytes_at, record_at}
use Rattle.read_back.specs.Order.{follows, place_after}
use Rattle.read_back.specs.Read.{Found, listed, ended, is_good, line_answer, read_answer}
use Rattle.read_back.specs.declared.place.Place.{Place}
use Rattle.read_back.specs.declared.place.Record.{Record}
use Rattle.read_back.proofs.ByFields.{good_line, record_is}
use Rattle.read_back.proofs.Codes.{digits_short}
use Rattle.c_answers.proofs.Fitting.{Holds, this}

-- what follows on a line fits
abbrev pub Few : Found → Type 0
Few (listed r next) = r.count < 2 ^ 63
Few ended = Unit {0}

-- no more follows on a line than it has bytes
counted : (line : List ℕ) → (record_at line).count ≤ length line
unfolding record_at
counted line = by (has_bytes (letter_on line))
  where
    by : (b : Bool) → cond b (length (bytes_at line)) (length (drop 6 line) / 5) ≤ length line
    by true = omega (arith, pairs (digits_at line) (length (digits_at line) / 2) refl, digits_short line)
    by false = omega (arith, length-drop 6 line)

module _ (mode : Mode) (text : List ℕ) (place : Place) (t : length text < 2 ^ 63) (n : place.line < 2 ^ 63) where
  line_fits : (l : List ℕ) → length l ≤ length text → Holds Few (line_answer mode place l)
  unfolding judge
  line_fits l h = by (is_good mode place l) refl
    where
      by : (b : Bool) → is_good mode place l ≡ b
          → Holds Few (judge (refuse (not b) 15 (pos place.line ∷ []) ∷ []) (listed (record_of l) (place_after place (length l) (record_of l))))
      by true e =
          let g = good_line mode l (first_part (is_line mode l) (follows place (record_of l)) e) in
          omega (arith, counted l, ap (λ (r : Record). r.count) (record_is l g))
      by false e = this 15 n

  pub read_fits : Holds Few (read_answer mode text place)
  unfolding read_answer
  read_fits = by (leb (length text) place.at) refl
    where
      by : (b : Bool) → leb (length text) place.at ≡ b → Holds Few (cond b (accepted ended) (line_answer mode place (up_to 10 (drop place.at text))))
      by true e = tt
      by false e =
          let h : place.at < length text = leb-false (length text) place.at e in
          line_fits (up_to 10 (drop place.at text)) (omega (arith, end_inside 10 text place.at (omega arith)))
