-- The line at a place, read step by step.
-- Assumes nothing.
use mathlib.Core.Path.{◌≡◌, sym, ap, ◌∙◌}
use mathlib.Core.Bool.{Bool, true, false, not, ◌&&◌}
use mathlib.Core.List.{List, [], ◌∷◌}
use Prim.Native.Nat.{ℕ, suc, ◌+◌, ◌-◌, ◌≤◌, ◌<◌}
use native.Mathlib.Nat.{le_of_lt}
use native.Mathlib.Omega.{arith}
use borrow.Author.Tests.{le-leb, lt-leb}
use lib.IntN.{pos}
use lib.ListN.{length, take, drop, length-drop}
use lib.Seq.{length-take-le}
use Rattle.instruction.specs.Answer.{accepted, refused, refuse, judge}
use Rattle.instruction.specs.declared.mode.Mode.{Mode}
use Rattle.text.specs.Cut.{up_to}
use Rattle.text.proofs.Cuts.{the_piece, piece_inside}
use Rattle.read_back.specs.Line.{is_line, record_of}
use Rattle.read_back.specs.Order.{follows, line_after, place_after}
use Rattle.read_back.specs.Read.{Found, listed, ended, is_good, line_answer, read_answer}
use Rattle.read_back.specs.declared.place.Place.{Place}
use Rattle.read_back.specs.declared.place.Record.{Record}
use Rattle.read_back.proofs.Records.{placed}

pub past : (mode : Mode) (text : List ℕ) (place : Place) → length text ≤ place.at → accepted ended ≡ read_answer mode text place
unfolding read_answer
past mode text place h = rw (le-leb (length text) place.at h)

module _ (mode : Mode) (text : List ℕ) (place : Place) (h : place.at < length text) (e : ℕ)
    (p : e ≡ place.at + length (up_to 10 (drop place.at text))) where
  -- the line's bytes
  abbrev bytes : List ℕ
  bytes = take (e - place.at) (drop place.at text)

  pub inside : e ≤ length text
  inside = piece_inside 10 text place.at e p (le_of_lt h)

  here : line_answer mode place bytes ≡ read_answer mode text place
  unfolding read_answer
  here = rw (lt-leb (length text) place.at h) (ap (line_answer mode place) (the_piece 10 text place.at e p))

  bad : is_good mode place bytes ≡ false → refused 15 (pos place.line ∷ []) ≡ read_answer mode text place
  unfolding judge
  bad f = sym (ap (λ (b : Bool). judge {A = Found} (refuse (not b) 15 (pos place.line ∷ []) ∷ [])
      (listed (record_of bytes) (place_after place (length bytes) (record_of bytes)))) f) ∙ here

  pub bad_line : is_line mode bytes ≡ false → refused 15 (pos place.line ∷ []) ≡ read_answer mode text place
  bad_line f = bad (ap (λ (b : Bool). b && follows place (record_of bytes)) f)

  module _ (g : is_line mode bytes ≡ true) (r : Record) (s : r ≡ record_of bytes) where
    good_by : is_good mode place bytes ≡ follows place r
    good_by = ap (λ (b : Bool). b && follows place (record_of bytes)) g ∙ ap (follows place) (sym s)

    pub bad_order : follows place r ≡ false → refused 15 (pos place.line ∷ []) ≡ read_answer mode text place
    bad_order f = bad (good_by ∙ f)

    pub good : follows place r ≡ true → (k : ℕ) → k ≡ line_after place.line → (n : Place)
        → (n.at ≡ e + 1) × (n.line ≡ k) × (n.last ≡ r.position) × (n.letter ≡ r.letter) → accepted (listed r n) ≡ read_answer mode text place
    unfolding judge place_after
    good f k m n t =
        let w : length bytes ≡ e - place.at = length-take-le _ _ (omega (arith, inside, length-drop place.at text)) in
        let a : n.at ≡ suc (place.at + length bytes) = omega (arith, t.0, w, p) in
        let q : n ≡ place_after place (length bytes) r = placed n _ _ _ _ (a, t.1 ∙ m, t.2, t.3) in
        ap (λ (x : Place). accepted (listed r x)) q
        ∙ ap (λ (x : Record). accepted (listed x (place_after place (length bytes) x))) s
        ∙ sym (ap (λ (b : Bool). judge {A = Found} (refuse (not b) 15 (pos place.line ∷ []) ∷ [])
        (listed (record_of bytes) (place_after place (length bytes) (record_of bytes)))) (good_by ∙ f))
        ∙ here
