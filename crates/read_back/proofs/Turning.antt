-- One line over what the lines before it gave, judged test by test.
-- Assumes nothing.
use mathlib.Core.Path.{◌≡◌, refl, sym, ap, ap₂, ◌∙◌}
use mathlib.Core.Bool.{Bool, true, false, not, ◌&&◌}
use mathlib.Core.List.{List, [], ◌∷◌}
use Prim.Native.Nat.{ℕ, suc, ◌+◌, ◌-◌, ◌≤◌, ◌<◌}
use native.Mathlib.Nat.{le_of_lt}
use native.Mathlib.Omega.{arith}
use borrow.Author.Tests.{lt-leb}
use lib.IntN.{ℤ, pos}
use lib.ListN.{length, take, drop}
use Rattle.std.specs.Prelude.{Result, Ok, Err}
use lib.Seq.{sets}
use Rattle.instruction.specs.Answer.{Answer, accepted, refused, refuse, judge}
use Rattle.instruction.proofs.Ands.{first_part}
use Rattle.instruction.proofs.Accepting.{differ}
use Rattle.instruction.proofs.Sign.{never}
use Rattle.instruction.specs.declared.mode.Mode.{Mode}
use Rattle.text.specs.Cut.{up_to}
use Rattle.text.proofs.Cuts.{end_inside, take_first}
use Rattle.read_back.specs.Line.{position_on, is_line, record_of}
use Rattle.read_back.specs.Order.{follows, place_after}
use Rattle.read_back.specs.Read.{Found, listed, ended, is_good, line_answer, read_answer}
use Rattle.read_back.specs.Noted.{noted_by}
use Rattle.read_back.specs.Sheet.{listed_on, reach}
use Rattle.read_back.specs.Turn.{agree_to, far_of, later_of, turned_of, turn_answer, Turned}
use Rattle.read_back.specs.declared.place.Place.{Place}
use Rattle.read_back.specs.declared.place.Record.{Record}
use Rattle.read_back.specs.declared.back.RestoreError.{RestoreError}
use Rattle.read_back.specs.declared.back.RestoreError.TheVariants.{Malformed, PastEnd}
use Rattle.read_back.proofs.Notes.{position_is}

-- what is found, and whether it is a line
abbrev is_listed : Answer Found → Bool
is_listed (accepted (listed r n)) = true
is_listed (accepted ended) = false
is_listed (refused k vs) = false

abbrev values_in : Answer Found → List ℤ
values_in (accepted f) = []
values_in (refused k vs) = vs

abbrev record_in : Record → Answer Found → Record
record_in d (accepted (listed r n)) = r
record_in d (accepted ended) = d
record_in d (refused k vs) = d

abbrev place_in : Place → Answer Found → Place
place_in d (accepted (listed r n)) = n
place_in d (accepted ended) = d
place_in d (refused k vs) = d

-- whether a line was good, and the end that it tells
abbrev is_on : Result (Place × ℕ) RestoreError → Bool
is_on (Ok p) = true
is_on (Err e) = false

abbrev end_in : ℕ → Result (Place × ℕ) RestoreError → ℕ
end_in d (Ok p) = p.1
end_in d (Err e) = d

module _ (mode : Mode) (text : List ℕ) (place : Place) (h : place.at < length text) where
  abbrev pub line : List ℕ
  line = up_to 10 (drop place.at text)

  here : read_answer mode text place ≡ line_answer mode place line
  unfolding read_answer
  here = rw (lt-leb (length text) place.at h)

  -- the line that was read
  pub record Taken (r : Record) (next : Place) : Type 0 where
    pub good : is_good mode place line ≡ true
    pub is : r ≡ record_of line
    pub goes : next ≡ place_after place (length line) (record_of line)

  -- by whether the line is good
  unfoldable answer_by : Bool → Answer Found
  answer_by b = judge (refuse (not b) 15 (pos place.line ∷ []) ∷ []) (listed (record_of line) (place_after place (length line) (record_of line)))

  pub taken : (r : Record) (n : Place) → accepted (listed r n) ≡ read_answer mode text place → Taken r n
  unfolding judge answer_by
  taken r n e = by (is_good mode place line) refl (e ∙ here)
    where
      by : (b : Bool) → is_good mode place line ≡ b → accepted (listed r n) ≡ answer_by (is_good mode place line) → Taken r n
      by true g q = let p : accepted (listed r n) ≡ answer_by true = q ∙ ap answer_by g in record { good = g; is = ap (record_in r) p; goes = ap (place_in n) p }
      by false g q = let p : accepted (listed r n) ≡ answer_by false = q ∙ ap answer_by g in absurd (never (ap is_listed p))

  -- it was refused
  pub untaken : (k : ℕ) (vs : List ℤ) → refused k vs ≡ read_answer mode text place → (is_good mode place line ≡ false) × (vs ≡ pos place.line ∷ [])
  unfolding judge answer_by
  untaken k vs e = by (is_good mode place line) refl (e ∙ here)
    where
      by : (b : Bool) → is_good mode place line ≡ b → refused k vs ≡ answer_by (is_good mode place line)
          → (is_good mode place line ≡ false) × (vs ≡ pos place.line ∷ [])
      by true g q = let p : refused k vs ≡ answer_by true = q ∙ ap answer_by g in absurd (never (sym (ap is_listed p)))
      by false g q = let p : refused k vs ≡ answer_by false = q ∙ ap answer_by g in (g, ap values_in p)

  -- there is one
  pub not_ended : accepted ended ≡ read_answer mode text place → ⊥
  unfolding judge answer_by
  not_ended e = by (is_good mode place line) refl (e ∙ here)
    where
      by : (b : Bool) → is_good mode place line ≡ b → accepted ended ≡ answer_by (is_good mode place line) → ⊥
      by true g q = let p : accepted ended ≡ answer_by true = q ∙ ap answer_by g in never (sym (ap is_listed p))
      by false g q = let p : accepted ended ≡ answer_by false = q ∙ ap answer_by g in differ (sym p)

  module _ (r : Record) (n : Place) (t : Taken r n) where
    -- where it ends
    end : n.at ≡ suc (place.at + length line)
    unfolding place_after
    end = ap (λ (x : Place). x.at) t.goes

    pub after_0 : 1 ≤ n.at
    after_0 = omega (arith, end)

    pub starts : place.at ≤ n.at - 1
    starts = omega (arith, end)

    pub ends : n.at - 1 ≤ length text
    ends = omega (arith, end, end_inside 10 text place.at (le_of_lt h))

    pub its_line : take (n.at - 1 - place.at) (drop place.at text) ≡ line
    its_line =
        let k : n.at - 1 - place.at ≡ length line = omega (arith, end) in
        ap (λ (m : ℕ). take m (drop place.at text)) k ∙ take_first 10 (drop place.at text)

    pub its_good : is_line mode (take (n.at - 1 - place.at) (drop place.at text)) ≡ true
    its_good = ap (is_line mode) its_line ∙ first_part (is_line mode line) (follows place (record_of line)) t.good

    pub its_position : r.position ≡ position_on line
    its_position = position_is line r t.is

    -- the bytes of the digits that are compared and written
    module _ (bs : List ℕ) (d : bs ≡ listed_on (take (n.at - 1 - place.at) (drop place.at text))) where
      pub its_bytes : bs ≡ listed_on line
      its_bytes = d ∙ ap listed_on its_line

      pub fits : (end : ℕ) (image : List ℕ) (x b : Bool) → x ≡ agree_to end image r.position bs → x ≡ b
          → (is_good mode place line && agree_to end image (position_on line) (listed_on line)) ≡ b
      fits end image x b e f =
          ap (λ (g : Bool). g && agree_to end image (position_on line) (listed_on line)) t.good
          ∙ sym (e ∙ ap₂ (agree_to end image) its_position its_bytes) ∙ f

      pub its_far : (f : ℕ) → f ≡ far_of r.position bs → f ≡ far_of (position_on line) (listed_on line)
      its_far f e = e ∙ ap₂ far_of its_position its_bytes

    pub its_record : r ≡ record_of (take (n.at - 1 - place.at) (drop place.at text))
    its_record = t.is ∙ ap record_of (sym its_line)

-- the line l at the place, over what the lines before it gave
module _ (mode : Mode) (place : Place) (end : ℕ) (image table l : List ℕ) where
  abbrev agrees : Bool
  agrees = agree_to end image (position_on l) (listed_on l)

  unfoldable answer : Bool → Bool → Answer Place
  answer b c = judge (refuse (not b) 15 (pos place.line ∷ []) ∷ refuse c 16 (pos place.line ∷ []) ∷ []) (place_after place (length l) (record_of l))

  answered : (b c : Bool) → is_good mode place l && agrees ≡ b → reach (length image) (position_on l) (listed_on l) ≡ c
      → answer b c ≡ turn_answer mode place agrees (length image) l
  unfolding turn_answer answer
  answered b c f g = rw (f, g)

  -- a bad line leaves nothing
  stopped : (r : Result (Place × ℕ) RestoreError) → is_on r ≡ false → turned_of r ≡ turn_answer mode place agrees (length image) l → (new told : List ℕ)
      → Turned mode place end image table l r new told
  stopped r n e new told = record { answer = e; leaves = λ next k f. absurd (never (sym (ap is_on f) ∙ n)) }

  pub left_bad : is_good mode place l && agrees ≡ false → (k : ℕ) → pos k ∷ [] ≡ pos place.line ∷ [] → (new told : List ℕ)
      → Turned mode place end image table l (Err (Malformed k)) new told
  unfolding judge answer
  left_bad f k e =
      stopped (Err (Malformed k)) refl (ap (refused 15) e ∙ answered false (reach (length image) (position_on l) (listed_on l)) f refl)

  module _ (f : is_good mode place l && agrees ≡ true) where
    pub left_past : reach (length image) (position_on l) (listed_on l) ≡ true → (new told : List ℕ) → Turned mode place end image table l (Err (PastEnd place.line)) new told
    unfolding judge answer
    left_past g = stopped (Err (PastEnd place.line)) refl (answered true true f g)

    pub left_on : reach (length image) (position_on l) (listed_on l) ≡ false → (n : Place) → n ≡ place_after place (length l) (record_of l)
        → (new told : List ℕ) (e : ℕ) → new ≡ sets image (position_on l) (listed_on l) → told ≡ noted_by (record_of l) table
        → e ≡ later_of end (far_of (position_on l) (listed_on l))
        → Turned mode place end image table l (Ok (n, e)) new told
    unfolding judge answer
    left_on g n q new told e a b c = record { answer = ap accepted q ∙ answered true false f g; leaves = λ next k h. (a, b, sym (ap (end_in e) h) ∙ c) }
