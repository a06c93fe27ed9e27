-- A term's text in blocks: what the record and the room that is lent with it hold after each byte, and what is printed. Document 02, W14, with
-- one image's text held at a time.
-- Assumes nothing.
use Rattle.std.specs.Prelude.{ℕ, suc, ◌+◌, min, ◌≤◌, Bool, true, false, cond, not, ◌&&◌, List, [], ◌∷◌, ◌++◌, ◌≡◌, eqb, ltb, pos, length, take, set, Result, Ok, Err}
use Rattle.instruction.specs.Answer.{Answer, accepted, Refusal, refuse, judge, after, laid}
use Rattle.views.specs.View.{view_refused}
use Rattle.views.specs.declared.view.ViewError.{ViewError}
use Rattle.text.specs.Cut.{lines}
use Rattle.text.specs.Puts.{Puts}
use Rattle.list_text.specs.Refusal.{number_line}
use Rattle.list_text.specs.Text.{first}
use Rattle.report_text.specs.Name.{name_of}
use Rattle.report_text.specs.Image.{image_answer}
use Rattle.report_text.specs.Sums.{no_sums, adding, fitting}
use Rattle.report_text.specs.Report.{image_line, total_line}
use Rattle.report_text.specs.declared.figures.Figures.{Figures}
use Rattle.report_text.specs.declared.sums.Sums.{Sums}
use Rattle.report_text.specs.declared.term.Term.{Term}
use Rattle.report_text.specs.declared.term.Taken.{Taken}
use Rattle.report_text.specs.declared.gather.Gathered.{Gathered}
use Rattle.report_text.specs.declared.finish.Finished.{Finished}
use Rattle.report_text.specs.declared.whole.Progress.{Progress}

-- as much of an image's text is held: more than the longest that is not malformed has, 50,467 bytes
abbrev pub most : ℕ
most = 51200

-- as long as what one call prints can be
abbrev pub most_printed : ℕ
most_printed = 512

abbrev pub begun : Term
begun = record { sums = no_sums; held = 0; fresh = true; over = false }

-- a record and the room that holds the text
pub record State : Type 0 where
  pub term : Term
  pub room : List ℕ

abbrev pub state : Term → List ℕ → State
state t room = record { term = t; room = room }

-- how many bytes are held; a record that no call made may say more
abbrev pub held_in : Term → ℕ
held_in t = min t.held most

-- the text that is held
abbrev pub text_in : State → List ℕ
text_in s = take (held_in s.term) s.room

module _ (s : Sums) (i : List (List ℕ)) where
  abbrev answer : Answer Figures
  answer = image_answer i

  -- the sums with an image: where they fit its line is printed, and otherwise 22
  unfoldable pub image_out : List ℕ
  image_out = cond (fitting (adding s answer)) (image_line (name_of (first i)) answer) (number_line 22)

  unfoldable pub image_term : Term
  image_term =
      cond (fitting (adding s answer)) (record { sums = adding s answer; held = 0; fresh = true; over = false })
      (record { sums = s; held = 0; fresh = true; over = true })

-- one more byte held, if there is room: how many are held then, and the room
abbrev pub pushed_count : ℕ → ℕ
pushed_count held = cond (ltb (min held most) most) (suc (min held most)) (min held most)

abbrev pub pushed_room : List ℕ → ℕ → ℕ → List ℕ
pushed_room room held b = cond (ltb (min held most) most) (set room (min held most) b) room

unfoldable pub pushed : State → ℕ → State
pushed s b =
    let t = s.term in
    state (record { sums = t.sums; held = pushed_count t.held; fresh = eqb b 10; over = t.over }) (pushed_room s.room t.held b)

-- b ends an empty line
abbrev pub is_empty_line : Term → ℕ → Bool
is_empty_line t b = t.fresh && eqb b 10

-- b ends an image
abbrev pub completes : Term → ℕ → Bool
completes t b = not t.over && (is_empty_line t b && not (eqb (held_in t) 0))

-- after one more byte, and what is printed at it; after 22 nothing changes
unfoldable pub step_to : State → ℕ → State
step_to s b =
    cond s.term.over s
    (cond (is_empty_line s.term b) (cond (eqb (held_in s.term) 0) s (state (image_term s.term.sums (lines (text_in s))) s.room)) (pushed s b))

abbrev pub step_out : State → ℕ → List ℕ
step_out s b = cond (completes s.term b) (image_out s.term.sums (lines (text_in s))) []

-- after a text
unfoldable pub fed_to : State → List ℕ → State
fed_to s [] = s
fed_to s (b ∷ t) = fed_to (step_to s b) t

unfoldable pub fed_out : State → List ℕ → List ℕ
fed_out s [] = []
fed_out s (b ∷ t) = step_out s b ++ fed_out (step_to s b) t

-- how much of a text one call takes: up to the first byte that ends an image
unfoldable pub used_in : State → List ℕ → ℕ
used_in s [] = 0
used_in s (b ∷ t) = cond (completes s.term b) 1 (suc (used_in (step_to s b) t))

-- at the end of the text: the last image, if there is one, and the sums
abbrev pub last_out : Term → List ℕ
last_out t = cond t.over [] (total_line t.sums)

unfoldable pub close_out : State → List ℕ
close_out s =
    cond s.term.over []
    (cond (eqb (held_in s.term) 0) (total_line s.term.sums)
    (image_out s.term.sums (lines (text_in s)) ++ last_out (image_term s.term.sums (lines (text_in s)))))

-- 11: a room that is too short, with what is needed
abbrev pub room_refusals : List ℕ → List ℕ → List Refusal
room_refusals room out =
    refuse (ltb (length room) most) 11 (pos most ∷ []) ∷ refuse (ltb (length out) most_printed) 11 (pos most_printed ∷ []) ∷ []

-- how many bytes one call printed, how many it used, and the record after it: a refusal uses none and leaves the record
abbrev pub taken_of : Result Taken ViewError → Answer ℕ
taken_of (Ok r) = accepted r.printed
taken_of (Err e) = view_refused e

abbrev pub used_of : Result Taken ViewError → ℕ
used_of (Ok r) = r.used
used_of (Err e) = 0

abbrev pub term_of : Result Taken ViewError → Term → Term
term_of (Ok r) t = r.term
term_of (Err e) t = t

module _ (t : Term) (text room out : List ℕ) where
  abbrev pub used : ℕ
  used = used_in (state t room) text

  -- what one call took, printed and left: how many bytes were printed
  abbrev pub printed : List ℕ
  printed = fed_out (state t room) (take used text)

  unfoldable pub take_answer : Answer ℕ
  take_answer = judge (room_refusals room out) (length printed)

  unfoldable pub take_used : ℕ
  take_used = after take_answer used 0

  unfoldable pub take_state : State
  take_state = after take_answer (fed_to (state t room) (take used text)) (state t room)

  unfoldable pub take_out : List ℕ
  take_out = after take_answer (laid printed out) out

module _ (t : Term) (room out : List ℕ) where
  unfoldable pub close_answer : Answer ℕ
  close_answer = judge (room_refusals room out) (length (close_out (state t room)))

  unfoldable pub close_room : List ℕ
  close_room = after close_answer (laid (close_out (state t room)) out) out

-- of an inner function: the record with the bytes that were held
abbrev pub held_state : Term → List ℕ → Gathered → State
held_state t room r = state (record { sums = t.sums; held = r.held; fresh = r.fresh; over = false }) room

-- of an inner function: the bytes up to the first that ends an image are held, that one alone is not. It is byte 10
pub record Gathering (t : Term) (text room room' : List ℕ) (r : Gathered) : Type 0 where
  pub used_is : r.used ≡ used_in (state t room) text
  pub whole : r.complete ≡ false → (fed_to (state t room) (take r.used text) ≡ held_state t room' r) × (fed_out (state t room) (take r.used text) ≡ [])
  pub ended : r.complete ≡ true → (completes (held_state t room' r).term 10 ≡ true)
      × (fed_to (state t room) (take r.used text) ≡ step_to (held_state t room' r) 10)
      × (fed_out (state t room) (take r.used text) ≡ step_out (held_state t room' r) 10)

-- of an inner function: what is printed of an image's text, and the record afterwards
pub record Finishing (s : Sums) (text out out' : List ℕ) (r : Finished) : Type 0 where
  pub put : Puts (image_out s (lines text)) 0 out out' r.printed
  pub term_is : r.term ≡ image_term s (lines text)
  pub most : r.printed ≤ 159

-- of an inner function: what is printed up to the first byte that ends an image
abbrev pub first_out : Term → List ℕ → List ℕ → List ℕ
first_out t text room = fed_out (state t room) (take (used_in (state t room) text) text)

-- of an inner function: what was taken and left, and the count of what was printed, which stays at 2^63
pub record Writing (t : Term) (text room : List ℕ) (n : ℕ) (room' : List ℕ) (r : Progress) : Type 0 where
  pub used_is : r.used ≡ used_in (state t room) text
  pub left : state r.term room' ≡ fed_to (state t room) (take (used_in (state t room) text) text)
  pub counted : r.count ≡ min (n + length (first_out t text room)) 9223372036854775808
