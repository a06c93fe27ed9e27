-- The whole output of `dis`: the listing of a run in the file's bytes, or one line that says what is wrong. Ours, as the program is.
-- Assumes nothing.
use Rattle.std.specs.Prelude.{ℕ, cond, List, [], ◌∷◌, eqb, ltb, pos, length, Result, Ok, Err}
use Rattle.instruction.specs.Answer.{Answer, accepted, refused, refuse, judge}
use Rattle.list_text.specs.Output.{traced_with}
use Rattle.dis_text.specs.Asked.{Asked, asked_in}
use Rattle.dis_text.specs.Message.{message}
use Rattle.dis_text.specs.declared.shown.Shown.{Shown}
use Rattle.dis_text.specs.declared.shown.Shown.TheVariants.{Listing, Message}
use Rattle.views.specs.View.{view_refused}
use Rattle.views.specs.declared.view.ViewError.{ViewError}

-- where no entry is asked, those that the original's command takes for a game: `src/lib.rs`
unfoldable pub game_entries : List ℕ
game_entries =
    0x0000 ∷ 0x0003 ∷ 0x000B ∷ 0x0013 ∷ 0x001B ∷ 0x0023 ∷ 0x002B ∷ 0x0033 ∷ 0x003B ∷ 0x0043 ∷ 0x004B ∷ 0x0130 ∷ []

abbrev pub entries_for : List ℕ → List ℕ
entries_for entries = cond (eqb (length entries) 0) game_entries entries

-- the listing that is asked for, or a refusal
abbrev pub listed_for : Answer Asked → List ℕ → Answer (List ℕ)
listed_for (accepted a) image = traced_with a.mode image (entries_for a.entries) a.pins a.arrivals
listed_for (refused n vs) image = refused n vs

unfoldable pub dis_of : List ℕ → List ℕ → Answer (List ℕ)
dis_of words image = listed_for (asked_in words) image

-- what is printed: the listing, or the message of the refusal
abbrev pub printed : Answer (List ℕ) → List ℕ
printed (accepted out) = out
printed (refused n vs) = message n vs

-- which of the two, and how long
pub data Output : Type 0 where
  listing : ℕ → Output
  told : ℕ → Output

abbrev pub output_of : Answer (List ℕ) → Output
output_of (accepted out) = listing (length out)
output_of (refused n vs) = told (length (message n vs))

-- the number and values of each answer
abbrev pub shown_of : Result Shown ViewError → Answer Output
shown_of (Ok (Listing n)) = accepted (listing n)
shown_of (Ok (Message n)) = accepted (told n)
shown_of (Err e) = view_refused e

-- 11 with what is needed where the room is shorter
unfoldable pub shown_answer : Answer (List ℕ) → List ℕ → Answer Output
shown_answer d room = judge (refuse (ltb (length room) (length (printed d))) 11 (pos (length (printed d)) ∷ []) ∷ []) (output_of d)
