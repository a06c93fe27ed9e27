-- Of inner functions: what is asked, as two rooms and a record of counts hold it.
-- Assumes nothing.
use Rattle.std.specs.Prelude.{ℕ, ◌≤◌, Bool, cond, List, [], take, Option, Some, None, Result, Ok, Err}
use Rattle.instruction.specs.Answer.{Answer, accepted, refused}
use Rattle.instruction.specs.declared.mode.Mode.{Mode}
use Rattle.listing.specs.declared.tabbed.Arrivals.{Arrivals}
use Rattle.dis_text.specs.Asked as words
use Rattle.dis_text.specs.declared.asked.Asked.{Asked}
use Rattle.dis_text.specs.declared.message.DisError.{DisError}
use Rattle.dis_text.specs.Told.{number_of, values_of}
use Rattle.dis_text.specs.declared.word.Word.{Word}

abbrev pub counts : ℕ → ℕ → Mode → Arrivals → Bool → Asked
counts entries pins mode arrivals pinning = record { entries = entries; pins = pins; mode = mode; arrivals = arrivals; pinning = pinning }

-- the record, with the numbers that stand in these rooms
abbrev pub held : Asked → List ℕ → List ℕ → words.Asked
held a entries pins = record {
  entries = take a.entries entries;
  pins = take a.pins pins;
  mode = a.mode;
  arrivals = a.arrivals;
  pinning = a.pinning;
}

-- no more numbers than the rooms hold
abbrev pub Counted : Asked → Type 0
Counted a = (a.entries ≤ 256) × (a.pins ≤ 256)

abbrev pub CountedIn : Option Asked → Type 0
CountedIn (Some a) = Counted a
CountedIn None = Unit {0}

-- other settings
abbrev pub setting : Asked → Mode → Arrivals → Bool → Option Asked
setting a mode arrivals pinning = cond a.pinning None (Some (counts a.entries a.pins mode arrivals pinning))

-- what one word leaves
abbrev pub took_of : Option Asked → List ℕ → List ℕ → Answer words.Asked
took_of (Some a) entries pins = accepted (held a entries pins)
took_of None entries pins = refused 13 []

unfoldable pub word_answer : words.Asked → Option Word → Answer words.Asked
word_answer a w = cond (words.may_stand a w) (accepted (words.with_word a w)) (refused 13 [])

-- what all words leave
abbrev pub read_of : Result Asked DisError → List ℕ → List ℕ → Answer words.Asked
read_of (Ok a) entries pins = accepted (held a entries pins)
read_of (Err t) entries pins = refused (number_of t) (values_of t)

abbrev pub CountedRead : Result Asked DisError → Type 0
CountedRead (Ok a) = Counted a
CountedRead (Err t) = Unit {0}
