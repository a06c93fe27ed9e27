-- What the words of the command line of `dis` ask for. Ours, as the program is. The words are what follows the file's name, each ended by
-- byte 0: entries and pins as hex numbers, at most 256 of each (document 01, 'The listing', has as many entries), `--pin` before a pin,
-- `--wrapping` (document 02, W7) and `--no-arrivals` (W5). A word that may not stand where it stands is 13 with its number; the file's name
-- is the first.
-- Assumes nothing.
use Rattle.std.specs.Prelude.{ℕ, suc, Bool, true, false, cond, not, List, [], ◌∷◌, ◌++◌, ltb, pos, length, Option, Some, None}
use Rattle.instruction.specs.Answer.{Answer, accepted, refused}
use Rattle.instruction.specs.declared.mode.Mode.{Mode}
use Rattle.instruction.specs.declared.mode.Mode.TheVariants.{Unwrapped, Wrapping}
use Rattle.listing.specs.Walk.{unchosen}
use Rattle.listing.specs.declared.tabbed.Arrivals.{Arrivals}
use Rattle.listing.specs.declared.tabbed.Arrivals.TheVariants.{Declined}
use Rattle.text.specs.Cut.{cut}
use Rattle.dis_text.specs.Word.{word_of}
use Rattle.dis_text.specs.declared.word.Word.{Word}
use Rattle.dis_text.specs.declared.word.Word.TheVariants.{Number, Wraps, NoArrivals, Pin}

pub record Asked : Type 0 where
  pub entries : List ℕ
  pub pins : List ℕ
  pub mode : Mode
  pub arrivals : Arrivals
  -- the next word is a pin
  pub pinning : Bool

-- before the first word
abbrev pub begun : Asked
begun = record { entries = []; pins = []; mode = Unwrapped; arrivals = unchosen; pinning = false }

-- a number more
abbrev pub with_entry : Asked → ℕ → Asked
with_entry a n = record { entries = a.entries ++ n ∷ []; pins = a.pins; mode = a.mode; arrivals = a.arrivals; pinning = false }

abbrev pub with_pin : Asked → ℕ → Asked
with_pin a n = record { entries = a.entries; pins = a.pins ++ n ∷ []; mode = a.mode; arrivals = a.arrivals; pinning = false }

-- a word may stand here: after `--pin` a number, of at most 256
abbrev pub may_stand : Asked → Option Word → Bool
may_stand a (Some (Number n)) = ltb (length (cond a.pinning a.pins a.entries)) 256
may_stand a (Some Wraps) = not a.pinning
may_stand a (Some NoArrivals) = not a.pinning
may_stand a (Some Pin) = not a.pinning
may_stand a None = false

-- what is asked with it
abbrev pub with_word : Asked → Option Word → Asked
with_word a (Some (Number n)) = cond a.pinning (with_pin a n) (with_entry a n)
with_word a (Some Wraps) = record { entries = a.entries; pins = a.pins; mode = Wrapping; arrivals = a.arrivals; pinning = false }
with_word a (Some NoArrivals) = record { entries = a.entries; pins = a.pins; mode = a.mode; arrivals = Declined; pinning = false }
with_word a (Some Pin) = record { entries = a.entries; pins = a.pins; mode = a.mode; arrivals = a.arrivals; pinning = true }
with_word a None = a

-- these words, the first of which has the number k, after what was asked
unfoldable pub asked_from : ℕ → Asked → List (List ℕ) → Answer Asked
asked_from k a [] = cond a.pinning (refused 13 (pos k ∷ [])) (accepted a)
asked_from k a (w ∷ ws) = cond (may_stand a (word_of w)) (asked_from (suc k) (with_word a (word_of w)) ws) (refused 13 (pos k ∷ []))

unfoldable pub asked_in : List ℕ → Answer Asked
asked_in words = asked_from 2 begun (cut 0 [] words)
