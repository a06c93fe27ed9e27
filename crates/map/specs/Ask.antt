-- What is asked of a packed map. Document 02, W3, and refusals 1, 11, 17 in this order: the queries lend the image's length and the words.
-- Assumes nothing.
use Rattle.std.specs.Prelude.{ℕ, ◌-◌, Bool, ◌||◌, List, [], ◌∷◌, ltb, leb, pos, length, Result, Ok, Err}
use Rattle.instruction.specs.Answer.{Answer, accepted, refused, Refusal, refuse, judge}
use Rattle.map.specs.Bits.{bit, count_in, first_in}
use Rattle.map.specs.Words.{words_for, code_at, data_at}
use Rattle.map.specs.declared.ask.AskError.{AskError}
use Rattle.map.specs.declared.ask.AskError.TheVariants.{LongImage, NoRoom, Outside}

-- 1: image over 65,536; 11: too few words; 17: outside the image, or turned round
abbrev pub ask_refusals : List ℕ → ℕ → Bool → ℕ → List Refusal
ask_refusals ws n outside p =
    refuse (ltb 65536 n) 1 (pos n ∷ [])
    ∷ refuse (ltb (length ws) (words_for n)) 11 (pos (words_for n) ∷ [])
    ∷ refuse outside 17 (pos p ∷ [])
    ∷ []

-- one of them, as an answer of any query
abbrev pub ask_refused : {A : Type 0} → AskError → Answer A
ask_refused (LongImage n) = refused 1 (pos n ∷ [])
ask_refused (NoRoom k) = refused 11 (pos k ∷ [])
ask_refused (Outside p) = refused 17 (pos p ∷ [])

-- what was asked for, or what refuses
abbrev pub asked_of : Result ℕ AskError → Answer ℕ
asked_of (Ok v) = accepted v
asked_of (Err e) = ask_refused e

abbrev pub allowed_of : Result (Unit {0}) AskError → Answer (Unit {0})
allowed_of (Ok u) = accepted u
allowed_of (Err e) = ask_refused e

-- the bit of position p
unfoldable pub test_answer : List ℕ → ℕ → ℕ → Answer ℕ
test_answer ws n p = judge (ask_refusals ws n (leb n p) p) (bit (code_at ws p))

-- how many positions from b on and before e are code
unfoldable pub count_answer : List ℕ → ℕ → ℕ → ℕ → Answer ℕ
count_answer ws n b e = judge (ask_refusals ws n (ltb e b || ltb n e) b) (count_in (code_at ws) (e - b) b)

-- the first position from p on that is data; with none left the image length
unfoldable pub first_answer : List ℕ → ℕ → ℕ → Answer ℕ
first_answer ws n p = judge (ask_refusals ws n (leb n p) p) (first_in (data_at ws) (n - p) p)
