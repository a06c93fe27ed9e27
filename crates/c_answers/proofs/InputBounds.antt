-- The numbers that the answers to an input carry are those of its lines, and of what a good input holds: each fits a value of a reply.
-- Assumes nothing.
use mathlib.Core.Bool.{◌||◌}
use mathlib.Core.List.{List, [], ◌∷◌}
use Prim.Native.Nat.{ℕ, suc, ◌+◌, ◌-◌, ◌<◌, ◌≤◌, ◌^◌}
use native.Mathlib.Omega.{arith}
use lib.Dec.{ltb}
use lib.IntN.{pos}
use lib.ListN.{length}
use Rattle.instruction.specs.Answer.{Refusal, refuse, judge}
use Rattle.instruction.proofs.Carried.{Each}
use Rattle.text.specs.Bytes.{bytes_of}
use Rattle.text.specs.Cut.{lines}
use Rattle.list_text.specs.ClaimsInput.{Valid}
use Rattle.list_text.specs.Text.{others, image_lines, image_refusals, input_refusals, counts_of, entries_of, image_of, parse_answer}
use Rattle.list_text.specs.declared.parsed.Input.{Input}
use Rattle.list_text.proofs.Longest.{most_held}
use Rattle.read_back.proofs.Counting.{lines_few}
use Rattle.c_answers.specs.Lengths.{Small, input_lengths}
use Rattle.c_answers.proofs.Fitting.{Fits, Holds, this, judged, judged_then}

-- both counts fit
abbrev pub Few : Input → Type 0
Few c = Small (input_lengths c)

image_each : (k n : ℕ) (ls : List (List ℕ)) → k + length ls ≤ 2 ^ 63 → Each Fits (image_refusals k n ls)
unfolding image_refusals
image_each k n [] h = tt
image_each k n (l ∷ ls) h = (this 13 (omega arith), image_each (suc k) (n + length (bytes_of l)) ls (omega (arith, h)))

others_fewer : (ls : List (List ℕ)) → length (others ls) ≤ length ls - 1
others_fewer [] = omega arith
others_fewer (l ∷ ls) = omega arith

module _ (text : List ℕ) (t : length text < 2 ^ 63) where
  input_each : Each Fits (input_refusals text)
  unfolding input_refusals
  input_each = (this 13 (omega arith), image_each 2 0 (image_lines text) (omega (arith, t, others_fewer (lines text), lines_few text)))

  held_few : Valid text → Few (counts_of text)
  unfolding counts_of
  held_few v = let m = most_held text v in (omega (arith, m.0), (omega (arith, m.1), tt))

  module _ (entries image : List ℕ) where
    -- 11, the last refusal, names the counts of a good input
    abbrev no_room : Refusal
    no_room =
        refuse (ltb (length entries) (length (entries_of text)) || ltb (length image) (length (image_of text))) 11
        (pos (length (entries_of text)) ∷ pos (length (image_of text)) ∷ [])

    room_fits : Valid text → Holds Few (judge (no_room ∷ []) (counts_of text))
    unfolding counts_of
    room_fits v = let few = held_few v in judged Few (no_room ∷ []) (counts_of text) (λ g. few, tt) (λ e. few)

    pub parse_fits : Holds Few (parse_answer text entries image)
    unfolding parse_answer
    parse_fits = judged_then Few (input_refusals text) (no_room ∷ []) (counts_of text) input_each room_fits
