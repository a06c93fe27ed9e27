-- A byte of a table's word is the table's at its place.
-- Assumes nothing.
use Rattle.std.proofs.Common.{◌≡◌, ℕ, ◌+◌, ◌*◌, ◌/◌, ◌%◌, ◌^◌, ◌<◌, T, ltb, ap, ◌∙◌, arith, ltb→lt}
use Rattle.instruction.specs.Tables.{table_word}
use Rattle.instruction.proofs.Digits.{digit}
use Rattle.instruction.proofs.Every.{up_to, holds}

-- of a table of n words, each byte of which antt has tested
module _ (f : ℕ → ℕ) (n : ℕ) (t : T (up_to (λ j. ltb (f j) 256) (8 * n))) (k : ℕ) (h : k < 8 * n) where
  at_place : table_word f (k / 8) / 2 ^ (8 * (k % 8)) % 256 ≡ f k
  unfolding table_word
  at_place =
      let e : 8 * (k / 8) + k % 8 ≡ k = omega arith in
      digit 8 f 8 (8 * (k / 8)) (k % 8) (λ j g. ltb→lt (f j) 256 (holds (λ i. ltb (f i) 256) (8 * n) t j (omega arith))) (omega arith) ∙ ap f e

  -- the byte r of the word w
  pub read : (w r : ℕ) → w ≡ table_word f (k / 8) → r ≡ w / 2 ^ (8 * (k % 8)) % 256 → r ≡ f k
  read w r e g = g ∙ ap (λ (x : ℕ). x / 2 ^ (8 * (k % 8)) % 256) e ∙ at_place
