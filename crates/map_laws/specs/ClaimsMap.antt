-- What is claimed of a packed map. Document 02, W3: 'a map built before a step and then updated equals the one built afresh, and each answer
-- over a built map equals the one worked out from the byte mask'.
-- Assumes nothing.
use Rattle.std.specs.Prelude.{ℕ, ◌+◌, ◌*◌, ◌-◌, ◌<◌, ◌≤◌, false, List, [], ◌∷◌, ◌≡◌, eqb, length, get_or, take, drop}
use Rattle.instruction.specs.Answer.{accepted}
use Rattle.instruction.specs.declared.mode.Mode.{Mode}
use Rattle.targets.specs.At.{size_here}
use Rattle.trace.specs.Step.{StepResult, step_answer, step_marks}
use Rattle.views.specs.Mask.{mask_of}
use Rattle.map.specs.Bits.{first_in}
use Rattle.map.specs.Words.{words_for, code_at}
use Rattle.map.specs.Ask.{test_answer, count_answer, first_answer}
use Rattle.map.specs.Build.{build_answer, build_words}
use Rattle.map.specs.Update.{update_answer, update_words}

-- the marks m before a step at p, the words as lent: after the step both calls are accepted, and the map that was built before it and then
-- updated is the map built afresh
pub record KeptUp (mode : Mode) (image m ws : List ℕ) (p : ℕ) : Type 0 where
  pub builds : build_answer image (step_marks mode image m p) ws ≡ accepted (words_for (length image))
  pub updates : update_answer image (step_marks mode image m p) (build_words image m ws) p ≡ accepted (size_here image p)
  pub same : update_words image (step_marks mode image m p) (build_words image m ws) p ≡ build_words image (step_marks mode image m p) ws

-- so it is wherever the map could be built and the step was accepted
abbrev pub UpdatedIsBuilt : Type 0
UpdatedIsBuilt =
    (mode : Mode) (image m ws : List ℕ) (p k : ℕ) (s : StepResult) → build_answer image m ws ≡ accepted k → step_answer mode image m p ≡ accepted s
    → KeptUp mode image m ws p

-- the sum of a list
unfoldable pub sum : List ℕ → ℕ
sum [] = 0
sum (x ∷ xs) = x + sum xs

-- each answer over the words ws is the one that the byte mask of n bytes gives: the mask byte, the sum of a stretch of them, the first from p on
-- that is 0
pub record Answers (mask ws : List ℕ) (n : ℕ) : Type 0 where
  pub test : (p : ℕ) → p < n → test_answer ws n p ≡ accepted (get_or mask p 0)
  pub count : (b e : ℕ) → b ≤ e → e ≤ n → count_answer ws n b e ≡ accepted (sum (take (e - b) (drop b mask)))
  pub first : (p : ℕ) → p < n → first_answer ws n p ≡ accepted (first_in (λ (q : ℕ). eqb (get_or mask q 0) 0) (n - p) p)

-- so it is over every map that was built
abbrev pub BuiltAnswers : Type 0
BuiltAnswers =
    (image m ws : List ℕ) (k : ℕ) → build_answer image m ws ≡ accepted k → Answers (mask_of image m) (build_words image m ws) (length image)

-- zero bits past the image in the words needed, and the words past those as they were lent
pub record Past (n : ℕ) (lent ws : List ℕ) : Type 0 where
  pub clear : (q : ℕ) → n ≤ q → q < 64 * words_for n → code_at ws q ≡ false
  pub rest : drop (words_for n) ws ≡ drop (words_for n) lent

-- so it is in every map that was built
abbrev pub BuiltPast : Type 0
BuiltPast = (image m ws : List ℕ) (k : ℕ) → build_answer image m ws ≡ accepted k → Past (length image) ws (build_words image m ws)
