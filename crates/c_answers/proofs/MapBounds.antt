-- The lengths that the answers of the packed map carry are those of lent slices and of the words needed: each fits a value of a reply.
-- Assumes nothing.
use mathlib.Core.Bool.{Bool}
use mathlib.Core.List.{List}
use Prim.Native.Nat.{ℕ, ◌<◌, ◌^◌}
use native.Mathlib.Omega.{arith}
use lib.ListN.{length}
use Rattle.instruction.specs.Answer.{judge}
use Rattle.instruction.proofs.Carried.{each_append}
use Rattle.views.specs.View.{view_refusals}
use Rattle.views.specs.Mask.{mask_of}
use Rattle.targets.specs.At.{size_here}
use Rattle.map.specs.Words.{words_for}
use Rattle.map.specs.Ask.{ask_refusals}
use Rattle.map.specs.Packed.{packed}
use Rattle.map.specs.Build.{build_answer}
use Rattle.map.specs.Update.{update_answer}
use Rattle.map.proofs.Marking.{packed_length}
use Rattle.c_answers.proofs.Fitting.{Fits, Holds, Any, Short, this, judged}
use Rattle.c_answers.proofs.Shown.{views_each, view_fits}

few_words : {n : ℕ} → n < 2 ^ 63 → words_for n < 2 ^ 63
few_words h = omega arith

-- of a query
pub ask_fits : (ws : List ℕ) (n : ℕ) (outside : Bool) (p v : ℕ) → n < 2 ^ 63 → p < 2 ^ 63 → Holds Any (judge (ask_refusals ws n outside p) v)
ask_fits ws n outside p v h k = judged Any _ v (this 1 h, (this 11 (few_words h), (this 17 k, tt))) (λ e. tt)

module _ (image m : List ℕ) (i : length image < 2 ^ 63) (k : length m < 2 ^ 63) (ws : List ℕ) where
  pub build_fits : Holds Short (build_answer image m ws)
  build_fits = view_fits image m i k (packed (mask_of image m)) ws (rw (packed_length image m) (few_words i))

  pub update_fits : (p : ℕ) → p < 2 ^ 63 → size_here image p < 2 ^ 63 → Holds Short (update_answer image m ws p)
  unfolding update_answer
  update_fits p h s =
      judged Short _ (size_here image p)
      (each_append Fits (view_refusals image m) _ (views_each image m i k) (this 11 (few_words i), (this 17 h, tt))) (λ e. s)
