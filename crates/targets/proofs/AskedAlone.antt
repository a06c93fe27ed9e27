-- The one answer for targets asked for alone, from the tests of the code.
-- Assumes nothing.
use Rattle.std.proofs.Common.{◌≡◌, ℕ, ◌<◌, ◌≤◌, List, [], ◌∷◌, ℤ, pos, sym, ◌∙◌, le-ltb, lt-ltb}
use Rattle.instruction.specs.Answer.{accepted, refused}
use Rattle.instruction.proofs.Judging.{pass, stop, done, first_of, past_all}
use Rattle.instruction.specs.Encode.{fit_answer, misfits}
use Rattle.instruction.specs.declared.instr.Instr.{Instr}
use Rattle.instruction.specs.declared.mode.Mode.{Mode}
use Rattle.targets.specs.Targets.{next_of, targets_in, targets_answer}

module _ (mode : Mode) (position : ℕ) (i : Instr) where
  pub past_end : 65536 < next_of position i → refused 14 (pos (next_of position i) ∷ []) ≡ targets_answer mode position i
  unfolding targets_answer
  past_end h = sym (stop _ _ _ (lt-ltb 65536 (next_of position i) h))

  module _ (near : next_of position i ≤ 65536) where
    pub unfitting : (n : ℕ) (vs : List ℤ) → refused n vs ≡ fit_answer i → refused n vs ≡ targets_answer mode position i
    unfolding fit_answer targets_answer
    unfitting n vs e =
        sym (pass _ _ _ (le-ltb 65536 (next_of position i) near) ∙ first_of [] tt (targets_in mode (next_of position i) i) (misfits i) n vs (sym e))

    pub found : accepted tt ≡ fit_answer i → accepted (targets_in mode (next_of position i) i) ≡ targets_answer mode position i
    unfolding fit_answer targets_answer
    found e =
        sym
        (pass _ _ _ (le-ltb 65536 (next_of position i) near)
        ∙ past_all [] tt (targets_in mode (next_of position i) i) (misfits i) (sym e) ∙ done _)
