-- Images with B8 0D 21, computed: that the two sets, and what is traced, do differ. Document 02, W13; document 01, edge 12.
-- Proved in proofs/ClaimsBetweenComputed.antt. Assumes nothing.
use Rattle.std.specs.Prelude.{ℕ, true, List, [], ◌∷◌, ◌++◌, ◌≡◌, replicate}
use Rattle.instruction.specs.Answer.{accepted}
use Rattle.instruction.specs.declared.mode.Mode.TheVariants.{Unwrapped}
use Rattle.trace.specs.Run.{run_accepted, run_answer, run_marks}
use Rattle.sweep.specs.Sweep.{sweep_answer, sweep_leaves}
use Rattle.trace_laws.specs.ClaimsBetween.{SetsAgree}
use Rattle.trace_laws.specs.ClaimsImages.{StepsToEnd}
use Rattle.trace_laws.specs.Reachable.{Reachable, SurelyReachable}

-- Not1(0x10D, 0) and a Jmpf to t
abbrev pub flash_to : ℕ → List ℕ
flash_to t = 0xB8 ∷ 0x0D ∷ 0x21 ∷ 0x00 ∷ t ∷ []

-- six elements that are not looked at
abbrev pub lent : List ℕ
lent = replicate 6 9

-- Edge 12 from entry 2: the Jmpf is followed, since 0 is not traced yet, though its bytes alone would not say so. So 0 is traced, which is in
-- the larger set and not in the smaller
pub record EdgeTwelve : Type 0 where
  pub finished : run_answer Unwrapped (flash_to 0) lent lent (2 ∷ []) [] 5 ≡ run_accepted true 2 2
  pub marks : run_marks Unwrapped (flash_to 0) lent lent (2 ∷ []) [] 5 ≡ 2 ∷ 0 ∷ 2 ∷ 0 ∷ 0 ∷ 9 ∷ []
  pub larger : Reachable Unwrapped (flash_to 0) (2 ∷ []) [] 0
  pub smaller : SurelyReachable Unwrapped (flash_to 0) (2 ∷ []) [] 0 → ⊥

-- B8 0D 21 00 04 with entries 0 and 2: as 0, 2 a run does not come to 4, as 2, 0 it does, and sweeps do not in either order
pub record BothOrders : Type 0 where
  pub zero_first : run_answer Unwrapped (flash_to 4) lent lent (0 ∷ 2 ∷ []) [] 5 ≡ run_accepted true 2 2
  pub zero_marks : run_marks Unwrapped (flash_to 4) lent lent (0 ∷ 2 ∷ []) [] 5 ≡ 2 ∷ 0 ∷ 3 ∷ 0 ∷ 0 ∷ 9 ∷ []
  pub two_first : run_answer Unwrapped (flash_to 4) lent lent (2 ∷ 0 ∷ []) [] 5 ≡ run_accepted true 3 3
  pub two_marks : run_marks Unwrapped (flash_to 4) lent lent (2 ∷ 0 ∷ []) [] 5 ≡ 2 ∷ 0 ∷ 2 ∷ 0 ∷ 2 ∷ 9 ∷ []
  pub swept : sweep_answer Unwrapped (flash_to 4) lent (2 ∷ 0 ∷ []) [] ≡ accepted (record { sweeps = 2; steps = 2 })
  pub swept_marks_lem : sweep_leaves Unwrapped (flash_to 4) lent (2 ∷ 0 ∷ []) [] ≡ 2 ∷ 0 ∷ 3 ∷ 0 ∷ 0 ∷ 9 ∷ []
  pub differ : SetsAgree Unwrapped (flash_to 4) (0 ∷ 2 ∷ []) [] true → ⊥

-- B8 0D 21 00 05 68 with entries 0 and 2: the sets agree on the positions that fit, so every order traces the same; but 5, which is cut off,
-- waits in one order and not in the other. The mark at 2 differs too
pub record FirstNotSecond : Type 0 where
  pub agree : SetsAgree Unwrapped (flash_to 5 ++ (0x68 ∷ [])) (0 ∷ 2 ∷ []) [] true
  pub two_first : StepsToEnd Unwrapped (flash_to 5 ++ (0x68 ∷ [])) lent (0 ∷ 2 ∷ []) [] (2 ∷ 0 ∷ 2 ∷ 0 ∷ 0 ∷ 1 ∷ [])
  pub zero_first : StepsToEnd Unwrapped (flash_to 5 ++ (0x68 ∷ [])) lent (0 ∷ 2 ∷ []) [] (2 ∷ 0 ∷ 3 ∷ 0 ∷ 0 ∷ 0 ∷ [])

-- the three together
abbrev pub BetweenSamples : Type 0
BetweenSamples = EdgeTwelve × BothOrders × FirstNotSecond
