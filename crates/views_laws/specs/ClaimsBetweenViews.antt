-- Which bytes are code in images that do hold B8 0D 21. Document 02, W13, for the bytes: document 01, 'Views'.
-- Proved in proofs/ClaimsBetweenViews.antt, the computed example in proofs/ClaimsBetweenMasks.antt. Assumes nothing.
use Rattle.std.specs.Prelude.{ℕ, ◌<◌, true, List, [], ◌∷◌, ◌++◌, ◌≡◌, length, get_or}
use Rattle.instruction.specs.declared.mode.Mode.{Mode}
use Rattle.instruction.specs.declared.mode.Mode.TheVariants.{Unwrapped}
use Rattle.trace.specs.Run.{run_marks}
use Rattle.trace_laws.specs.ClaimsBetween.{SetsAgree}
use Rattle.trace_laws.specs.ClaimsBetweenSamples.{flash_to}
use Rattle.trace_laws.specs.ClaimsJoin.{TracedToEnd}
use Rattle.trace_laws.specs.Reachable.{SurelyReachable}
use Rattle.views.specs.Mask.{mask_of}
use Rattle.views_laws.specs.ClaimsCode.{CoveredBy, Code, TellsCode}

-- b is code in any order: it lies under an instruction that fits, at a position reachable in any case
abbrev pub SurelyCode : Mode → List ℕ → List ℕ → List ℕ → ℕ → Type 0
SurelyCode mode image entries pins b = CoveredBy (SurelyReachable mode image entries pins) image b

-- whatever the order, a byte of the smaller kind has 1 in the mask, and a byte that is not of the larger has 0
abbrev pub MaskBetween : Type 0
MaskBetween =
    (mode : Mode) (image entries pins m : List ℕ) → TracedToEnd mode image entries pins m → (b : ℕ) → b < length image
    → (SurelyCode mode image entries pins b → get_or (mask_of image m) b 0 ≡ 1)
    × ((Code mode image entries pins b → ⊥) → get_or (mask_of image m) b 0 ≡ 0)

-- where the two reachable sets agree on the positions that fit, the mask has 1 at each byte of code and 0 at every other byte
abbrev pub AgreedCodeBytes : Type 0
AgreedCodeBytes =
    (mode : Mode) (image entries pins m : List ℕ) → SetsAgree mode image entries pins true → TracedToEnd mode image entries pins m
    → (b : ℕ) → b < length image → TellsCode mode image entries pins m b

-- so there every order gives the same mask
abbrev pub AgreedSameMask : Type 0
AgreedSameMask =
    (mode : Mode) (image entries pins m m' : List ℕ) → SetsAgree mode image entries pins true
    → TracedToEnd mode image entries pins m → TracedToEnd mode image entries pins m' → mask_of image m ≡ mask_of image m'

-- Not1(0x10D, 0), a Jmpf to 5 and a Ret there
abbrev pub flash_ret : List ℕ
flash_ret = flash_to 5 ++ (0xA0 ∷ [])

-- where they do not, masks can differ: B8 0D 21 00 05 A0 with entries 0 and 2, by runs. As 0, 2 the Ret at 5 is not code, as 2, 0 it is
abbrev pub MasksDiffer : Type 0
MasksDiffer =
    (mask_of flash_ret (run_marks Unwrapped flash_ret flash_ret flash_ret (0 ∷ 2 ∷ []) [] 6) ≡ 1 ∷ 1 ∷ 1 ∷ 1 ∷ 1 ∷ 0 ∷ [])
    × (mask_of flash_ret (run_marks Unwrapped flash_ret flash_ret flash_ret (2 ∷ 0 ∷ []) [] 6) ≡ 1 ∷ 1 ∷ 1 ∷ 1 ∷ 1 ∷ 1 ∷ [])
