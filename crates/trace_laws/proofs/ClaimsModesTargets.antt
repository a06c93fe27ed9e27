-- Targets in the two modes: an address is itself modulo 65,536.
-- Assumes nothing.
use mathlib.Core.Path.{◌≡◌, refl, ap, sym, ◌∙◌}
use mathlib.Core.Bool.{Bool, true, false, cond}
use mathlib.Core.List.{List, [], ◌∷◌}
use Prim.Native.Nat.{ℕ, ◌≤◌}
use native.Mathlib.Omega.{arith}
use lib.Dec.{ltb}
use lib.IntN.{ℤ, pos, negsuc, ◌+ℤ◌}
use lib.Signed.{lt_z}
use borrow.Author.Tests.{ltb-false}
use Rattle.instruction.specs.Answer.{refuse, judge}
use Rattle.instruction.specs.Decode.{decode_answer, fields_in}
use Rattle.instruction.specs.Encode.{form_in, misfits}
use Rattle.instruction.specs.Flow.{stops, jumps, branches, flow_of}
use Rattle.instruction.specs.Forms.{forms, form_at, form_of, form_named}
use Rattle.instruction.specs.Kinds.{kinds_of, kind_at, is_given}
use Rattle.instruction.specs.Parts.{parts_of, made_of}
use Rattle.instruction.specs.Pattern.{pattern, pattern_bytes, onto, bits_given, next_bracket}
use Rattle.instruction.specs.Range.{unfit}
use Rattle.instruction.specs.ResolveOperand.{no_address, wrapped}
use Rattle.instruction.specs.declared.flow.Flow.{Flow}
use Rattle.instruction.specs.declared.flow.Flow.TheVariants.{Stop, Next, Jump, Branch}
use Rattle.instruction.specs.declared.instr.Instr.{Instr}
use Rattle.instruction.specs.declared.kind.Kind.{Kind}
use Rattle.instruction.specs.declared.kind.Kind.TheVariants.{Absent, Immediate, Direct, Register, BitNumber, Page, Far, Short, Long}
use Rattle.instruction.specs.declared.mode.Mode.TheVariants.{Unwrapped, Wrapping}
use Rattle.instruction.proofs.Sign.{inside, never}
use Rattle.targets.specs.Targets.{next_of, address_of, address_in, by_flow, targets_in, targets_answer}
use Rattle.trace_laws.specs.ClaimsModes.{TargetsAsBefore, Inside, TargetsAlike, ModesTargets}

between : (z : ℤ) → lt_z z (pos 0) ≡ false → lt_z (pos 65535) z ≡ false → z ≡ pos (wrapped z)
between (pos n) e f = let k : n ≤ 65535 = ltb-false 65535 n f in ap pos (omega arith)
between (negsuc n) e f = absurd (never e)

pub unmoved : (z : ℤ) → no_address z ≡ false → pos (wrapped z) ≡ z
unmoved z e = let h = inside (pos 0) (pos 65535) z e in sym (between z h.0 h.1)

other : (next : ℕ) (k : Kind) (z : ℤ) → (k ≡ Short → ⊥) → address_of Wrapping next k z ≡ address_of Unwrapped next k z
unfolding address_of
other next Absent z o = refl
other next Immediate z o = refl
other next Direct z o = refl
other next Register z o = refl
other next BitNumber z o = refl
other next Page z o = refl
other next Far z o = refl
other next Short z o = absurd (o refl)
other next Long z o = refl

pub targets_as_before : TargetsAsBefore
unfolding address_of targets_in
targets_as_before = record { short = λ next z. refl; others = other; goes = λ next i. refl }

-- what an operand names, where that is an address
same : (next : ℕ) (k : Kind) (z : ℤ) → no_address (address_of Unwrapped next k z) ≡ false → address_of Wrapping next k z ≡ address_of Unwrapped next k z
unfolding address_of
same next Absent z e = refl
same next Immediate z e = refl
same next Direct z e = refl
same next Register z e = refl
same next BitNumber z e = refl
same next Page z e = refl
same next Far z e = refl
same next Short z e = unmoved (pos next +ℤ z) e
same next Long z e = refl

module _ (next : ℕ) (i : Instr) where
  abbrev k : ℕ → Kind
  k n = kind_at (form_in i).shape n

  pub same_address : no_address (address_in Unwrapped next i) ≡ false → address_in Wrapping next i ≡ address_in Unwrapped next i
  unfolding address_in
  same_address e =
      by (is_given (k 2)) (is_given (k 1)) _ _ _ _ _ _ (same next (k 0) (parts_of i).a) (same next (k 1) (parts_of i).b) (same next (k 2) (parts_of i).c) e
    where
      by : (t u : Bool) (a b c a' b' c' : ℤ) → (no_address a ≡ false → a' ≡ a) → (no_address b ≡ false → b' ≡ b) → (no_address c ≡ false → c' ≡ c)
          → no_address (cond t c (cond u b a)) ≡ false → cond t c' (cond u b' a') ≡ cond t c (cond u b a)
      by true true a b c a' b' c' x y z f = z f
      by true false a b c a' b' c' x y z f = z f
      by false true a b c a' b' c' x y z f = y f
      by false false a b c a' b' c' x y z f = x f

  pub same_targets : Inside (targets_in Unwrapped next i) → targets_in Wrapping next i ≡ targets_in Unwrapped next i
  unfolding targets_in
  same_targets h = by (flow_of (parts_of i).form) h
    where
      by : (f : Flow) → Inside (by_flow f (address_in Unwrapped next i) (pos next))
          → by_flow f (address_in Wrapping next i) (pos (wrapped (pos next))) ≡ by_flow f (address_in Unwrapped next i) (pos next)
      by Stop h = refl
      by Next h = ap (λ (n : ℤ). n ∷ []) (unmoved (pos next) h.0)
      by Jump h = ap (λ (t : ℤ). t ∷ []) (same_address h.0)
      by Branch h =
          ap (λ (t : ℤ). t ∷ pos (wrapped (pos next)) ∷ []) (same_address h.0)
          ∙ ap (λ (n : ℤ). address_in Unwrapped next i ∷ n ∷ []) (unmoved (pos next) h.1.0)

pub targets_alike : TargetsAlike
unfolding targets_answer
targets_alike position i h =
    ap (λ (ts : List ℤ). judge (refuse (ltb 65536 (next_of position i)) 14 (pos (next_of position i) ∷ []) ∷ misfits i) ts)
    (same_targets (next_of position i) i h)

pub modes_targets : ModesTargets
unfolding judge decode_answer fields_in forms form_at form_of form_named kinds_of parts_of made_of pattern pattern_bytes onto bits_given next_bracket targets_answer
    targets_in address_in address_of unfit flow_of stops jumps branches
modes_targets = (refl, refl, refl, refl, refl, refl, refl)
