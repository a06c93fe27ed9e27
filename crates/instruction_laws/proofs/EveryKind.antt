-- The law of fields at every kind. All kinds but short offsets hold the numbers from 0 to a highest one.
-- Assumes nothing.
use mathlib.Core.Path.{◌≡◌, refl, ap, sym, ◌∙◌}
use mathlib.Core.Bool.{false}
use Prim.Native.Nat.{ℕ, suc, ◌<◌}
use native.Mathlib.Omega.{arith}
use lib.IntN.{ℤ, pos, nat_abs}
use borrow.Author.Tests.{le-ltb}
use Rattle.instruction.specs.Code.{operand_of}
use Rattle.instruction.specs.Range.{outside, unfit}
use Rattle.instruction.specs.declared.kind.Kind.{Kind}
use Rattle.instruction.specs.declared.kind.Kind.TheVariants.{Absent, Immediate, Direct, Register, BitNumber, Page, Far, Short, Long}
use Rattle.instruction.proofs.Sign.{Natural, natural}
use Rattle.instruction_laws.specs.PartsMade.{used}
use Rattle.instruction_laws.proofs.Fields.{limit, Field, Law, back}
use Rattle.instruction_laws.proofs.Offsets.{short, short_back}

-- a number from 0 to h is in that range
plain : (h n : ℕ) → n < suc h → outside (pos 0) (pos h) (pos n) ≡ false
plain h n l = rw (le-ltb n 0 (omega arith), le-ltb h n (omega arith))

-- a kind that holds the numbers from 0 to h
module _ (k : Kind) (h : ℕ) (limited : limit k ≡ suc h) (ranged : (z : ℤ) → unfit k z ≡ outside (pos 0) (pos h) z) (same : (n : ℕ) → operand_of k n ≡ pos n)
    (kept : (z : ℤ) → used k z ≡ z) where
  number : (n : ℕ) → n < limit k → Field k n (operand_of k n)
  number n l =
      record { less = l; operand = refl; code = rw (same n); fit = rw (same n, ranged (pos n)) (plain h n (rw limited at l)); kept = kept (operand_of k n) }

  from_zero : Law k
  from_zero =
      record {
        number = number;
        operand = λ z u e. let m : Natural z h = natural h z (rw (ranged z) at u) in
            back k number (nat_abs z) (rw limited (omega arith)) (same (nat_abs z) ∙ sym m.is);
      }

-- no operand: its number is 0
nothing : (n : ℕ) → n < 1 → Field Absent n (pos n)
unfolding limit unfit
nothing n l = record { less = l; operand = refl; code = refl; fit = refl; kept = ap pos (omega arith) }

pub law : (k : Kind) → Law k
unfolding limit unfit
law Absent = record { number = nothing; operand = λ z u e. back Absent nothing 0 (omega arith) e }
law Immediate = from_zero Immediate 255 refl (λ z. refl) (λ n. refl) (λ z. refl)
law Direct = from_zero Direct 511 refl (λ z. refl) (λ n. refl) (λ z. refl)
law Register = from_zero Register 3 refl (λ z. refl) (λ n. refl) (λ z. refl)
law BitNumber = from_zero BitNumber 7 refl (λ z. refl) (λ n. refl) (λ z. refl)
law Page = from_zero Page 4095 refl (λ z. refl) (λ n. refl) (λ z. refl)
law Far = from_zero Far 65535 refl (λ z. refl) (λ n. refl) (λ z. refl)
law Short = record { number = short; operand = λ z u e. short_back z u }
law Long = from_zero Long 65535 refl (λ z. refl) (λ n. refl) (λ z. refl)
