-- A field of a pattern, by the kind of its operand: the numbers below its limit stand for operands that fit, and every operand that fits has
-- such a number.
-- Assumes nothing.
use mathlib.Core.Path.{◌≡◌}
use mathlib.Core.Bool.{false}
use Prim.Native.Nat.{ℕ, ◌<◌}
use lib.IntN.{ℤ}
use Rattle.instruction.specs.Code.{operand_of, code_of}
use Rattle.instruction.specs.Range.{unfit}
use Rattle.instruction.specs.declared.kind.Kind.{Kind}
use Rattle.instruction.specs.declared.kind.Kind.TheVariants.{Absent, Immediate, Direct, Register, BitNumber, Page, Far, Short, Long}
use Rattle.instruction_laws.specs.PartsMade.{used}

-- how many numbers a field holds
unfoldable pub limit : Kind → ℕ
limit Absent = 1
limit Immediate = 256
limit Direct = 512
limit Register = 4
limit BitNumber = 8
limit Page = 4096
limit Far = 65536
limit Short = 256
limit Long = 65536

-- the number n stands for the operand z in a field of a kind
pub record Field (k : Kind) (n : ℕ) (z : ℤ) : Type 0 where
  pub less : n < limit k
  pub operand : operand_of k n ≡ z
  pub code : code_of z ≡ n
  pub fit : unfit k z ≡ false
  pub kept : used k z ≡ z

-- a number below the limit stands for an operand, and an operand that fits has a number
pub record Law (k : Kind) : Type 0 where
  pub number : (n : ℕ) → n < limit k → Field k n (operand_of k n)
  pub operand : (z : ℤ) → unfit k z ≡ false → used k z ≡ z → Field k (code_of z) z

-- an operand fits where a number stands for it
pub back : (k : Kind) → ((n : ℕ) → n < limit k → Field k n (operand_of k n)) → (n : ℕ) {z : ℤ} → n < limit k → operand_of k n ≡ z → Field k (code_of z) z
back k number n l e = let f : Field k n (operand_of k n) = number n l in rw (← e, f.code) f
