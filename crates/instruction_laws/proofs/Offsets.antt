-- The field of a short offset: a byte below 128 stands for itself, and another for 256 less.
-- Assumes nothing.
use mathlib.Core.Path.{◌≡◌, refl, ap}
use mathlib.Core.Bool.{Bool, true, false}
use Prim.Native.Nat.{ℕ, ◌-◌, ◌<◌, ◌≤◌}
use native.Mathlib.Omega.{arith}
use lib.Dec.{ltb}
use lib.IntN.{ℤ, pos, negsuc}
use borrow.Author.Tests.{ltb-true, ltb-false, lt-ltb, le-ltb}
use Rattle.instruction.specs.Code.{short_of, code_of}
use Rattle.instruction.specs.Range.{outside, unfit}
use Rattle.instruction.specs.declared.kind.Kind.TheVariants.{Short}
use Rattle.instruction.proofs.Sign.{inside}
use Rattle.instruction_laws.proofs.Fields.{limit, Field, back}

pub short : (n : ℕ) → n < 256 → Field Short n (short_of n)
unfolding limit unfit
short n l = by (ltb n 128) refl
  where
    by : (t : Bool) → ltb n 128 ≡ t → Field Short n (short_of n)
    by true e =
        let h : n < 128 = ltb-true n 128 e in
        record { less = l; operand = refl; code = rw e; fit = rw (e, le-ltb 127 n (omega arith)); kept = refl }
    by false e =
        let h : 128 ≤ n = ltb-false n 128 e in
        record { less = l; operand = refl; code = rw e (omega arith); fit = rw (e, le-ltb 127 (255 - n) (omega arith)); kept = refl }

pub short_back : (z : ℤ) → outside (negsuc 127) (pos 127) z ≡ false → Field Short (code_of z) z
unfolding limit
short_back (pos n) u =
    let h : n ≤ 127 = ltb-false 127 n u in
    back Short short n (omega arith) (rw (lt-ltb n 128 (omega arith)))
short_back (negsuc n) u =
    let h : n ≤ 127 = ltb-false 127 n (inside (negsuc 127) (pos 127) (negsuc n) u).0 in
    back Short short (255 - n) (omega arith) (rw (le-ltb (255 - n) 128 (omega arith)) (ap negsuc (omega arith)))
