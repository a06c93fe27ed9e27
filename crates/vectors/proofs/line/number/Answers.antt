-- Ten digits or fewer fit.
use Rattle.std.proofs.Common.{ℕ, ◌+◌, ◌*◌, ◌^◌, ◌<◌, ◌≤◌, arith, add-one}
use native.Mathlib.Nat.{pow-suc, pow-le-pow_right}
use mir.Syntax.{w64}
use mir.Val.{Fits}
use Rattle.vectors.proofs.line.number.Goals as goal

-- one digit more
more : (n d i : ℕ) → n < 16 ^ i → d < 16 → n * 16 + d < 16 ^ (i + 1)
more n d i h k = rw (add-one, pow-suc) (omega arith)

-- before the last
most : (n i : ℕ) → n < 16 ^ i → i < 10 → n < 2 ^ 40
most n i h k = let r : i ≤ 10 = omega arith in let p : 16 ^ i ≤ 16 ^ 10 = pow-le-pow_right (omega arith) r in omega arith

pub overflow_mul-n : goal.overflow_mul-n
overflow_mul-n c =
    let m = most c.loop-b.n c.loop-b.b-index c.loop-b.invariant (omega (arith, c.loop-b-test.true, c.requires)) in record { fits = omega arith }

pub overflow_add-n : goal.overflow_add-n
overflow_add-n c =
    let m = most c.loop-b.n c.loop-b.b-index c.loop-b.invariant (omega (arith, c.loop-b-test.true, c.requires)) in
    record { fits = omega (arith, c.in_ok-hex_digit.ensures.below) }

pub loop-b-preserved : goal.loop-b-preserved
loop-b-preserved c =
    more c.loop-b.n c.from.result c.loop-b.b-index c.loop-b.invariant (omega (arith, c.from.ensures, c.in_ok-hex_digit.ensures.below))
