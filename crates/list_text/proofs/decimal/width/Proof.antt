-- `decimal::width` meets its contract.
-- Assumes nothing.
use mathlib.Core.Path.{◌≡◌, refl}
use Prim.Native.Nat.{ℕ, ◌+◌, ◌≤◌}
use native.Mathlib.Omega.{arith}
use Rattle.list_text.specs.Decimal.{width}
use Rattle.list_text.proofs.Decimals.{width_one, width_more, width_most}
use Rattle.list_text.proofs.decimal.width.Statement.{statement}
use Rattle.list_text.proofs.decimal.width.Tie as tie

abbrev invariant_loop : tie.invariant-loop-left
invariant_loop n left₀ k₀ left k = (k + left ≤ n + 1) × (k + width left left ≡ 1 + width n n)

abbrev decreases_loop : tie.decreases-loop-left
decreases_loop n left₀ k₀ left k = left

loop-again : tie.Need-loop-left-preserved invariant_loop decreases_loop
loop-again c =
    let l = c.before in
    let h = l.loop-left.invariant.0 in
    let e = l.loop-left.invariant.1 in
    let f = width_more l.loop-left.left c.loop-left-test.true in
    (omega arith, omega (arith, e, f))

returns : tie.Need-returns invariant_loop decreases_loop
returns c =
    let l = c.before in
    let n : ℕ = l.args.n in
    let e = l.loop-left.invariant.1 in
    let f = width_one l.loop-left.left c.loop-left-test.false in
    let g = width_most n n in
    (omega (arith, e, f), omega (arith, e, f, g))

pub width_spec : {M : Type 1} → statement M
width_spec = tie.close (tie.spec invariant_loop decreases_loop (λ c. (omega arith, refl)) (λ c. omega arith) (λ c. omega arith) loop-again returns)
