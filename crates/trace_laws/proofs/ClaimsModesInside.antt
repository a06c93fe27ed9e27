-- In wrapping mode every target is an address, at every kind of operand.
-- Assumes nothing.
use mathlib.Core.Path.{◌≡◌, ap, sym, subst, ◌∙◌}
use mathlib.Core.Bool.{Bool, true, false, cond}
use Prim.Native.Nat.{ℕ, ◌+◌, ◌*◌, ◌-◌, ◌/◌, ◌%◌, ◌≤◌}
use native.Mathlib.Omega.{arith}
use borrow.Author.Tests.{le-ltb}
use lib.IntN.{ℤ, pos, nat_abs, ◌+ℤ◌}
use Rattle.instruction.specs.Encode.{form_in}
use Rattle.instruction.specs.Flow.{flow_of}
use Rattle.instruction.specs.Kinds.{kind_at, is_given}
use Rattle.instruction.specs.Parts.{parts_of}
use Rattle.instruction.specs.Range.{outside, unfit}
use Rattle.instruction.specs.ResolveOperand.{no_address, wrapped}
use Rattle.instruction.specs.declared.flow.Flow.{Flow}
use Rattle.instruction.specs.declared.flow.Flow.TheVariants.{Stop, Next, Jump, Branch}
use Rattle.instruction.specs.declared.instr.Parts.{Parts}
use Rattle.instruction.specs.declared.kind.Kind.{Kind}
use Rattle.instruction.specs.declared.kind.Kind.TheVariants.{Absent, Immediate, Direct, Register, BitNumber, Page, Far, Short, Long}
use Rattle.instruction.specs.declared.kind.Shape.{Shape}
use Rattle.instruction.specs.declared.mode.Mode.TheVariants.{Wrapping}
use Rattle.instruction.proofs.Accepting.{passed}
use Rattle.instruction.proofs.Judging.{accepts}
use Rattle.instruction.proofs.Resolving.{wrapped_less}
use Rattle.instruction.proofs.Sign.{natural}
use Rattle.instruction_laws.specs.PartsMade.{used}
use Rattle.targets.specs.Targets.{next_of, in_mode, address_of, last_of, address_in, by_flow, targets_in, targets_answer}
use Rattle.trace_laws.specs.ClaimsModes.{Inside, WrappingInside}
use Rattle.trace_laws.proofs.ResolvedAddress.{whole}

address : (n : ℕ) → n ≤ 65535 → no_address (pos n) ≡ false
address n h = rw (le-ltb n 0 (omega arith), le-ltb 65535 n h)

wraps : (z : ℤ) → no_address (pos (wrapped z)) ≡ false
wraps z = let h = wrapped_less z in address (wrapped z) (omega arith)

-- a number in the range of a field
smaller : (h : ℕ) → h ≤ 65535 → (z : ℤ) → outside (pos 0) (pos h) z ≡ false → no_address z ≡ false
smaller h l z e = let v = natural h z e in let m = v.most in ap (λ (y : ℤ). no_address y) v.is ∙ address (nat_abs z) (omega arith)

page : (q a : ℕ) → a ≤ 4095 → q % 16 * 4096 + a ≤ 65535
page q a h = omega arith

-- what an operand names whose number fits its field
named : (next : ℕ) (k : Kind) (z : ℤ) → unfit k z ≡ false → used k z ≡ z → no_address (address_of Wrapping next k z) ≡ false
unfolding unfit address_of
named next Absent z e u = ap (λ (y : ℤ). no_address y) (sym u)
named next Immediate z e u = smaller 255 (omega arith) z e
named next Direct z e u = smaller 511 (omega arith) z e
named next Register z e u = smaller 3 (omega arith) z e
named next BitNumber z e u = smaller 7 (omega arith) z e
named next Page z e u =
    address (next / 4096 % 16 * 4096 + nat_abs z) (page (next / 4096) (nat_abs z) (natural 4095 z e).most)
named next Far z e u = e
named next Short z e u = wraps (pos next +ℤ z)
named next Long z e u = address ((next - 1 + nat_abs z) % 65536) (omega arith)

-- the last operand of a shape
last : (s : Shape) (a b c : ℤ) → no_address a ≡ false → no_address b ≡ false → no_address c ≡ false → no_address (last_of s a b c) ≡ false
last s a b c x y z = by (is_given (kind_at s 2)) (is_given (kind_at s 1))
  where
    by : (t u : Bool) → no_address (cond t c (cond u b a)) ≡ false
    by true true = z
    by true false = z
    by false true = y
    by false false = x

by_flow_lem : (f : Flow) (t n : ℤ) → no_address t ≡ false → no_address n ≡ false → Inside (by_flow f t n)
by_flow_lem Stop t n x y = tt
by_flow_lem Next t n x y = (y, tt)
by_flow_lem Jump t n x y = (x, tt)
by_flow_lem Branch t n x y = (x, (y, tt))

pub wrapping_inside : WrappingInside
unfolding targets_answer targets_in address_in
wrapping_inside position i ts e =
    let next : ℕ = next_of position i in
    let k : ℕ → Kind = kind_at (form_in i).shape in
    let one = passed _ _ _ (passed _ _ _ e).1 in
    let two = passed _ _ _ one.1 in
    let three = passed _ _ _ two.1 in
    let a = named next (k 0) (parts_of i).a one.0 (ap (λ (u : Parts). u.a) (whole i)) in
    let b = named next (k 1) (parts_of i).b two.0 (ap (λ (u : Parts). u.b) (whole i)) in
    let c = named next (k 2) (parts_of i).c three.0 (ap (λ (u : Parts). u.c) (whole i)) in
    subst Inside (accepts _ _ ts e)
    (by_flow_lem (flow_of (parts_of i).form) (address_in Wrapping next i) (in_mode Wrapping (pos next)) (last (form_in i).shape _ _ _ a b c) (wraps (pos next)))
