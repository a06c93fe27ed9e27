-- What `write` answers, and the room afterwards, by the test of the room.
-- Assumes nothing.
use Rattle.std.proofs.Common.{◌≡◌, ℕ, List, ◌++◌, length, drop, ℤ, ap, arith, length-take, w32, to_z, of_z, rules}
use Rattle.instruction.proofs.Laid.{size_range, too_short_lem, laid}
use Rattle.instruction.proofs.write.write.Goals as goal

abbrev Read : ℤ → Type 0
Read z = to_z w32 (of_z w32 z) ≡ z

pub returns-then-out-n-clause-out_after : goal.returns-then-out-n-clause-out_after
returns-then-out-n-clause-out_after c =
    let a = c.args in (too_short_lem a.fixed a.shape a.v.a a.v.b a.v.c a.out.now _ c.size-n.ensures c.if-out-n.true).1

pub slice_bounds-w-end : goal.slice_bounds-w-end
slice_bounds-w-end c =
    let h : length c.bytes-w.result ≡ 3 = search rules in
    omega (arith, c.size-n.ensures, (size_range c.args.shape).1)

pub slice_bounds-copy_from_slice-end-3 : goal.slice_bounds-copy_from_slice-end-3
slice_bounds-copy_from_slice-end-3 c =
    let h : length c.bytes-w.result ≡ 3 = search rules in
    omega (arith, c.size-n.ensures, (size_range c.args.shape).1, length-take c.size-n.result c.bytes-w.result)

pub copy_from_slice-requires : goal.copy_from_slice-requires
copy_from_slice-requires c =
    let h : length c.bytes-w.result ≡ 3 = search rules in
    omega (arith, c.size-n.ensures, (size_range c.args.shape).1, length-take c.size-n.result c.bytes-w.result, length-take c.size-n.result c.args.out.now)

pub returns-clause-out_after : goal.returns-clause-out_after
returns-clause-out_after c =
    let a = c.args in
    let p : Read a.v.a = search rules in
    let q : Read a.v.b = search rules in
    let r : Read a.v.c = search rules in
    let b = rw (c.code-x.ensures, c.code-y.ensures, c.code-z.ensures, p, q, r) at c.bytes-w.ensures in
    (laid a.fixed a.shape a.v.a a.v.b a.v.c a.out.now _ c.size-n.ensures c.if-out-n.false _ _ b
    (ap (λ (l : List ℕ). l ++ drop c.size-n.result a.out.now) c.copy_from_slice.ensures.after)).1
