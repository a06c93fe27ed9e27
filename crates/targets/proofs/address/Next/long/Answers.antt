-- What `long` answers: the offset is not below 0.
-- Assumes nothing.
use Rattle.std.proofs.Common.{ℕ, ◌+◌, ◌-◌, ◌%◌, pos, ap, ◌∙◌, arith, rules}
use Rattle.instruction.specs.Range.{unfit}
use Rattle.instruction.proofs.Sign.{back, inside, natural}
use Rattle.targets.specs.Targets.{address_of}
use Rattle.targets.proofs.ReadBack.{Read}
use Rattle.targets.proofs.address.Next.long.Goals as goal

pub unsigned-requires : goal.unsigned-requires
unfolding unfit
unsigned-requires c = rw (back c.ranges.z) (inside (pos 0) (pos 65535) c.args.z c.requires).0

pub behind-requires : goal.behind-requires
unfolding unfit
behind-requires c =
    let e = rw (back c.ranges.z) at c.unsigned.ensures in
    let h = (natural 65535 c.args.z c.requires).most in
    (c.args.self.in_memory.0, c.args.self.in_memory.1, omega arith)

pub returns : goal.returns
unfolding address_of
returns c =
    let e = rw (back c.ranges.z) at c.unsigned.ensures in
    let f : Read c.signed.result = search rules in
    f ∙ c.signed.ensures ∙ ap pos (c.behind.ensures.0 ∙ ap (λ (m : ℕ). (c.args.self.at - 1 + m) % 65536) e)
