-- What `page` answers: the field is not below 0.
-- Assumes nothing.
use Rattle.std.proofs.Common.{ℕ, ◌+◌, ◌*◌, ◌/◌, ◌%◌, pos, ap, ◌∙◌, arith, rules}
use Rattle.instruction.specs.Range.{unfit}
use Rattle.instruction.proofs.Sign.{back, inside, natural}
use Rattle.targets.specs.Targets.{address_of}
use Rattle.targets.proofs.ReadBack.{Read}
use Rattle.targets.proofs.address.Next.page.Goals as goal

pub unsigned-requires : goal.unsigned-requires
unfolding unfit
unsigned-requires c = rw (back c.ranges.z) (inside (pos 0) (pos 4095) c.args.z c.requires).0

pub on_page-requires : goal.on_page-requires
unfolding unfit
on_page-requires c =
    let e = rw (back c.ranges.z) at c.unsigned.ensures in
    let h = (natural 4095 c.args.z c.requires).most in
    omega arith

pub returns : goal.returns
unfolding address_of
returns c =
    let e = rw (back c.ranges.z) at c.unsigned.ensures in
    let f : Read c.signed.result = search rules in
    f ∙ c.signed.ensures ∙ ap pos (c.on_page.ensures.0 ∙ ap (λ (m : ℕ). c.args.self.at / 4096 % 16 * 4096 + m) e)
