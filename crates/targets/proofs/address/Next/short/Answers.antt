-- What `short` answers, by the mode.
-- Assumes nothing.
use Rattle.std.proofs.Common.{pos, ◌+ℤ◌, ◌∙◌, rules}
use Rattle.instruction.proofs.Sign.{back}
use Rattle.targets.specs.Targets.{address_of}
use Rattle.targets.proofs.ReadBack.{Read}
use Rattle.targets.proofs.ShortSum.{short_fits, short_is}
use Rattle.targets.proofs.Wrapping.{euclid}
use Rattle.targets.proofs.address.Next.short.Goals as goal

pub overflow_add-sum : goal.overflow_add-sum
overflow_add-sum c = short_fits c.args.self.at c.args.z _ (back c.ranges.z) c.args.self.in_memory.1 c.requires

pub returns-in-Unwrapped : goal.returns-in-Unwrapped
unfolding address_of
returns-in-Unwrapped c =
    short_is c.args.self.at c.args.z _ (back c.ranges.z) c.args.self.in_memory.1 c.requires ∙ rw c.in-Unwrapped.is

pub returns-in-Wrapping : goal.returns-in-Wrapping
unfolding address_of
returns-in-Wrapping c =
    let s = short_is c.args.self.at c.args.z _ (back c.ranges.z) c.args.self.in_memory.1 c.requires in
    let f : Read c.rem_euclid.result = search rules in
    f ∙ (rw s at c.rem_euclid.ensures.value) ∙ euclid (pos c.args.self.at +ℤ c.args.z) ∙ rw c.in-Wrapping.is
