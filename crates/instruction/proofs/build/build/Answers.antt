-- What `build` answers in the arms that the check does not close by itself.
-- Assumes nothing.
use Rattle.std.proofs.Common.{◌≡◌, w32, to_z, of_z, arith, rules}
use Rattle.instruction.specs.Forms.{forms, form_at}
use Rattle.instruction.specs.Parts.{made_of}
use Rattle.instruction.proofs.build.build.Goals as goal

pub returns-in-2 : goal.returns-in-2
unfolding made_of form_at forms
returns-in-2 c = let a : to_z w32 (of_z w32 c.args.v.a) ≡ c.args.v.a = search rules in rw (c.in-2.is, a)

pub returns-in_default : goal.returns-in_default
unfolding made_of form_at forms
returns-in_default c = let e : c.args.v.form ≡ 69 = omega arith in rw e
