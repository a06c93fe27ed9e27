-- What `address_in` answers: the last operand that is given.
-- Assumes nothing.
use Rattle.std.proofs.Common.{sym, ◌∙◌, rules}
use Rattle.targets.proofs.InRange.{fits_all}
use Rattle.targets.proofs.LastOperand.{first, second, third}
use Rattle.targets.proofs.ReadBack.{Read}
use Rattle.targets.proofs.address.Next.address_in.Goals as goal

pub address_of-requires : goal.address_of-requires
address_of-requires c =
    let r : Read c.apart-v.result.c = search rules in
    rw (r, c.kinds-k.ensures, c.apart-v.ensures) (fits_all c.args.instr c.requires).third

pub returns-then-is_given : goal.returns-then-is_given
returns-then-is_given c =
    let r : Read c.apart-v.result.c = search rules in
    let f : Read c.address_of.result = search rules in
    f ∙ (rw (r, c.kinds-k.ensures, c.apart-v.ensures) at c.address_of.ensures)
    ∙ third c.args.self.mode c.args.self.at c.args.instr (rw c.kinds-k.ensures at (sym c.if-is_given.ensures))

pub address_of-requires-then-is_given-2 : goal.address_of-requires-then-is_given-2
address_of-requires-then-is_given-2 c =
    let r : Read c.apart-v.result.b = search rules in
    rw (r, c.kinds-k.ensures, c.apart-v.ensures) (fits_all c.args.instr c.requires).second

pub returns-then-is_given-2 : goal.returns-then-is_given-2
returns-then-is_given-2 c =
    let r : Read c.apart-v.result.b = search rules in
    let p = rw c.kinds-k.ensures at (sym c.if-is_given.ensures) in
    let q = rw c.kinds-k.ensures at (sym c.if-is_given-2.ensures) in
    let f : Read c.address_of-then-is_given-2.result = search rules in
    f ∙ (rw (r, c.kinds-k.ensures, c.apart-v.ensures) at c.address_of-then-is_given-2.ensures)
    ∙ second c.args.self.mode c.args.self.at c.args.instr p q

pub address_of-requires-2 : goal.address_of-requires-2
address_of-requires-2 c =
    let r : Read c.apart-v.result.a = search rules in
    rw (r, c.kinds-k.ensures, c.apart-v.ensures) (fits_all c.args.instr c.requires).first

pub returns : goal.returns
returns c =
    let r : Read c.apart-v.result.a = search rules in
    let p = rw c.kinds-k.ensures at (sym c.if-is_given.ensures) in
    let q = rw c.kinds-k.ensures at (sym c.if-is_given-2.ensures) in
    let f : Read c.address_of-2.result = search rules in
    f ∙ (rw (r, c.kinds-k.ensures, c.apart-v.ensures) at c.address_of-2.ensures)
    ∙ first c.args.self.mode c.args.self.at c.args.instr p q
