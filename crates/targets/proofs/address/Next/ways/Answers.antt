-- What `ways` answers, by the instruction's flow.
-- Assumes nothing.
use Rattle.std.proofs.Common.{◌≡◌, ℕ, List, [], ◌∷◌, ℤ, pos, ap, rules}
use Rattle.instruction.specs.declared.flow.Flow.{Flow}
use Rattle.instruction.specs.declared.instr.Instr.{Instr}
use Rattle.instruction.specs.declared.mode.Mode.{Mode}
use Rattle.instruction.specs.Flow.{flow_of}
use Rattle.instruction.specs.Parts.{parts_of}
use Rattle.targets.specs.Targets.{in_mode, address_in, by_flow, targets_in}
use Rattle.targets.proofs.ReadBack.{Read}
use Rattle.targets.proofs.address.Next.ways.Goals as goal

-- the targets at the flow that the arm has
at : (mode : Mode) (next : ℕ) (i : Instr) {f : Flow} → f ≡ flow_of (parts_of i).form
    → by_flow f (address_in mode next i) (in_mode mode (pos next)) ≡ targets_in mode next i
unfolding targets_in
at mode next i e = ap (λ (g : Flow). by_flow g (address_in mode next i) (in_mode mode (pos next))) e

-- a target read back from the machine's number
one : {x y z : ℤ} {ts : List ℤ} → x ≡ y → y ≡ z → z ∷ [] ≡ ts → x ∷ [] ≡ ts
one p q e = cc

two : {x y z x' y' z' : ℤ} {ts : List ℤ} → x ≡ y → y ≡ z → x' ≡ y' → y' ≡ z' → z ∷ z' ∷ [] ≡ ts → x ∷ x' ∷ [] ≡ ts
two p q p' q' e = cc

pub returns-in-Stop : goal.returns-in-Stop
returns-in-Stop c = at c.args.self.mode c.args.self.at c.args.instr c.in-Stop.ensures

pub returns-in-Next : goal.returns-in-Next
returns-in-Next c =
    let f : Read c.target.result = search rules in
    one f c.target.ensures (at c.args.self.mode c.args.self.at c.args.instr c.in-Next.ensures)

pub returns-in-Jump : goal.returns-in-Jump
returns-in-Jump c =
    let f : Read c.address_in.result = search rules in
    one f c.address_in.ensures (at c.args.self.mode c.args.self.at c.args.instr c.in-Jump.ensures)

pub returns-in-Branch : goal.returns-in-Branch
returns-in-Branch c =
    let f : Read c.address_in-in-Branch.result = search rules in
    let g : Read c.target-in-Branch.result = search rules in
    two f c.address_in-in-Branch.ensures g c.target-in-Branch.ensures (at c.args.self.mode c.args.self.at c.args.instr c.in-Branch.ensures)
