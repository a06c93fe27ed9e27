-- An arm each.
-- Assumes nothing.
use Rattle.std.proofs.Common.{◌≡◌, ℕ, List, ℤ, nat_abs, w32, to_z, of_z, ap, ◌∙◌, inl, inr}
use Rattle.instruction.specs.declared.kind.Kind.{Kind}
use Rattle.instruction.specs.declared.mode.Mode.{Mode}
use Rattle.instruction.proofs.Sign.{back}
use Rattle.targets.specs.Asked.{operand_place}
use Rattle.text.proofs.Putting.{puts_as, puts_none}
use Rattle.listing.specs.Alone.{shown_alone}
use Rattle.listing.specs.Operand.{target, shown}
use Rattle.listing.proofs.Showing.{is_absent, is_immediate, is_direct, is_register, is_bit, is_page, is_far, is_short, is_long}
use Rattle.listing.proofs.operands.put_operand.Goals as goal

-- an operand by its number is shown by its absolute value
shows : (mode : Mode) (next : ℕ) (k : Kind) (z : ℤ) (n : ℕ) → n ≡ nat_abs z → (x : List ℕ) → x ≡ shown (operand_place mode next k z) k n → x ≡ shown_alone mode next k z
shows mode next k z n e x f = f ∙ ap (shown (operand_place mode next k z) k) e

-- one that is shown by its target
aims : (mode : Mode) (next : ℕ) (k : Kind) (z : ℤ) → to_z w32 (of_z w32 z) ≡ z → target (operand_place mode next k z) ≡ shown (operand_place mode next k z) k (nat_abs z)
    → target (operand_place mode next k (to_z w32 (of_z w32 z))) ≡ shown_alone mode next k z
aims mode next k z y e = ap (λ (x : ℤ). target (operand_place mode next k x)) y ∙ e

pub returns-in-Absent : goal.returns-in-Absent
returns-in-Absent c =
    let a = c.args in
    let n = c.number-n.result in
    let v : n ≡ nat_abs a.z = c.number-n.ensures ∙ ap nat_abs (back c.ranges.z) in
    puts_as (shows a.mode a.next a.kind a.z n v _ (is_absent (operand_place a.mode a.next a.kind a.z) n a.kind c.in-Absent.is)) (puts_none _ _)

pub returns-in-Immediate : goal.returns-in-Immediate
returns-in-Immediate c =
    let a = c.args in
    let n = c.number-n.result in
    let v : n ≡ nat_abs a.z = c.number-n.ensures ∙ ap nat_abs (back c.ranges.z) in
    puts_as (shows a.mode a.next a.kind a.z n v _ (is_immediate (operand_place a.mode a.next a.kind a.z) n a.kind c.in-Immediate.is)) c.put_immediate.ensures

pub returns-in-Direct : goal.returns-in-Direct
returns-in-Direct c =
    let a = c.args in
    let n = c.number-n.result in
    let v : n ≡ nat_abs a.z = c.number-n.ensures ∙ ap nat_abs (back c.ranges.z) in
    puts_as (shows a.mode a.next a.kind a.z n v _ (is_direct (operand_place a.mode a.next a.kind a.z) n a.kind c.in-Direct.is)) c.put_hex3.ensures

pub returns-in-Register : goal.returns-in-Register
returns-in-Register c =
    let a = c.args in
    let n = c.number-n.result in
    let v : n ≡ nat_abs a.z = c.number-n.ensures ∙ ap nat_abs (back c.ranges.z) in
    puts_as (shows a.mode a.next a.kind a.z n v _ (is_register (operand_place a.mode a.next a.kind a.z) n a.kind c.in-Register.is)) c.put_register.ensures

pub returns-in-BitNumber : goal.returns-in-BitNumber
returns-in-BitNumber c =
    let a = c.args in
    let n = c.number-n.result in
    let v : n ≡ nat_abs a.z = c.number-n.ensures ∙ ap nat_abs (back c.ranges.z) in
    puts_as (shows a.mode a.next a.kind a.z n v _ (is_bit (operand_place a.mode a.next a.kind a.z) n a.kind c.in-BitNumber.is)) c.put_digit.ensures

pub returns-in-Page : goal.returns-in-Page
returns-in-Page c =
    let a = c.args in
    let t = operand_place a.mode a.next a.kind a.z in
    let n = nat_abs a.z in
    puts_as (aims a.mode a.next a.kind a.z (back c.ranges.z) (elim c.in-Page.is [
      | inl e ↦ is_page t n a.kind e
      | inr (inl e) ↦ is_far t n a.kind e
      | inr (inr (inl e)) ↦ is_short t n a.kind e
      | inr (inr (inr e)) ↦ is_long t n a.kind e
    ])) c.put_target.ensures
