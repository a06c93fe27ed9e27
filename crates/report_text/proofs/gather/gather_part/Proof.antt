-- `gather::gather_part` meets its contract.
-- Assumes nothing.
use Prim.Native.Nat.{ℕ, ◌-◌}
use native.Mathlib.Omega.{arith}
use mathlib.Core.Path.{◌≡◌, ap}
use borrow.Author.Rules.{rules}
use borrow.Author.Tests.{not-false}
use lib.ListN.{take}
use Rattle.report_text.proofs.QuietParts.{quiet_going}
use Rattle.report_text.proofs.gather.gather_part.Statement.{statement}
use Rattle.report_text.proofs.gather.gather_part.Tie as tie

returns-3 : tie.Need-returns
returns-3 c =
    let k = c.before.before.before in
    let e = k.before.before.before in
    let a = e.args in
    let z : a.m - 0 ≡ a.m = omega arith in
    let p = e.requires in
    quiet_going a.held a.fresh a.text.now a.m a.room.now _ _ (ap (λ (n : ℕ). take n a.text.now) z) p.0 p.2
    (omega (arith, e.if-m-held.false, p.1)) (e.is_quiet.ensures (not-false _ e.if-not-is_quiet.false-raw)) k.copy.ensures

pub gather_part_spec : {M : Type 1} → statement M
gather_part_spec =
    tie.close
    (tie.spec (λ c. search rules) (λ c κs. search rules) (λ c. search rules) (λ c. search rules) (λ c. search rules) (λ c. search rules)
    (λ c. search rules) (λ c κs. search rules) (λ c κs. search rules) (λ c. search rules) (λ c. search rules) (λ c. search rules)
    (λ c. search rules) (λ c. search rules) (λ c κs. search rules) (λ c. search rules) (λ c. search rules) (λ c. search rules)
    (λ c. search rules) returns-3)
