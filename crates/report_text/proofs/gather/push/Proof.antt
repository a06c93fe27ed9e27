-- `gather::push` meets its contract.
-- Assumes nothing.
use Prim.Native.Nat.{ℕ, min}
use mathlib.Core.Bool.{false, true}
use mathlib.Core.Path.{◌≡◌, refl, sym, ap, ◌∙◌}
use native.Mathlib.Omega.{arith}
use borrow.Author.Rules.{rules}
use lib.Dec.{ltb}
use borrow.Author.Tests.{lt-ltb, le-ltb}
use Rattle.report_text.specs.Term.{most}
use Rattle.report_text.proofs.gather.push.Statement.{statement}
use Rattle.report_text.proofs.gather.push.Tie as tie

returns : tie.Need-returns-then-held-ge-MOST
returns c =
    let h : ℕ = c.args.held in
    let e : min h most ≡ most = omega (arith, c.if-held-ge-MOST.true) in
    rw e (refl, refl)

returns-2 : tie.Need-returns
returns-2 c =
    let h : ℕ = c.args.held in
    let e : min h most ≡ h = omega (arith, c.if-held-ge-MOST.false) in
    rw (e, lt-ltb h most c.if-held-ge-MOST.false) (omega arith, refl)

pub push_spec : {M : Type 1} → statement M
push_spec = tie.close (tie.spec returns (λ c. search rules) (λ c. search rules) (λ c. search rules) returns-2)
