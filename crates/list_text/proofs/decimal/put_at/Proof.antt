-- `decimal::put_at` meets its contract.
-- Assumes nothing.
use Prim.Native.Nat.{◌+◌}
use mathlib.Core.Path.{sym}
use native.Mathlib.Omega.{arith}
use borrow.Author.Rules.{rules}
use lib.Seq.{set_out}
use Rattle.list_text.proofs.decimal.put_at.Statement.{statement}
use Rattle.list_text.proofs.decimal.put_at.Tie as tie

returns : tie.Need-returns-then-room-at
returns c = sym (set_out _ (c.args.at + c.args.i) _ (omega (arith, c.if-room-at.true)))

returns-2 : tie.Need-returns-then-room-at-2
returns-2 c = sym (set_out _ (c.args.at + c.args.i) _ (omega (arith, c.if-room-at.false, c.if-room-at-2.true)))

pub put_at_spec : {M : Type 1} → statement M
put_at_spec =
    tie.close (tie.spec returns (λ c. search rules) returns-2 (λ c. search rules) (λ c. search rules) (λ c. search rules) (λ c. search rules))
