-- `asked::push` meets its contract.
-- Assumes nothing.
use mathlib.Core.Path.{refl, sym}
use borrow.Author.Rules.{rules}
use borrow.Author.Tests.{lt-ltb, le-ltb}
use lib.ListN.{length}
use lib.Seq.{set_out}
use Rattle.dis_text.proofs.asked.push.Statement.{statement}
use Rattle.dis_text.proofs.asked.push.Tie as tie

returns : tie.Need-returns-then-room-at
returns c =
    let a = c.args in
    (sym (le-ltb a.at (length a.room.now) c.if-room-at.true), sym (set_out a.room.now a.at a.n c.if-room-at.true))

returns-2 : tie.Need-returns
returns-2 c = let a = c.args in (sym (lt-ltb a.at (length a.room.now) c.if-room-at.false), refl)

pub push_spec : {M : Type 1} → statement M
push_spec = tie.close (tie.spec returns (λ c. search rules) (λ c. search rules) (λ c. search rules) returns-2)
