-- `next::taken` meets its contract.
-- Assumes nothing.
use mathlib.Core.Path.{ap}
use Prim.Native.Nat.{ℕ}
use borrow.Author.Rules.{rules}
use Rattle.replay.proofs.next.taken.Statement.{statement}
use Rattle.replay.proofs.next.taken.Tie as tie

returns : tie.Need-returns
returns c =
    let a = c.args in
    ap (λ (n : ℕ). record { lines = n; interrupts = a.interrupts; free = a.free; last = a.p; refusal = 0; held = 0; part = 0 }) c.one_more.ensures

pub taken_spec : {M : Type 1} → statement M
taken_spec = tie.close (tie.spec (λ c κs. search rules) returns)
