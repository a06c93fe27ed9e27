-- `lines::put_rest` meets its contract.
-- Assumes nothing.
use mathlib.Core.Path.{ap}
use mathlib.Core.List.{◌∷◌, ◌++◌}
use Prim.Native.Nat.{ℕ}
use native.Mathlib.Omega.{arith}
use borrow.Author.Rules.{rules}
use Rattle.text.specs.Puts.{letters}
use Rattle.text.proofs.Putting.{puts_as, puts_then}
use Rattle.listing.specs.Alone.{operands_alone, rest_alone}
use Rattle.listing.proofs.Lining.{puts_word}
use Rattle.listing.proofs.lines.put_rest.Statement.{statement}
use Rattle.listing.proofs.lines.put_rest.Tie as tie

put-operands-requires : tie.Need-put_operands-requires
put-operands-requires c κs =
    let w = c.before.before.before in
    omega (arith, puts_word w.mnemonic.result w.put_word-a.ensures)

returns : tie.Need-returns
unfolding rest_alone
returns c =
    let n = c.before.before in
    let w = n.before.before.before.before in
    let m = w.before in
    let a = m.args in
    puts_as (ap (λ (k : ℕ). 9 ∷ letters 8 k ++ operands_alone a.mode a.next a.v) m.mnemonic.ensures)
    (puts_then w.put_word-a.ensures n.put_operands.ensures)

pub put_rest_spec : {M : Type 1} → statement M
put_rest_spec =
    tie.close (tie.spec (λ c κs. search rules) (λ c κs. search rules) put-operands-requires (λ c. search rules) returns)
