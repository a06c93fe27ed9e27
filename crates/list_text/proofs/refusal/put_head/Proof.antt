-- `refusal::put_head` meets its contract.
-- Assumes nothing.
use mathlib.Core.Path.{◌≡◌, ◌∙◌}
use mathlib.Core.List.{List}
use Prim.Native.Nat.{ℕ}
use native.Mathlib.Omega.{arith}
use borrow.Author.Rules.{rules}
use lib.ListN.{length, set, length-set}
use Rattle.list_text.proofs.refusal.put_head.Statement.{statement}
use Rattle.list_text.proofs.refusal.put_head.Tie as tie

-- the first two bytes
begun : (room : List ℕ) → length (set (set room 0 82) 1 9) ≡ length room
begun room = length-set (set room 0 82) 1 9 ∙ length-set room 0 82

put-requires : tie.Need-put-requires
put-requires c κs =
    let s = c.before.before in omega (arith, s.requires, begun s.args.room.now)

same_length : tie.Need-shape_of-room
same_length c =
    let p = c.before.before in p.put.auto.room ∙ begun p.args.room.now

pub put_head_spec : {M : Type 1} → statement M
put_head_spec =
    tie.close (tie.spec (λ c. search rules) (λ c. simp length-set (search rules)) put-requires same_length (λ c. c.put.ensures))
