-- `line::put_total` meets its contract.
-- Assumes nothing.
use Prim.Native.Nat.{◌+◌}
use native.Mathlib.Omega.{arith}
use borrow.Author.Rules.{rules}
use lib.ListN.{set, length-set}
use Rattle.text.specs.Puts.{Puts}
use Rattle.text.proofs.Putting.{puts_then, puts_length}
use Rattle.list_text.proofs.Bytewise.{byte_put}
use Rattle.report_text.specs.Report.{total_line}
use Rattle.report_text.proofs.line.put_total.Statement.{statement}
use Rattle.report_text.proofs.line.put_total.Tie as tie

abbrev start : tie.After-put_fields-told → tie.Start
start c = c.before.before.before.before

put-fields-requires : tie.Need-put_fields-told-requires
put-fields-requires c κs = let s = c.before.before.before in omega (arith, s.requires, length-set s.args.room.now s.args.at 84)

-- the line's end is inside the room
slice-write-room-2 : tie.Need-bounds-room-told
slice-write-room-2 c =
    let p = c.before.before in
    let s = start p in
    omega (arith, s.requires, p.put_fields-told.ensures.1, puts_length p.put_fields-told.ensures.0, length-set s.args.room.now s.args.at 84)

line : (c : tie.After-put_fields-told) → let a = (start c).args in
    Puts (total_line a.s) a.at a.room.now (set c.put_fields-told.new.room c.put_fields-told.result 10) (c.put_fields-told.result + 1)
unfolding total_line
line c =
    let a = (start c).args in
    puts_then (byte_put 84 a.at a.room.now) (puts_then c.put_fields-told.ensures.0 (byte_put 10 c.put_fields-told.result c.put_fields-told.new.room))

pub put_total_spec : {M : Type 1} → statement M
put_total_spec =
    tie.close
    (tie.spec (λ c. search rules) (λ c. search rules) (λ c. search rules) put-fields-requires slice-write-room-2
    (λ c. search rules) (λ c. puts_length (line c.before.before))
    (λ c. (line c.before.before, omega (arith, c.put_fields-told.ensures.1))))
