-- `refusal::put_number` meets its contract.
-- Assumes nothing.
use mathlib.Core.Path.{◌≡◌, ◌∙◌}
use mathlib.Core.List.{[]}
use Prim.Native.Nat.{◌+◌}
use native.Mathlib.Omega.{arith}
use borrow.Author.Rules.{rules}
use lib.ListN.{length, length-set}
use Rattle.instruction.proofs.Judging.{done}
use Rattle.views.proofs.Rooming.{no_room_for}
use Rattle.list_text.specs.Refusal.{number_line}
use Rattle.list_text.proofs.RefusalPutting.{put_shown, number_put, number_length}
use Rattle.list_text.proofs.refusal.put_number.Statement.{statement}
use Rattle.list_text.proofs.refusal.put_number.Tie as tie

-- how much is needed
need : (c : tie.After-width-k) → length (number_line c.args.number) ≡ c.width-k.result + 3
need c = number_length _ c.width-k.result c.width-k.ensures.0

returns : tie.Need-returns-then-room-k
returns c =
    let w = c.before in
    let a = w.args in
    no_room_for [] (number_line a.number) a.room.now (done 0) _ (need w) c.if-room-k.true

requires : tie.Need-put_head-requires
requires c κs = let h = c.if-room-k.false in omega (arith, h)

abbrev widths : tie.After-put_head → tie.After-width-k
widths c = c.before.before.before

-- the room's length stays
long : (c : tie.After-put_head) → length c.put_head.new.room ≡ length (widths c).args.room.now
long c = c.put_head.auto.room

slice-write-room : tie.Need-bounds-room-k
slice-write-room c =
    let p = c.before.before in
    let h = p.if-room-k.false in
    omega (arith, h, long p)

returns-2 : tie.Need-returns
returns-2 c =
    let p = c.before.before in
    let w = widths p in
    let a = w.args in
    let put = number_put a.number a.room.now p.put_head.new.room w.width-k.result w.width-k.ensures.0 p.put_head.ensures in
    put_shown (number_line a.number) a.room.now _ _ (need w) p.if-room-k.false put.wrote

pub put_number_spec : {M : Type 1} → statement M
put_number_spec =
    tie.close
    (tie.spec (λ c κs. search rules) (λ c. search rules) (λ c. search rules) returns requires (λ c. search rules) slice-write-room
    (λ c. search rules) (λ c. let p = c.before.before in length-set p.put_head.new.room _ 10 ∙ long p) returns-2)
