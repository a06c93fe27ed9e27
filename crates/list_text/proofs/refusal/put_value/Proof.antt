-- `refusal::put_value` meets its contract.
-- Assumes nothing.
use mathlib.Core.Path.{◌≡◌, ◌∙◌}
use mathlib.Core.List.{[]}
use Prim.Native.Nat.{ℕ, ◌+◌}
use native.Mathlib.Omega.{arith}
use borrow.Author.Rules.{rules}
use lib.ListN.{length, length-set}
use Rattle.instruction.proofs.Judging.{done}
use Rattle.views.proofs.Rooming.{no_room_for}
use Rattle.list_text.specs.Refusal.{value_line}
use Rattle.list_text.proofs.RefusalPutting.{put_shown, value_put, value_length}
use Rattle.list_text.proofs.refusal.put_value.Statement.{statement}
use Rattle.list_text.proofs.refusal.put_value.Tie as tie

-- how much is needed
need : (c : tie.After-width-j) → length (value_line c.args.number c.args.value) ≡ c.width-k.result
    + c.width-j.result + 4
need c = value_length _ _ c.width-k.result c.width-j.result c.width-k.ensures.0 c.width-j.ensures.0

returns : tie.Need-returns-then-room-need
returns c =
    let w = c.before in
    let a = w.args in
    no_room_for [] (value_line a.number a.value) a.room.now (done 0) _ (need w) c.if-room-need.true

requires : tie.Need-put_head-requires
requires c κs = let h = c.if-room-need.false in omega (arith, h)

-- the room is long enough, and its length stays
abbrev widths : tie.After-put_head → tie.After-width-j
widths c = c.before.before.before

abbrev start : tie.After-put_head → tie.Start
start c = (widths c).before.before.before

first_long : (c : tie.After-put_head) → length c.put_head.new.room ≡ length (start c).args.room.now
first_long c = c.put_head.auto.room

slice-write-room : tie.Need-bounds-room-k
slice-write-room c =
    let p = c.before.before in
    let h = p.if-room-need.false in
    omega (arith, h, first_long p)

put-requires : tie.Need-put-requires
put-requires c κs =
    let p = c.before.before.before in
    let h = p.if-room-need.false in
    let k : ℕ = (widths p).width-k.result in
    omega (arith, h, first_long p, length-set p.put_head.new.room (k + 2) 9)

abbrev first : tie.After-put → tie.After-put_head
first c = c.before.before.before.before

all_long : (c : tie.After-put) → length c.put.new.room ≡ length (start (first c)).args.room.now
all_long c = c.put.auto.room ∙ length-set (first c).put_head.new.room _ 9 ∙ first_long (first c)

slice-write-room-2 : tie.Need-bounds-room-k-2
slice-write-room-2 c =
    let q = c.before.before in
    let h = (first q).if-room-need.false in
    omega (arith, h, all_long q)

same_length : tie.Need-shape_of-room
same_length c = let q = c.before.before in length-set q.put.new.room _ 10 ∙ all_long q

returns-2 : tie.Need-returns
returns-2 c =
    let q = c.before.before in
    let p = first q in
    let w = widths p in
    let a = (start p).args in
    let put = value_put a.number a.room.now p.put_head.new.room a.value q.put.new.room w.width-k.result
    w.width-j.result w.width-k.ensures.0 w.width-j.ensures.0 p.put_head.ensures q.put.ensures in
    put_shown (value_line a.number a.value) a.room.now _ _ (need w) p.if-room-need.false put.wrote

pub put_value_spec : {M : Type 1} → statement M
put_value_spec =
    tie.close
    (tie.spec (λ c κs. search rules) (λ c κs. search rules) (λ c. search rules) (λ c. search rules) returns requires (λ c. search rules) slice-write-room
    (λ c. search rules) put-requires (λ c. search rules) (λ c. search rules) slice-write-room-2 same_length returns-2)
