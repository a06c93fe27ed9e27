-- `line::put_image` meets its contract.
-- Assumes nothing.
use Rattle.std.proofs.Common.{[], arith}
use Rattle.instruction.proofs.Judging.{done}
use Rattle.views.proofs.Rooming.{no_room_for}
use Rattle.unlist_text.specs.Unlisted.{image_text}
use Rattle.unlist_text.proofs.Lines.{image_length}
use Rattle.list_text.proofs.RefusalPutting.{put_shown}
use Rattle.unlist_text.proofs.line.put_image.Goals as goal

pub returns-then-room-need : goal.returns-then-room-need
returns-then-room-need c =
    let a = c.args in
    let w = no_room_for [] (image_text a.image.now) a.room.now (done 0) _ (omega (arith, image_length a.image.now, c.div_ceil.ensures)) c.if-room-need.true in
    record { result_value = w.0; room_after = w.1 }

pub put_lines-requires : goal.put_lines-requires
put_lines-requires c = omega (arith, c.if-room-need.false, image_length c.args.image.now, c.div_ceil.ensures)

pub returns : goal.returns
returns c =
    let a = c.args in
    let w = put_shown (image_text a.image.now) a.room.now _ _ (omega (arith, image_length a.image.now, c.div_ceil.ensures)) c.if-room-need.false
    c.put_lines.ensures in
    record { result_value = w.0; room_after = w.1 }
