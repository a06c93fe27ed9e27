-- What is asked is listed, or the word that may not stand there is told.
-- Assumes nothing.
use Rattle.std.proofs.Common.{sym, ap}
use Rattle.instruction.specs.Answer.{Answer}
use Rattle.dis_text.specs.Asked.{Asked}
use Rattle.dis_text.specs.Output.{listed_for, dis_of}
use Rattle.dis_text.proofs.Shows.{shown_as}
use Rattle.dis_text.proofs.print.dis_text.Goals as goal

pub returns-in-Ok : goal.returns-in-Ok
unfolding dis_of
returns-in-Ok c =
    let a = c.args in
    let e = ap (λ (x : Answer Asked). listed_for x a.image.now) (sym c.in-Ok.ensures.pins_after) in
    let h = shown_as _ _ e a.room.now _ _ (c.list_asked.ensures.result_value, c.list_asked.ensures.room_after) in
    record { result_value = h.0; room_after = h.1 }

pub returns-in-Err : goal.returns-in-Err
unfolding dis_of
returns-in-Err c =
    let a = c.args in
    let e = ap (λ (x : Answer Asked). listed_for x a.image.now) (sym c.in-Err.ensures.pins_after) in
    let h = shown_as _ _ e a.room.now _ _ (c.tell.ensures.result_value, c.tell.ensures.room_after) in
    record { result_value = h.0; room_after = h.1 }
