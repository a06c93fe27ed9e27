-- `print::unlist_text` meets its contract.
-- Assumes nothing.
use Rattle.std.proofs.Common.{◌≡◌, ◌∙◌, ℕ, length, ap}
use Rattle.std.proofs.lemmas.List.{length-replicate}
use Rattle.list_text.proofs.Images.{said}
use Rattle.unlist_text.proofs.Prints.{refused_print, accepted_print}
use Rattle.unlist_text.proofs.print.unlist_text.Goals as goal
use Rattle.unlist_text.proofs.print.unlist_text.Goals.{After-bytes-marks}

-- both rooms are for the longest image
image_is : (c : After-bytes-marks) → length c.bytes-image.result ≡ 65536
image_is c = ap length c.bytes-image.ensures ∙ length-replicate {A = ℕ} 65536 0

marks_are : (c : After-bytes-marks) → length c.bytes-marks.result ≡ 65536
marks_are c = ap length c.bytes-marks.ensures ∙ length-replicate {A = ℕ} 65536 0

pub returns-in-Ok : goal.returns-in-Ok
returns-in-Ok c =
    let a = c.args in
    let b = (goal.at.returns-in-Ok c).After-bytes-marks in
    let w = said _ _ (accepted_print a.text.now a.length _ _ (image_is b) (marks_are b) _ c.in-Ok.ensures.result_value c.read_back.new.image _
    c.read_back.ensures.image_after c.first.ensures) _ _ a.room.now (c.put_image.ensures.result_value, c.put_image.ensures.room_after) in
    record { result_value = w.0; room_after = w.1 }

pub returns-in-Err : goal.returns-in-Err
returns-in-Err c =
    let a = c.args in
    let b = (goal.at.returns-in-Err c).After-bytes-marks in
    let w = said _ _ (refused_print a.text.now a.length _ _ (image_is b) (marks_are b) _ _ (c.told-number.ensures ∙ c.in-Err.ensures.result_value)) _ _ a.room.now
    (c.put_value.ensures.result_value, c.put_value.ensures.room_after) in
    record { result_value = w.0; room_after = w.1 }
