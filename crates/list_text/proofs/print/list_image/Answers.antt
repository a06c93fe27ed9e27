-- The marks of the run are listed, or the line of its refusal is put.
-- Assumes nothing.
use Rattle.std.proofs.Common.{◌≡◌, ◌≤◌, ◌++◌, [], ◌∙◌, List, ℕ, ℤ, length, take, drop, replicate, sym, ap, arith}
use Rattle.instruction.specs.Answer.{refused}
use Rattle.instruction.specs.declared.mode.Mode.TheVariants.{Unwrapped}
use Rattle.marks.specs.declared.sizes.SizeError.TheVariants.{LongImage, ShortMarks}
use Rattle.trace.specs.Run.{run_answer}
use Rattle.listing.specs.Walk.{listing_of}
use Rattle.listing.specs.declared.tabbed.Arrivals.TheVariants.{Declined}
use Rattle.list_text.specs.Refusal.{number_line, value_line}
use Rattle.list_text.specs.Output.{output_text, traced_text, refusal_line}
use Rattle.list_text.proofs.Images.{refused_run, listed_run, ran_to, said}
use Rattle.list_text.proofs.LentRooms.{lent_is, lent_long, again, within, sized}
use Rattle.list_text.proofs.print.list_image.Goals as goal

-- what a refused run prints
refused_text : (image entries marks order : List ℕ) → length image ≤ 16384 → marks ≡ replicate 16384 0 → order ≡ replicate 16384 0 → (n : ℕ) (vs : List ℤ)
    → refused n vs ≡ run_answer Unwrapped image (take (length image) marks) (take (length image) order) entries [] (length image)
    → refusal_line n vs ≡ output_text (traced_text image entries)
refused_text image entries marks order h e f n vs g =
    sym (ap output_text (refused_run Unwrapped image entries [] Declined _ _ (lent_is image 16384 h marks e) (lent_is image 16384 h order f) n vs g))

pub slice_bounds-run-end : goal.slice_bounds-run-end
slice_bounds-run-end c = lent_long c.args.image.now 16384 c.requires c.bytes-marks.result c.bytes-marks.ensures

pub slice_bounds-run-end-2 : goal.slice_bounds-run-end-2
slice_bounds-run-end-2 c = lent_long c.args.image.now 16384 c.requires c.positions-order.result c.positions-order.ensures

pub slice_bounds-marks-end-in-Ok : goal.slice_bounds-marks-end-in-Ok
slice_bounds-marks-end-in-Ok c =
    within c.args.image.now 16384 c.requires c.bytes-marks.result c.bytes-marks.ensures c.run.new.marks c.run.auto.marks

pub slice_bounds-show-end : goal.slice_bounds-show-end
slice_bounds-show-end c =
    sized c.args.image.now 16384 c.requires c.bytes-marks.result c.bytes-marks.ensures c.run.new.marks c.run.auto.marks

pub returns-in-Ok : goal.returns-in-Ok
returns-in-Ok c =
    let a = c.args in
    let image = a.image.now in
    let b = c.bytes-marks.ensures in
    let r = ran_to c.in-Ok.field-0 in
    let front = again image 16384 c.requires c.bytes-marks.result b c.run.new.marks c.run.auto.marks in
    let l = listed_run Unwrapped image a.entries.now [] Declined (omega (arith, c.requires)) _ _ (lent_is image 16384 c.requires c.bytes-marks.result b)
    (lent_is image 16384 c.requires c.positions-order.result c.positions-order.ensures) r.0 (sym r.1 ∙ c.in-Ok.ensures.result_value) _
    (front ∙ c.run.ensures.marks_after) (ap length front ∙ c.run.auto.marks) _ _ a.room.now
    (c.show.ensures.result_value, c.show.ensures.room_after) in
    let h = said (listing_of Unwrapped image (take (length image) (c.run.new.marks ++ drop (length image) c.bytes-marks.result)) Declined) _
    (sym (ap output_text l.0)) _ _ a.room.now (l.1, l.2) in
    record { result_value = h.0; room_after = h.1 }

pub returns-in-Err-Size-LongImage : goal.returns-in-Err-Size-LongImage
returns-in-Err-Size-LongImage c =
    let a = c.args in
    let e : c.in-Err-Size-LongImage.field-0-0 ≡ LongImage c.in-Err-Size-LongImage.field-0-0-0 = rw c.in-Err-Size-LongImage.field-0-is at c.in-Err-Size-LongImage.field-0-0-is in
    let g = rw (c.in-Err-Size-LongImage.field-0-is, e) at c.in-Err-Size-LongImage.ensures.result_value in
    let t = refused_text a.image.now a.entries.now c.bytes-marks.result c.positions-order.result c.requires c.bytes-marks.ensures c.positions-order.ensures 1 _ g in
    let h = said (number_line 1) _ t _ _ a.room.now (c.put_number.ensures.result_value, c.put_number.ensures.room_after) in
    record { result_value = h.0; room_after = h.1 }

pub returns-in-Err-Size-ShortMarks : goal.returns-in-Err-Size-ShortMarks
returns-in-Err-Size-ShortMarks c =
    let a = c.args in
    let e : c.in-Err-Size-ShortMarks.field-0-0 ≡ ShortMarks c.in-Err-Size-ShortMarks.field-0-0-0 = rw c.in-Err-Size-ShortMarks.field-0-is at c.in-Err-Size-ShortMarks.field-0-0-is in
    let g = rw (c.in-Err-Size-ShortMarks.field-0-is, e) at c.in-Err-Size-ShortMarks.ensures.result_value in
    let t = refused_text a.image.now a.entries.now c.bytes-marks.result c.positions-order.result c.requires c.bytes-marks.ensures c.positions-order.ensures 2 _ g in
    let h = said (number_line 2) _ t _ _ a.room.now (c.put_number-in-Err-Size-ShortMarks.ensures.result_value, c.put_number-in-Err-Size-ShortMarks.ensures.room_after) in
    record { result_value = h.0; room_after = h.1 }

pub returns-in-Err-ShortOrder : goal.returns-in-Err-ShortOrder
returns-in-Err-ShortOrder c =
    let a = c.args in
    let g = rw c.in-Err-ShortOrder.field-0-is at c.in-Err-ShortOrder.ensures.result_value in
    let t = refused_text a.image.now a.entries.now c.bytes-marks.result c.positions-order.result c.requires c.bytes-marks.ensures c.positions-order.ensures 3 _ g in
    let h = said (number_line 3) _ t _ _ a.room.now (c.put_number-in-Err-ShortOrder.ensures.result_value, c.put_number-in-Err-ShortOrder.ensures.room_after) in
    record { result_value = h.0; room_after = h.1 }

pub returns-in-Err-Cut : goal.returns-in-Err-Cut
returns-in-Err-Cut c =
    let a = c.args in
    let g = rw c.in-Err-Cut.field-0-is at c.in-Err-Cut.ensures.result_value in
    let t = refused_text a.image.now a.entries.now c.bytes-marks.result c.positions-order.result c.requires c.bytes-marks.ensures c.positions-order.ensures 5 _ g in
    let h = said (value_line 5 c.in-Err-Cut.c.missing) _ t _ _ a.room.now
    (rw c.in-Err-Cut.c-is at c.put_value.ensures.result_value, rw c.in-Err-Cut.c-is at c.put_value.ensures.room_after) in
    record { result_value = h.0; room_after = h.1 }
