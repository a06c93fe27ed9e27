-- The marks of the run are listed, or its refusal is told.
-- Assumes nothing.
use Rattle.std.proofs.Common.{◌≡◌, ◌≤◌, ◌++◌, ◌∙◌, Err, length, take, drop, refl, sym, ap}
use Rattle.std.proofs.lemmas.Result.{err_from_is_err_and}
use Rattle.instruction.specs.Answer.{refused}
use Rattle.marks.specs.declared.sizes.SizeError.TheVariants.{LongImage, ShortMarks}
use Rattle.trace.specs.Run.{ran_of}
use Rattle.trace.specs.declared.run.RunError.{RunError}
use Rattle.trace.specs.declared.run.RunError.TheVariants.{Size, ShortOrder, Cut}
use Rattle.listing.specs.Walk.{listing_of}
use Rattle.list_text.proofs.Images.{refused_run, listed_run, ran_to}
use Rattle.list_text.proofs.LentRooms.{lent_is, lent_long, again, within, sized}
use Rattle.list_text.proofs.RunRefused.{traced_one}
use Rattle.dis_text.specs.Told.{number_of, values_of}
use Rattle.dis_text.specs.declared.message.DisError.TheVariants.{Run}
use Rattle.dis_text.proofs.Shows.{listed, not_listed, shown_as}
use Rattle.dis_text.proofs.list.list_image.Goals as goal

-- the refusal of a run, as it is told
told : (e : RunError) → refused (number_of (Run e)) (values_of (Run e)) ≡ ran_of (Err e)
told (Size (LongImage n)) = refl
told (Size (ShortMarks n)) = refl
told (ShortOrder n) = refl
told (Cut c) = refl

pub returns-then-n-gt-LIMIT : goal.returns-then-n-gt-LIMIT
returns-then-n-gt-LIMIT c =
    let a = c.args in
    let h = shown_as _ _ (traced_one a.mode a.image.now a.entries.now a.pins.now a.arrivals c.if-n-gt-LIMIT.true) a.room.now _ _
    (c.tell.ensures.result_value, c.tell.ensures.room_after) in
    record { result_value = h.0; room_after = h.1 }

pub slice_bounds-run-end : goal.slice_bounds-run-end
slice_bounds-run-end c = lent_long c.args.image.now 65536 c.if-n-gt-LIMIT.false c.bytes-marks.result c.bytes-marks.ensures

pub slice_bounds-run-end-2 : goal.slice_bounds-run-end-2
slice_bounds-run-end-2 c = lent_long c.args.image.now 65536 c.if-n-gt-LIMIT.false c.positions-order.result c.positions-order.ensures

pub slice_bounds-marks-end-in-Ok : goal.slice_bounds-marks-end-in-Ok
slice_bounds-marks-end-in-Ok c =
    within c.args.image.now 65536 c.if-n-gt-LIMIT.false c.bytes-marks.result c.bytes-marks.ensures c.run.new.marks c.run.auto.marks

pub slice_bounds-listing_with-end : goal.slice_bounds-listing_with-end
slice_bounds-listing_with-end c =
    sized c.args.image.now 65536 c.if-n-gt-LIMIT.false c.bytes-marks.result c.bytes-marks.ensures c.run.new.marks c.run.auto.marks

pub returns-in_err-written-in-Ok : goal.returns-in_err-written-in-Ok
returns-in_err-written-in-Ok c =
    let a = c.args in
    let image = a.image.now in
    let h : length image ≤ 65536 = c.if-n-gt-LIMIT.false in
    let b = c.bytes-marks.ensures in
    let r = ran_to c.in-Ok.field-0 in
    let front = again image 65536 h c.bytes-marks.result b c.run.new.marks c.run.auto.marks in
    let m = take (length image) (c.run.new.marks ++ drop (length image) c.bytes-marks.result) in
    let out = listing_of a.mode image m a.arrivals in
    let l = listed_run a.mode image a.entries.now a.pins.now a.arrivals h _ _ (lent_is image 65536 h c.bytes-marks.result b)
    (lent_is image 65536 h c.positions-order.result c.positions-order.ensures) r.0 (sym r.1 ∙ c.in-Ok.ensures.result_value) _
    (front ∙ c.run.ensures.marks_after) (ap length front ∙ c.run.auto.marks) _ _ a.room.now
    (c.in_err-written-in-Ok.ensures.result_value, c.in_err-written-in-Ok.ensures.room_after) in
    let p = err_from_is_err_and c.from_residual.result c.from_residual.ensures.1 in
    let s = shown_as _ _ l.0 a.room.now _ _ (not_listed out a.room.now c.in_err-written-in-Ok.field-0.0 l.1, l.2) in
    record { result_value = rw (p.1, p.2) s.0; room_after = s.1 }

pub returns-in_ok-written-in-Ok : goal.returns-in_ok-written-in-Ok
returns-in_ok-written-in-Ok c =
    let a = c.args in
    let image = a.image.now in
    let h : length image ≤ 65536 = c.if-n-gt-LIMIT.false in
    let b = c.bytes-marks.ensures in
    let r = ran_to c.in-Ok.field-0 in
    let front = again image 65536 h c.bytes-marks.result b c.run.new.marks c.run.auto.marks in
    let m = take (length image) (c.run.new.marks ++ drop (length image) c.bytes-marks.result) in
    let out = listing_of a.mode image m a.arrivals in
    let l = listed_run a.mode image a.entries.now a.pins.now a.arrivals h _ _ (lent_is image 65536 h c.bytes-marks.result b)
    (lent_is image 65536 h c.positions-order.result c.positions-order.ensures) r.0 (sym r.1 ∙ c.in-Ok.ensures.result_value) _
    (front ∙ c.run.ensures.marks_after) (ap length front ∙ c.run.auto.marks) _ _ a.room.now
    (c.in_ok-written-in-Ok.ensures.result_value, c.in_ok-written-in-Ok.ensures.room_after) in
    let s = shown_as _ _ l.0 a.room.now _ _ (listed out a.room.now _ l.1, l.2) in
    record { result_value = s.0; room_after = s.1 }

pub returns-in-Err : goal.returns-in-Err
returns-in-Err c =
    let a = c.args in
    let image = a.image.now in
    let h : length image ≤ 65536 = c.if-n-gt-LIMIT.false in
    let t = refused_run a.mode image a.entries.now a.pins.now a.arrivals _ _ (lent_is image 65536 h c.bytes-marks.result c.bytes-marks.ensures)
    (lent_is image 65536 h c.positions-order.result c.positions-order.ensures) _ _ (told c.in-Err.e ∙ c.in-Err.ensures.result_value) in
    let s = shown_as _ _ t a.room.now _ _ (c.tell-in-Err.ensures.result_value, c.tell-in-Err.ensures.room_after) in
    record { result_value = s.0; room_after = s.1 }
