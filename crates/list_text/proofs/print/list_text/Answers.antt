-- What was read is traced and listed, or the line of its refusal is put.
-- Assumes nothing.
use Rattle.std.proofs.Common.{◌∙◌, ap, ap₂, sym, length, List, ℕ, arith}
use Rattle.std.proofs.Math.Seq.{length-take-le}
use Rattle.list_text.specs.Refusal.{number_line}
use Rattle.list_text.specs.Output.{output_text, traced_text}
use Rattle.list_text.proofs.Images.{said}
use Rattle.list_text.proofs.Texts.{refused_output, valid_output}
use Rattle.list_text.proofs.Reading.{parsed, read}
use Rattle.list_text.proofs.print.list_text.Goals as goal

pub slice_bounds-image-end : goal.slice_bounds-image-end
slice_bounds-image-end c =
    let r = read c.args.text.now c.entries-entries.result c.bytes-image.result c.entries-entries.ensures c.bytes-image.ensures c.in-Ok.c
    c.in-Ok.ensures.result_value c.parse.new.entries c.parse.new.image c.parse.ensures.entries_after c.parse.ensures.image_after
    c.parse.auto.entries c.parse.auto.image in
    r.few_bytes

pub slice_bounds-list_image-end : goal.slice_bounds-list_image-end
slice_bounds-list_image-end c =
    let r = read c.args.text.now c.entries-entries.result c.bytes-image.result c.entries-entries.ensures c.bytes-image.ensures c.in-Ok.c
    c.in-Ok.ensures.result_value c.parse.new.entries c.parse.new.image c.parse.ensures.entries_after c.parse.ensures.image_after
    c.parse.auto.entries c.parse.auto.image in
    sym (length-take-le c.in-Ok.c.bytes c.parse.new.image r.few_bytes)

pub slice_bounds-entries-end : goal.slice_bounds-entries-end
slice_bounds-entries-end c =
    let r = read c.args.text.now c.entries-entries.result c.bytes-image.result c.entries-entries.ensures c.bytes-image.ensures c.in-Ok.c
    c.in-Ok.ensures.result_value c.parse.new.entries c.parse.new.image c.parse.ensures.entries_after c.parse.ensures.image_after
    c.parse.auto.entries c.parse.auto.image in
    r.few_entries

pub slice_bounds-list_image-end-in-Ok : goal.slice_bounds-list_image-end-in-Ok
slice_bounds-list_image-end-in-Ok c =
    let r = read c.args.text.now c.entries-entries.result c.bytes-image.result c.entries-entries.ensures c.bytes-image.ensures c.in-Ok.c
    c.in-Ok.ensures.result_value c.parse.new.entries c.parse.new.image c.parse.ensures.entries_after c.parse.ensures.image_after
    c.parse.auto.entries c.parse.auto.image in
    sym (length-take-le c.in-Ok.c.entries c.parse.new.entries r.few_entries)

pub list_image-requires : goal.list_image-requires
list_image-requires c =
    let r = read c.args.text.now c.entries-entries.result c.bytes-image.result c.entries-entries.ensures c.bytes-image.ensures c.in-Ok.c
    c.in-Ok.ensures.result_value c.parse.new.entries c.parse.new.image c.parse.ensures.entries_after c.parse.ensures.image_after
    c.parse.auto.entries c.parse.auto.image in
    omega (arith, r.small, ap length r.image_read)

pub returns-in-Ok : goal.returns-in-Ok
returns-in-Ok c =
    let r = read c.args.text.now c.entries-entries.result c.bytes-image.result c.entries-entries.ensures c.bytes-image.ensures c.in-Ok.c
    c.in-Ok.ensures.result_value c.parse.new.entries c.parse.new.image c.parse.ensures.entries_after c.parse.ensures.image_after
    c.parse.auto.entries c.parse.auto.image in
    let h = said _ _ (ap₂ (λ (x y : List ℕ). output_text (traced_text x y)) r.image_read r.entries_read ∙ valid_output c.args.text.now r.valid) _ _
    c.args.room.now (c.list_image.ensures.result_value, c.list_image.ensures.room_after) in
    record { result_value = h.0; room_after = h.1 }

pub returns-in-Err-Malformed : goal.returns-in-Err-Malformed
returns-in-Err-Malformed c =
    let t = c.args.text.now in
    let p = rw c.in-Err-Malformed.field-0-is at c.in-Err-Malformed.ensures.result_value in
    let f = parsed t c.entries-entries.result c.bytes-image.result c.entries-entries.ensures c.bytes-image.ensures in
    let h = said (number_line 13) _ (refused_output t 13 _ (p ∙ f)) _ _ c.args.room.now (c.put_number.ensures.result_value, c.put_number.ensures.room_after) in
    record { result_value = h.0; room_after = h.1 }

pub returns-in-Err-NoRoom : goal.returns-in-Err-NoRoom
returns-in-Err-NoRoom c =
    let t = c.args.text.now in
    let p = rw c.in-Err-NoRoom.field-0-is at c.in-Err-NoRoom.ensures.result_value in
    let f = parsed t c.entries-entries.result c.bytes-image.result c.entries-entries.ensures c.bytes-image.ensures in
    let h = said (number_line 11) _ (refused_output t 11 _ (p ∙ f)) _ _ c.args.room.now
    (c.put_number-in-Err-NoRoom.ensures.result_value, c.put_number-in-Err-NoRoom.ensures.room_after) in
    record { result_value = h.0; room_after = h.1 }
