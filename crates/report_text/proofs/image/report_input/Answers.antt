-- What is read of a text with good lines is traced; any other is refused with 13.
-- Assumes nothing.
use Rattle.std.proofs.Common.{◌≡◌, ◌≤◌, arith, sym, ap₂, ◌∙◌, length-take-le}
use Rattle.report_text.specs.Image.{traced}
use Rattle.report_text.proofs.Inputs.{input_read, valid_input, bad_input}
use Rattle.report_text.proofs.image.report_input.Goals as goal

pub slice_bounds-image-end : goal.slice_bounds-image-end
slice_bounds-image-end c =
    let p = c.parse in
    let e = c.in-Ok.ensures in
    let r = input_read c.args.text.now c.in-Ok.c _ _ p.new.entries p.new.image c.entries-entries.ensures c.bytes-image.ensures e.result_value e.entries_after e.image_after p.auto.entries p.auto.image in
    r.few_bytes

pub slice_bounds-trace_image-end : goal.slice_bounds-trace_image-end
slice_bounds-trace_image-end c =
    let p = c.parse in
    let e = c.in-Ok.ensures in
    let r = input_read c.args.text.now c.in-Ok.c _ _ p.new.entries p.new.image c.entries-entries.ensures c.bytes-image.ensures e.result_value e.entries_after e.image_after p.auto.entries p.auto.image in
    sym (length-take-le c.in-Ok.c.bytes p.new.image r.few_bytes)

pub slice_bounds-entries-end : goal.slice_bounds-entries-end
slice_bounds-entries-end c =
    let p = c.parse in
    let e = c.in-Ok.ensures in
    let r = input_read c.args.text.now c.in-Ok.c _ _ p.new.entries p.new.image c.entries-entries.ensures c.bytes-image.ensures e.result_value e.entries_after e.image_after p.auto.entries p.auto.image in
    r.few_entries

pub slice_bounds-trace_image-end-in-Ok : goal.slice_bounds-trace_image-end-in-Ok
slice_bounds-trace_image-end-in-Ok c =
    let p = c.parse in
    let e = c.in-Ok.ensures in
    let r = input_read c.args.text.now c.in-Ok.c _ _ p.new.entries p.new.image c.entries-entries.ensures c.bytes-image.ensures e.result_value e.entries_after e.image_after p.auto.entries p.auto.image in
    sym (length-take-le c.in-Ok.c.entries p.new.entries r.few_entries)

pub trace_image-requires : goal.trace_image-requires
trace_image-requires c =
    let p = c.parse in
    let e = c.in-Ok.ensures in
    let r = input_read c.args.text.now c.in-Ok.c _ _ p.new.entries p.new.image c.entries-entries.ensures c.bytes-image.ensures e.result_value e.entries_after e.image_after p.auto.entries p.auto.image in
    r.small

pub returns-in-Ok : goal.returns-in-Ok
returns-in-Ok c =
    let p = c.parse in
    let e = c.in-Ok.ensures in
    let r = input_read c.args.text.now c.in-Ok.c _ _ p.new.entries p.new.image c.entries-entries.ensures c.bytes-image.ensures e.result_value e.entries_after e.image_after p.auto.entries p.auto.image in
    c.trace_image.ensures ∙ ap₂ traced r.image_is r.entries_are ∙ valid_input c.args.text.now r.good

pub returns-in-Err : goal.returns-in-Err
returns-in-Err c =
    bad_input c.args.text.now _ _ c.entries-entries.ensures c.bytes-image.ensures c.in-Err.field-0 c.in-Err.ensures.result_value
