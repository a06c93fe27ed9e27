-- A bad line, too little room, or all written.
-- Assumes nothing.
use Rattle.std.proofs.Common.{◌≡◌, Err, ◌∙◌, sym, ap, arith}
use Rattle.std.proofs.lemmas.Result.{err_from_is_err_and}
use Rattle.list_text.specs.Text.{parsed_of}
use Rattle.list_text.proofs.Whole.{other, little_room, room_for, shown}
use Rattle.list_text.proofs.read.parse.Goals as goal

pub returns-in_err-c : goal.returns-in_err-c
returns-in_err-c c =
    let p = err_from_is_err_and c.from_residual.result c.from_residual.ensures.1 in
    let a = c.args in
    let v : c.judge_text.result ≡ Err c.in_err-c.field-0.0 = grind arith in
    let h = other a.text.now a.entries.now a.image.now c.in_err-c.field-0.0 (ap parsed_of (sym v) ∙ c.judge_text.ensures) in
    let e : c.from_residual.result ≡ Err c.in_err-c.field-0.0 = cc in
    record { result_value = ap parsed_of e ∙ h.0; entries_after = h.1; image_after = h.2 }

pub returns-then-entries-c : goal.returns-then-entries-c
returns-then-entries-c c =
    let a = c.args in
    let e = c.in_ok-c.ensures in
    let h = little_room a.text.now a.entries.now a.image.now c.in_ok-c.c e c.then-entries-c.either in
    record { result_value = h.0; entries_after = h.1; image_after = h.2 }

pub write_text-requires : goal.write_text-requires
write_text-requires c =
    let a = c.args in
    room_for a.text.now a.entries.now a.image.now c.in_ok-c.c c.in_ok-c.ensures c.if-entries-c.false c.if-image-c.false

pub returns : goal.returns
returns c =
    let a = c.args in
    let h = shown a.text.now a.entries.now a.image.now c.in_ok-c.c c.in_ok-c.ensures c.if-entries-c.false c.if-image-c.false
    c.write_text.new.entries c.write_text.new.image c.write_text.ensures.entries_after c.write_text.ensures.image_after in
    record { result_value = h.0; entries_after = h.1; image_after = h.2 }
