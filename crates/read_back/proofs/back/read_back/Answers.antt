-- `back::read_back` meets its contract.
-- Assumes nothing.
use Rattle.std.proofs.Common.{◌≡◌, ◌∙◌, ℕ, List, ◌++◌, length, take, drop, replicate, sym, ap, subst, arith}
use Rattle.std.proofs.lemmas.List.{length-replicate, take_at}
use Rattle.std.proofs.lemmas.Result.{err_from_is_err_and}
use Rattle.views.proofs.Fronts.{take_replicate}
use Rattle.instruction.specs.Answer.{accepted}
use Rattle.read_back.specs.Back.{restored_of}
use Rattle.read_back.specs.LinesLeave.{LinesLeave}
use Rattle.read_back.proofs.Backs.{Is, too_long, short_marks, no_room_lem, is_bad, is_done}
use Rattle.read_back.proofs.back.read_back.Goals as goal
use Rattle.read_back.proofs.back.read_back.Goals.{After-no_bytes-bytes, After-from_residual, After-put_marks}

-- the part lent is empty and has the image's length
blank : (c : After-no_bytes-bytes) → take c.args.length c.no_bytes-bytes.result ≡ replicate c.args.length 0
blank c = ap (take c.args.length) c.no_bytes-bytes.ensures ∙ take_replicate c.args.length 65536 c.if-length-gt-LIMIT.false

part : (c : After-no_bytes-bytes) → c.args.length ≡ length (take c.args.length c.no_bytes-bytes.result)
part c = sym (ap length (blank c) ∙ length-replicate {A = ℕ} c.args.length 0)

pub returns-then-length-gt-LIMIT-clause-result_value : goal.returns-then-length-gt-LIMIT-clause-result_value
returns-then-length-gt-LIMIT-clause-result_value c =
    let a = c.args in (too_long a.mode a.text.now a.length a.image.now a.marks.now c.if-length-gt-LIMIT.true).0

pub returns-then-length-gt-LIMIT-clause-image_after : goal.returns-then-length-gt-LIMIT-clause-image_after
returns-then-length-gt-LIMIT-clause-image_after c =
    let a = c.args in (too_long a.mode a.text.now a.length a.image.now a.marks.now c.if-length-gt-LIMIT.true).1

pub returns-then-length-gt-LIMIT-clause-marks_after : goal.returns-then-length-gt-LIMIT-clause-marks_after
returns-then-length-gt-LIMIT-clause-marks_after c =
    let a = c.args in (too_long a.mode a.text.now a.length a.image.now a.marks.now c.if-length-gt-LIMIT.true).2

pub returns-then-marks-length-clause-result_value : goal.returns-then-marks-length-clause-result_value
returns-then-marks-length-clause-result_value c =
    let a = c.args in (short_marks a.mode a.text.now a.length a.image.now a.marks.now c.if-length-gt-LIMIT.false c.if-marks-length.true).0

pub returns-then-marks-length-clause-image_after : goal.returns-then-marks-length-clause-image_after
returns-then-marks-length-clause-image_after c =
    let a = c.args in (short_marks a.mode a.text.now a.length a.image.now a.marks.now c.if-length-gt-LIMIT.false c.if-marks-length.true).1

pub returns-then-marks-length-clause-marks_after : goal.returns-then-marks-length-clause-marks_after
returns-then-marks-length-clause-marks_after c =
    let a = c.args in (short_marks a.mode a.text.now a.length a.image.now a.marks.now c.if-length-gt-LIMIT.false c.if-marks-length.true).2

pub returns-then-image-length-clause-result_value : goal.returns-then-image-length-clause-result_value
returns-then-image-length-clause-result_value c =
    let a = c.args in
    (no_room_lem a.mode a.text.now a.length a.image.now a.marks.now c.if-length-gt-LIMIT.false c.if-marks-length.false c.if-image-length.true).0

pub returns-then-image-length-clause-image_after : goal.returns-then-image-length-clause-image_after
returns-then-image-length-clause-image_after c =
    let a = c.args in
    (no_room_lem a.mode a.text.now a.length a.image.now a.marks.now c.if-length-gt-LIMIT.false c.if-marks-length.false c.if-image-length.true).1

pub returns-then-image-length-clause-marks_after : goal.returns-then-image-length-clause-marks_after
returns-then-image-length-clause-marks_after c =
    let a = c.args in
    (no_room_lem a.mode a.text.now a.length a.image.now a.marks.now c.if-length-gt-LIMIT.false c.if-marks-length.false c.if-image-length.true).2

pub read_lines-requires : goal.read_lines-requires
read_lines-requires c =
    let o = (goal.at.read_lines-requires c).After-no_bytes-bytes in
    let p = part o in
    (blank o ∙ ap (λ (k : ℕ). replicate k 0) p, c.table-table.ensures, omega (arith, p, c.if-length-gt-LIMIT.false))

-- a refusal of the lines
bad : (c : After-from_residual) → c.args.length ≡ length (take c.args.length c.no_bytes-bytes.result)
    → Is c.args.mode c.args.text.now c.args.length c.args.image.now c.args.marks.now (restored_of c.from_residual.result) c.args.image.now c.args.marks.now
bad c p =
    let a = c.args in
    let q = err_from_is_err_and c.from_residual.result c.from_residual.ensures.1 in
    rw (q.1, q.2)
    (is_bad a.mode a.text.now a.length a.image.now a.marks.now c.if-length-gt-LIMIT.false c.if-marks-length.false c.if-image-length.false
    c.read_lines.new.image c.read_lines.new.table c.read_lines.result
    (subst (λ (k : ℕ). LinesLeave a.mode a.text.now k c.read_lines.new.image c.read_lines.new.table (restored_of c.read_lines.result)) (sym p)
    c.read_lines.ensures)
    c.in_err-lines.field-0.0 c.in_err-lines.was)

pub returns-in_err-lines-clause-result_value : goal.returns-in_err-lines-clause-result_value
returns-in_err-lines-clause-result_value c = (bad c (part (goal.at.returns-in_err-lines-clause-result_value c).After-no_bytes-bytes)).0

pub returns-in_err-lines-clause-image_after : goal.returns-in_err-lines-clause-image_after
returns-in_err-lines-clause-image_after c = (bad c (part (goal.at.returns-in_err-lines-clause-image_after c).After-no_bytes-bytes)).1

pub returns-in_err-lines-clause-marks_after : goal.returns-in_err-lines-clause-marks_after
returns-in_err-lines-clause-marks_after c = (bad c (part (goal.at.returns-in_err-lines-clause-marks_after c).After-no_bytes-bytes)).2

-- all is put back
done : (c : After-put_marks) → c.args.length ≡ length (take c.args.length c.no_bytes-bytes.result)
    → Is c.args.mode c.args.text.now c.args.length c.args.image.now c.args.marks.now (accepted c.in_ok-lines.lines)
    (c.copy_from_slice.new.self ++ drop c.args.length c.args.image.now) c.put_marks.new.marks
done c p =
    let a = c.args in
    let new : List ℕ = c.read_lines.new.image in
    let n : length new ≡ a.length = c.read_lines.auto.image ∙ sym p in
    is_done a.mode a.text.now a.length a.image.now a.marks.now c.if-length-gt-LIMIT.false c.if-marks-length.false c.if-image-length.false
    new c.read_lines.new.table c.read_lines.result
    (subst (λ (k : ℕ). LinesLeave a.mode a.text.now k new c.read_lines.new.table (restored_of c.read_lines.result)) (sym p) c.read_lines.ensures)
    c.in_ok-lines.lines c.in_ok-lines.was _ _
    (ap (λ (x : List ℕ). x ++ drop a.length a.image.now)
    (c.copy_from_slice.ensures.after ∙ take_at new (drop a.length c.no_bytes-bytes.result) a.length n)
    ∙ ap (λ (k : ℕ). new ++ drop k a.image.now) (sym n))
    c.put_marks.ensures

pub returns-clause-result_value : goal.returns-clause-result_value
returns-clause-result_value c =
    (done (goal.at.returns-clause-result_value c).After-put_marks (part (goal.at.returns-clause-result_value c).After-no_bytes-bytes)).0

pub returns-clause-image_after : goal.returns-clause-image_after
returns-clause-image_after c =
    (done (goal.at.returns-clause-image_after c).After-put_marks (part (goal.at.returns-clause-image_after c).After-no_bytes-bytes)).1

pub returns-clause-marks_after : goal.returns-clause-marks_after
returns-clause-marks_after c =
    (done (goal.at.returns-clause-marks_after c).After-put_marks (part (goal.at.returns-clause-marks_after c).After-no_bytes-bytes)).2
