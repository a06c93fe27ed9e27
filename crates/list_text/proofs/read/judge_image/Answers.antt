-- A step at each line.
-- Assumes nothing.
use Rattle.std.proofs.Common.{◌≡◌, Some, None, refl, arith}
use Rattle.std.proofs.lemmas.Result.{err_from_is_err_and}
use Rattle.text.proofs.Cuts.{piece_inside}
use Rattle.list_text.specs.declared.parsed.ParseError.TheVariants.{Malformed}
use Rattle.list_text.proofs.Pairs.{small_line}
use Rattle.list_text.proofs.Turns.{judge_end, judge_bad, judge_over, judge_next}
use Rattle.list_text.proofs.read.judge_image.Goals as goal

pub slice_bounds-judge-end : goal.slice_bounds-judge-end
slice_bounds-judge-end c = piece_inside 10 c.args.text.now c.loop-at.at c.end-e.result c.end-e.ensures (omega arith)

pub returns-in_err-n : goal.returns-in_err-n
returns-in_err-n c =
    let p = err_from_is_err_and c.from_residual.result c.from_residual.ensures.1 in
    let v : c.judge.result ≡ None = grind arith in
    let d : c.in_err-n.field-0.0 ≡ Malformed c.loop-at.k = grind arith in
    rw (p.1, p.2, d)
    (judge_bad c.args.text.now c.args.from c.args.entries c.loop-at.at c.loop-at.k c.loop-at.bytes c.loop-at.invariant c.end-e.result c.end-e.ensures
    c.loop-at-test.true c.judge.result c.judge.ensures v)

pub overflow_add-bytes : goal.overflow_add-bytes
overflow_add-bytes c =
    let v : c.judge.result ≡ Some c.in_ok-n.n = grind arith in
    let k = small_line _ c.judge.result c.judge.ensures _ v in
    record { fits = omega (arith, c.loop-at.invariant.few) }

pub returns-then-bytes-gt-MOST_BYTES : goal.returns-then-bytes-gt-MOST_BYTES
returns-then-bytes-gt-MOST_BYTES c =
    let v : c.judge.result ≡ Some c.in_ok-n.n = grind arith in
    judge_over c.args.text.now c.args.from c.args.entries c.loop-at.at c.loop-at.k c.loop-at.bytes c.loop-at.invariant c.end-e.result c.end-e.ensures
    c.loop-at-test.true c.judge.result c.judge.ensures c.in_ok-n.n v c.if-bytes-gt-MOST_BYTES.true

pub loop-at-preserved : goal.loop-at-preserved
loop-at-preserved c =
    let v : c.judge.result ≡ Some c.in_ok-n.n = grind arith in
    judge_next c.args.text.now c.args.from c.args.entries c.loop-at.at c.loop-at.k c.loop-at.bytes c.loop-at.invariant c.end-e.result c.end-e.ensures
    c.loop-at-test.true c.judge.result c.judge.ensures c.in_ok-n.n v c.if-bytes-gt-MOST_BYTES.false

pub returns : goal.returns
returns c =
    judge_end c.args.text.now c.args.from c.args.entries c.loop-at.at c.loop-at.k c.loop-at.bytes c.loop-at.invariant c.loop-at-test.false _ refl refl
