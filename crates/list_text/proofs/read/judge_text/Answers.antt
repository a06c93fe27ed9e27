-- Line 1 is bad, or the lines after it are judged.
-- Assumes nothing.
use Rattle.std.proofs.Common.{◌≡◌, Some, None, ◌∙◌, arith}
use Rattle.std.proofs.lemmas.Result.{err_from_is_err_and}
use Rattle.text.proofs.Cuts.{piece_inside}
use Rattle.list_text.specs.declared.parsed.ParseError.TheVariants.{Malformed}
use Rattle.list_text.proofs.Firsts.{first_bad, first_good}
use Rattle.list_text.proofs.read.judge_text.Goals as goal

pub slice_bounds-judge-end : goal.slice_bounds-judge-end
slice_bounds-judge-end c = piece_inside 10 c.args.text.now 0 c.end-e.result c.end-e.ensures (omega arith)

pub returns-in_err-n : goal.returns-in_err-n
returns-in_err-n c =
    let p = err_from_is_err_and c.from_residual.result c.from_residual.ensures.1 in
    let v : c.judge.result ≡ None = grind arith in
    let d : c.in_err-n.field-0.0 ≡ Malformed 1 = grind arith in
    rw (p.1, p.2, d) (first_bad c.args.text.now c.end-e.result c.end-e.ensures c.judge.result c.judge.ensures v)

pub returns : goal.returns
returns c =
    let v : c.judge.result ≡ Some c.in_ok-n.n = grind arith in
    c.judge_image.ensures ∙ first_good c.args.text.now c.end-e.result c.end-e.ensures c.judge.result c.judge.ensures c.in_ok-n.n v
