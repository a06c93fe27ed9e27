-- The first line names the image, or 13 is reported; the others are the listing program's.
-- Assumes nothing.
use Rattle.std.proofs.Common.{◌≡◌, List, ℕ, ◌-◌, length, take, drop, refl, sym, length-take-le}
use Rattle.report_text.proofs.Starts.{first_inside}
use Rattle.report_text.proofs.Named.{unnamed, named}
use Rattle.report_text.proofs.image.report_image.Goals as goal

pub slice_bounds-name_in-end : goal.slice_bounds-name_in-end
slice_bounds-name_in-end c = sym (length-take-le c.end-e.result c.args.text.now (first_inside c.args.text.now c.end-e.result c.end-e.ensures))

pub returns-in_default : goal.returns-in_default
returns-in_default c = unnamed c.args.text.now c.end-e.result c.end-e.ensures c.in_default.ensures

pub returns : goal.returns
returns c =
    let t : List ℕ = c.args.text.now in
    let from = c.second_line-from.result in
    named t c.end-e.result c.end-e.ensures c.in-Some.ensures.0 from c.second_line-from.ensures.1 (take (length t - from) (drop from t)) refl
    c.input_start-start.result c.input_start-start.ensures.1 _ c.report_input.ensures
