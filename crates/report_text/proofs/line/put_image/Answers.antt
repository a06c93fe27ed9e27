-- A line that names an image is told by that name, and any other by `-`.
-- Assumes nothing.
use Rattle.std.proofs.Common.{◌≡◌, List, ℕ, length, arith, sym, ap, ◌∙◌, length-drop, Result}
use Rattle.text.proofs.Putting.{puts_as}
use Rattle.report_text.specs.Image.{reported_of}
use Rattle.report_text.specs.Report.{image_line}
use Rattle.report_text.specs.declared.figures.Figures.{Figures}
use Rattle.report_text.specs.declared.image.ImageError.{ImageError}
use Rattle.report_text.proofs.Names.{name_sized, no_name, is_name_lem}
use Rattle.report_text.proofs.line.put_image.Goals as goal

-- another name for the same
same : {n m : List ℕ} (i : Result Figures ImageError) → n ≡ m → image_line n (reported_of i) ≡ image_line m (reported_of i)
same i e = ap (λ (n : List ℕ). image_line n (reported_of i)) e

pub put_named-requires : goal.put_named-requires
put_named-requires c =
    let k = c.in-Some.ensures in
    let l : List ℕ = c.args.first.now in
    (omega (arith, ap length k.1, length-drop 2 l, (name_sized l k.0).1), c.requires)

pub returns-in-Some-clause-puts : goal.returns-in-Some-clause-puts
returns-in-Some-clause-puts c =
    let k = c.in-Some.ensures in
    puts_as (same c.args.image (k.1 ∙ sym (is_name_lem c.args.first.now k.0))) c.put_named.ensures.puts

pub returns-in-None-clause-puts : goal.returns-in-None-clause-puts
returns-in-None-clause-puts c = puts_as (same c.args.image (sym (no_name c.args.first.now c.in-None.ensures))) c.put_named-in-None.ensures.puts
