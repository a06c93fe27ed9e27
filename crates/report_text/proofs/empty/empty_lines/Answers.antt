-- One part more, and the last.
-- Assumes nothing.
use Rattle.std.proofs.Common.{◌≡◌, ℕ, ◌+◌, ◌-◌, ◌<◌, ◌≤◌, ◌^◌, List, length, take, drop, arith, sym, ap, ◌∙◌, length-take, length-take-le}
use Rattle.targets.proofs.HereIs.{to_end}
use Rattle.report_text.specs.Empty.{empty_lines}
use Rattle.report_text.proofs.EmptyLines.{empty_most, empty_parts}
use Rattle.report_text.proofs.empty.empty_lines.Goals as goal

-- one part more
more : (left : List ℕ) (n r all : ℕ) → n + empty_lines left ≡ all → r ≡ empty_lines (take 193 left) → n + r + empty_lines (drop 192 left) ≡ all
more left n r all e k = omega (arith, empty_parts 192 left)

pub slice_bounds-in_part-end : goal.slice_bounds-in_part-end
slice_bounds-in_part-end c = sym (length-take-le 193 c.loop-left.left.now (omega arith))

pub in_part-requires : goal.in_part-requires
in_part-requires c = simp length-take (omega arith)

pub overflow_add-n : goal.overflow_add-n
overflow_add-n c =
    let m = more c.loop-left.left.now c.loop-left.n c.in_part.result _ c.loop-left.invariant c.in_part.ensures in
    record { fits = omega (arith, m, empty_most c.args.text.now, c.well_formed.0) }

pub loop-left-preserved : goal.loop-left-preserved
loop-left-preserved c =
    let m = more c.loop-left.left.now c.loop-left.n c.in_part.result _ c.loop-left.invariant c.in_part.ensures in
    omega (arith, m, ap empty_lines (to_end c.loop-left.left.now 192))

pub overflow_add-result : goal.overflow_add-result
overflow_add-result c =
    record { fits = omega (arith, c.loop-left.invariant, c.in_part-2.ensures, empty_most c.args.text.now, c.well_formed.0) }
