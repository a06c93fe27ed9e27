-- One byte more, and the last.
-- Assumes nothing.
use Rattle.std.proofs.Common.{◌≡◌, ℕ, zero, suc, ◌+◌, ◌-◌, ◌<◌, List, Bool, length, get_or, drop, arith, ap, ◌∙◌, length-drop}
use mir.Val.{bool_byte}
use Rattle.report_text.specs.Empty.{ends_empty, empty_lines}
use Rattle.report_text.proofs.Counts.{at_most_one}
use Rattle.report_text.proofs.EmptyLines.{empty_next, empty_few}
use Rattle.report_text.proofs.empty.in_part.Goals as goal

next : (part : List ℕ) (n i : ℕ) → n < i → i < length part → (x : Bool) → x ≡ ends_empty (get_or part (i - 1) 0) (get_or part i 0)
    → n + empty_lines (drop (i - 1) part) ≡ empty_lines part → n + bool_byte x + empty_lines (drop (i + 1 - 1) part) ≡ empty_lines part
next part n zero h k x e f = absurd (omega arith)
next part n (suc j) h k x e f =
    let p : suc j - 1 ≡ j = omega arith in
    let q : suc j + 1 - 1 ≡ suc j = omega arith in
    let b = ap bool_byte e ∙ ap (λ (m : ℕ). bool_byte (ends_empty (get_or part m 0) (get_or part (suc j) 0))) p in
    let d = ap (λ (m : ℕ). empty_lines (drop m part)) p in
    let g = ap (λ (m : ℕ). empty_lines (drop m part)) q in
    omega (arith, b, d, g, f, empty_next part j k)

pub loop-i-preserved : goal.loop-i-preserved
loop-i-preserved c =
    let l = c.loop-i in (
      omega (arith, at_most_one c.ends_empty.result, l.invariant.0),
      next c.args.part.now l.n l.i l.invariant.0 c.loop-i-test.true c.ends_empty.result c.ends_empty.ensures l.invariant.1,
    )

pub returns : goal.returns
returns c =
    let part : List ℕ = c.args.part.now in
    let z = empty_few (drop (c.loop-i.i - 1) part) (omega (arith, length-drop (c.loop-i.i - 1) part, c.loop-i-test.false)) in
    omega (arith, z, c.loop-i.invariant.1)
