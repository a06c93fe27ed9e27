-- `noted::put_marks` meets its contract.
-- Assumes nothing.
use Rattle.std.proofs.Common.{◌≡◌, ◌∙◌, ℕ, ◌≤◌, List, ◌++◌, length, drop, replicate, ap, arith}
use Rattle.std.proofs.lemmas.List.{length-append, length-take-le, length-replicate}
use Rattle.read_back.specs.Noted.{marks_in}
use Rattle.read_back.proofs.Marking.{clear_blank, clear_rest, marking_start, marking_next, marking_less, marking_end}
use Rattle.read_back.proofs.noted.put_marks.Goals as goal
use Rattle.read_back.proofs.noted.put_marks.Goals.{After-fill}

-- the room is cleared, and keeps its length
filled : (c : After-fill) → c.fill.new.self ≡ replicate c.args.n 0
filled c = c.fill.ensures.after (λ y h. h) ∙ ap (λ (k : ℕ). replicate k 0) (length-take-le c.args.n c.args.marks.now c.requires.1)

room : (c : After-fill) → c.args.n ≤ length (c.fill.new.self ++ drop c.args.n c.args.marks.now)
room c =
    omega (arith, length-append c.fill.new.self (drop c.args.n c.args.marks.now), ap length (filled c), length-replicate {A = ℕ} c.args.n 0)

pub loop-i-init : goal.loop-i-init
loop-i-init c =
    let a = c.args in
    marking_start a.table.now a.n _ (clear_blank a.n a.marks.now c.fill.new.self (filled (goal.at.loop-i-init c).After-fill)) c.next-i.result c.next-i.ensures

pub loop-i-smaller : goal.loop-i-smaller
loop-i-smaller c =
    let a = c.args in
    let l = c.loop-i in
    marking_less a.table.now a.n _ l.marks l.i l.invariant c.loop-i-test.true _ c.next-i-in-loop-i.ensures

pub loop-i-preserved : goal.loop-i-preserved
loop-i-preserved c =
    let a = c.args in
    let l = c.loop-i in
    marking_next a.table.now a.n _ l.marks l.i l.invariant c.loop-i-test.true (room (goal.at.loop-i-preserved c).After-fill) _ c.next-i-in-loop-i.ensures

pub returns : goal.returns
returns c =
    let a = c.args in
    let l = c.loop-i in
    let f = (goal.at.returns c).After-fill in
    marking_end a.table.now a.n _ l.marks l.i l.invariant c.loop-i-test.false (room f)
    ∙ ap (λ (x : List ℕ). marks_in a.table.now a.n ++ x) (clear_rest a.n a.marks.now c.fill.new.self (filled f))
