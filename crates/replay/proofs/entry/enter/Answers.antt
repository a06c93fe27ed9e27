-- `entry::enter` meets its contract.
-- Assumes nothing.
use Rattle.std.proofs.Common.{ℕ, ◌+◌, ◌<◌, ◌≤◌, List, length, sym, subst, arith}
use Rattle.replay.proofs.Entries.{Enters, enters_start, enters_next, enters_end}
use Rattle.replay.specs.Entry.{with_entries}
use Rattle.replay.proofs.entry.enter.Goals as goal

pub loop-q-init : goal.loop-q-init
loop-q-init c = enters_start c.args.entries.now c.args.table.now

pub loop-q-preserved : goal.loop-q-preserved
loop-q-preserved c =
    let l = c.loop-q in
    let e : List ℕ = c.args.entries.now in
    let h : l.q-index < length e = omega arith in
    subst (λ (t : List ℕ). Enters e t (l.q-index + 1) (with_entries e c.args.table.now)) (sym c.enter_one.ensures)
    (enters_next e l.table (with_entries e c.args.table.now) l.q-index h l.invariant)

pub returns : goal.returns
returns c =
    let l = c.loop-q in
    let e : List ℕ = c.args.entries.now in
    let h : length e ≤ l.q-index = omega arith in
    enters_end e l.table (with_entries e c.args.table.now) l.q-index h l.invariant
