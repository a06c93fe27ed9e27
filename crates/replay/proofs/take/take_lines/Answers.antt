-- `take::take_lines` meets its contract.
-- Assumes nothing.
use Rattle.std.proofs.Common.{◌≡◌, ◌∙◌, ℕ, ◌+◌, ◌*◌, ◌/◌, ◌<◌, List, length, drop, refl, ap, arith}
use Rattle.map.specs.Words.{code_at}
use Rattle.replay.proofs.Chunks.{line_in}
use Rattle.replay.proofs.Feeding.{lines_on, lines_stop, lines_rest}
use Rattle.replay.proofs.Logs.{refused_line}
use Rattle.replay.specs.Log.{fault_number, refusing, keeping}
use Rattle.replay.specs.Take.{State, state, feed_of}
use Rattle.replay.specs.declared.log.Log.{Log}
use Rattle.replay.proofs.take.take_lines.Goals as goal

pub loop-line-init : goal.loop-line-init
loop-line-init c = refl

pub returns-in-Err : goal.returns-in-Err
returns-in-Err c =
    let a = c.args in
    let l = c.loop-line in
    let text : List ℕ = a.text.now in
    let n : l.line-index < length text / 7 = omega (arith, c.as_chunks.ensures.front_len, c.loop-line-test.true) in
    ap (λ (r : Log). state r c.take_line.new.counts) c.refuse.ensures
    ∙ lines_stop a.ground.mode a.ground.image.now a.ground.marks.now (code_at a.ground.table.now) (state l.after l.counts) _ text (l.line-index * 7) l.invariant
    (state (refusing l.after (fault_number c.in-Err.fault)) c.take_line.new.counts) _ (omega arith)
    (line_in text _ _ l.line-index c.as_chunks.ensures.front n)
    c.in-Err.ensures.after (refused_line l.after c.in-Err.fault)

pub loop-line-preserved : goal.loop-line-preserved
loop-line-preserved c =
    let a = c.args in
    let l = c.loop-line in
    let text : List ℕ = a.text.now in
    let n : l.line-index < length text / 7 = omega (arith, c.as_chunks.ensures.front_len, c.loop-line-test.true) in
    let s : State = state c.in-Ok.taken c.take_line.new.counts in
    ap (λ (j : ℕ). feed_of a.ground.mode a.ground.image.now a.ground.marks.now (code_at a.ground.table.now) s (drop j text))
    (let e : (l.line-index + 1) * 7 ≡ l.line-index * 7 + 7 = omega arith in e)
    ∙ lines_on a.ground.mode a.ground.image.now a.ground.marks.now (code_at a.ground.table.now) (state l.after l.counts) _ text (l.line-index * 7) l.invariant s _ (omega arith)
    (line_in text _ _ l.line-index c.as_chunks.ensures.front n) c.in-Ok.ensures.after c.in-Ok.ensures.goes_on

pub returns : goal.returns
returns c =
    let a = c.args in
    let l = c.loop-line in
    let text : List ℕ = a.text.now in
    let e : length text / 7 ≡ l.line-index = omega (arith, c.as_chunks.ensures.front_len, c.loop-line-test.false, l.auto.line-index-end) in
    lines_rest a.ground.mode a.ground.image.now a.ground.marks.now (code_at a.ground.table.now) (state l.after l.counts) _ text (l.line-index * 7) l.invariant (omega arith) c.keep.result
    (c.keep.ensures ∙ ap (keeping l.after) (c.as_chunks.ensures.back ∙ ap (λ (j : ℕ). drop (j * 7) text) e))
