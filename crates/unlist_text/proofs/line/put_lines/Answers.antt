-- `line::put_lines` meets its contract.
-- Assumes nothing.
use Rattle.std.proofs.Common.{◌≡◌, ◌∙◌, ℕ, min, ◌++◌, length, ap, arith}
use Rattle.std.specs.Slice.Iter.{chunks_rest, chunks_size}
use Rattle.std.proofs.lemmas.List.{length-append}
use Rattle.text.proofs.Putting.{going_from, going_next, going_over}
use Rattle.unlist_text.specs.Unlisted.{image_text}
use Rattle.unlist_text.proofs.Lines.{line, line_length, next_line, lines_none}
use Rattle.unlist_text.proofs.line.put_lines.Goals as goal
use Rattle.unlist_text.proofs.line.put_lines.Goals.{In-Some}

-- the line that is put, and what is left after it
next : (c : In-Some) → image_text (chunks_rest c.loop-bytes.bytes-iterator) ≡ line c.in-Some.bytes.now ++ image_text (chunks_rest c.next.new.self)
next c =
    let s = c.in-Some.ensures.steps in
    next_line (chunks_rest c.loop-bytes.bytes-iterator) c.in-Some.bytes.now (chunks_rest c.next.new.self) s.1.0
    (s.1.1 ∙ ap (λ (k : ℕ). min k (length (chunks_rest c.loop-bytes.bytes-iterator))) c.loop-bytes.invariant.0) s.1.2

pub loop-bytes-init : goal.loop-bytes-init
loop-bytes-init c =
    let it = c.into_iter-bytes-iterator.result in
    let s : chunks_size it ≡ 32 = cc in
    let r : chunks_rest it ≡ c.args.image.now = cc in
    (s, going_from _ 0 (ap image_text r))

pub put_line-at-requires : goal.put_line-at-requires
put_line-at-requires c =
    let l = c.loop-bytes in
    let f = ap length (next (goal.at.put_line-at-requires c).In-Some) in
    let g = length-append (line c.in-Some.bytes.now) (image_text (chunks_rest c.next.new.self)) in
    omega (arith, c.requires, f, g, l.invariant.1.size, line_length c.in-Some.bytes.now)

pub loop-bytes-preserved : goal.loop-bytes-preserved
loop-bytes-preserved c =
    let l = c.loop-bytes in
    let s = c.in-Some.ensures.steps in
    (s.0 ∙ l.invariant.0, going_next l.invariant.1 (next (goal.at.loop-bytes-preserved c).In-Some) c.put_line-at.ensures)

pub returns : goal.returns
returns c =
    let l = c.loop-bytes in
    let s = c.in-None.ensures.steps in
    (going_over l.invariant.1 (lines_none (chunks_rest l.bytes-iterator) (omega (arith, s.1.0)))).wrote
