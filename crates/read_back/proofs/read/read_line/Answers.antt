-- `read::read_line` meets its contract.
-- Assumes nothing.
use Rattle.std.proofs.Common.{◌∙◌, ℕ, ◌-◌, List, take, drop, refl, sym}
use Rattle.read_back.proofs.ByFields.{line_is, good_line}
use Rattle.read_back.proofs.Lines.{unstarted, begun}
use Rattle.read_back.proofs.Reading.{past, inside, bad_line, bad_order, good}
use Rattle.read_back.proofs.read.read_line.Goals as goal

pub returns-then-text-place : goal.returns-then-text-place
returns-then-text-place c = past c.args.mode c.args.text.now c.args.place c.if-text-place.true

pub slice_bounds-l-end : goal.slice_bounds-l-end
slice_bounds-l-end c = inside c.args.mode c.args.text.now c.args.place c.if-text-place.false c.end-e.result c.end-e.ensures

pub returns-then-p-eq-NOWHERE : goal.returns-then-p-eq-NOWHERE
returns-then-p-eq-NOWHERE c =
    let a = c.args in
    let b : List ℕ = take (c.end-e.result - a.place.at) (drop a.place.at a.text.now) in
    bad_line a.mode a.text.now a.place c.if-text-place.false c.end-e.result c.end-e.ensures
    (sym (line_is a.mode b) ∙ unstarted b a.mode _ c.position-p.ensures c.if-p-eq-NOWHERE.true)

pub is_line-requires : goal.is_line-requires
is_line-requires c =
    let a = c.args in
    begun (take (c.end-e.result - a.place.at) (drop a.place.at a.text.now)) _ c.position-p.ensures c.if-p-eq-NOWHERE.false

pub returns-then-not-is_line : goal.returns-then-not-is_line
returns-then-not-is_line c =
    let a = c.args in
    bad_line a.mode a.text.now a.place c.if-text-place.false c.end-e.result c.end-e.ensures (sym c.is_line.ensures ∙ c.if-not-is_line.true)

pub record-record-requires : goal.record-record-requires
record-record-requires c =
    let a = c.args in
    let b : List ℕ = take (c.end-e.result - a.place.at) (drop a.place.at a.text.now) in
    (good_line a.mode b (sym c.is_line.ensures ∙ c.if-not-is_line.false), (begun b _ c.position-p.ensures c.if-p-eq-NOWHERE.false).1)

pub returns-then-not-follows : goal.returns-then-not-follows
returns-then-not-follows c =
    let a = c.args in
    bad_order a.mode a.text.now a.place c.if-text-place.false c.end-e.result c.end-e.ensures (sym c.is_line.ensures ∙ c.if-not-is_line.false)
    c.record-record.result c.record-record.ensures (sym c.follows.ensures ∙ c.if-not-follows.true)

pub returns : goal.returns
returns c =
    let a = c.args in
    good a.mode a.text.now a.place c.if-text-place.false c.end-e.result c.end-e.ensures (sym c.is_line.ensures ∙ c.if-not-is_line.false)
    c.record-record.result c.record-record.ensures (sym c.follows.ensures ∙ c.if-not-follows.false) _ c.line_after.ensures _ (refl, refl, refl, refl)
