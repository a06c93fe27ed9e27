-- `turn::read_on` meets its contract.
-- Assumes nothing.
use Rattle.std.proofs.Common.{◌∙◌, ℕ, ◌<◌, ◌≤◌, max, length, true, false, sym, ap, subst, refl, Ok}
use Rattle.std.specs.Prelude.{Option}
use mathlib.Core.Path.{ap₂}
use borrow.Author.Tests.{lt-ltb, le-ltb}
use lib.Seq.{sets}
use Rattle.std.proofs.lemmas.Result.{err_from_is_err_and}
use Rattle.read_back.specs.Noted.{noted_by}
use Rattle.read_back.specs.Read.{read_of}
use Rattle.read_back.specs.declared.place.Place.{Place}
use Rattle.read_back.specs.declared.place.Record.{Record}
use Rattle.read_back.proofs.ByFields.{good_line}
use Rattle.read_back.proofs.Keeping.{reach_far}
use Rattle.read_back.proofs.Notes.{position_small, max_later}
use Rattle.read_back.proofs.Turning.{Taken, taken, untaken, not_ended, after_0, starts, ends, its_good, its_record, its_position, its_bytes, fits, its_far}
use Rattle.read_back.proofs.Turning.{left_bad, left_past, left_on}
use Rattle.read_back.proofs.turn.read_on.Goals as goal
use Rattle.read_back.proofs.turn.read_on.Goals.{In-Some}

-- the line that was read
got : (c : In-Some) → Taken c.args.mode c.args.text.now c.args.place c.requires.0 c.in-Some.r c.in-Some.next
got c =
    taken c.args.mode c.args.text.now c.args.place c.requires.0 c.in-Some.r c.in-Some.next
    (sym (ap (λ (o : Option (Record × Place)). read_of (Ok o)) c.in-Some.is) ∙ c.in_ok-r.ensures)

pub returns-in_err-r : goal.returns-in_err-r
returns-in_err-r c =
    let a = c.args in
    let u = untaken a.mode a.text.now a.place c.requires.0 15 _ c.in_err-r.ensures in
    let p = err_from_is_err_and c.from_residual.result c.from_residual.ensures.1 in
    rw (p.1, p.2) (left_bad a.mode a.place a.end a.image.now a.table.now _ (rw u.0 refl) c.in_err-r.field-0.0.line u.1 _ _)

pub unreachable-requires : goal.unreachable-requires
unreachable-requires c =
    let a = c.args in
    not_ended a.mode a.text.now a.place c.requires.0
    (sym (ap (λ (o : Option (Record × Place)). read_of (Ok o)) c.in_default.is) ∙ c.in_ok-r.ensures)

pub overflow_sub-e : goal.overflow_sub-e
overflow_sub-e c =
    let a = c.args in
    after_0 a.mode a.text.now a.place c.requires.0 c.in-Some.r c.in-Some.next (got (goal.at.overflow_sub-e c).In-Some)

pub slice_bounds-listed-count : goal.slice_bounds-listed-count
slice_bounds-listed-count c =
    let a = c.args in
    starts a.mode a.text.now a.place c.requires.0 c.in-Some.r c.in-Some.next (got (goal.at.slice_bounds-listed-count c).In-Some)

pub slice_bounds-listed-start : goal.slice_bounds-listed-start
slice_bounds-listed-start c =
    let a = c.args in
    starts a.mode a.text.now a.place c.requires.0 c.in-Some.r c.in-Some.next (got (goal.at.slice_bounds-listed-start c).In-Some)

pub slice_bounds-listed-end : goal.slice_bounds-listed-end
slice_bounds-listed-end c =
    let a = c.args in
    ends a.mode a.text.now a.place c.requires.0 c.in-Some.r c.in-Some.next (got (goal.at.slice_bounds-listed-end c).In-Some)

pub listed-d-requires : goal.listed-d-requires
listed-d-requires c =
    let a = c.args in
    let g = got (goal.at.listed-d-requires c).In-Some in (
      good_line a.mode _ (its_good a.mode a.text.now a.place c.requires.0 c.in-Some.r c.in-Some.next g),
      its_record a.mode a.text.now a.place c.requires.0 c.in-Some.r c.in-Some.next g,
    )

pub returns-then-not-agree : goal.returns-then-not-agree
returns-then-not-agree c =
    let a = c.args in
    let g = got (goal.at.returns-then-not-agree c).In-Some in
    left_bad a.mode a.place a.end a.image.now a.table.now _
    (fits a.mode a.text.now a.place c.requires.0 c.in-Some.r c.in-Some.next g _ c.listed-d.ensures a.end a.image.now c.agree.result false c.agree.ensures
    c.if-not-agree.true)
    a.place.line refl _ _

pub returns-then-image-far : goal.returns-then-image-far
returns-then-image-far c =
    let a = c.args in
    let g = got (goal.at.returns-then-image-far c).In-Some in
    let far = its_far a.mode a.text.now a.place c.requires.0 c.in-Some.r c.in-Some.next g _ c.listed-d.ensures c.far-far.result c.far-far.ensures in
    left_past a.mode a.place a.end a.image.now a.table.now _
    (fits a.mode a.text.now a.place c.requires.0 c.in-Some.r c.in-Some.next g _ c.listed-d.ensures a.end a.image.now c.agree.result true c.agree.ensures
    c.if-not-agree.false)
    (reach_far _ _ _ ∙ lt-ltb _ _ (subst (λ (x : ℕ). length a.image.now < x) far c.if-image-far.true)) _ _

pub note-requires : goal.note-requires
note-requires c =
    let g = got (goal.at.note-requires c).In-Some in
    subst (λ (r : Record). r.position < 65536) (sym g.is) (position_small _)

pub returns : goal.returns
returns c =
    let a = c.args in
    let g = got (goal.at.returns c).In-Some in
    let far = its_far a.mode a.text.now a.place c.requires.0 c.in-Some.r c.in-Some.next g _ c.listed-d.ensures c.far-far.result c.far-far.ensures in
    let at = its_position a.mode a.text.now a.place c.requires.0 c.in-Some.r c.in-Some.next g in
    let bytes = its_bytes a.mode a.text.now a.place c.requires.0 c.in-Some.r c.in-Some.next g _ c.listed-d.ensures in
    left_on a.mode a.place a.end a.image.now a.table.now _
    (fits a.mode a.text.now a.place c.requires.0 c.in-Some.r c.in-Some.next g _ c.listed-d.ensures a.end a.image.now c.agree.result true c.agree.ensures
    c.if-not-agree.false)
    (reach_far _ _ _ ∙ le-ltb _ _ (subst (λ (x : ℕ). x ≤ length a.image.now) far c.if-image-far.false)) c.in-Some.next g.goes _ _ c.max.result
    (c.put.ensures ∙ ap₂ (sets a.image.now) at bytes)
    (c.note.ensures ∙ ap (λ (r : Record). noted_by r a.table.now) g.is)
    (c.max.ensures ∙ ap (max a.end) far ∙ max_later a.end _)
