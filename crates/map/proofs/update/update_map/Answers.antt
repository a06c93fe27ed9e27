-- What is not found of `update::update_map`: what is refused, and what is set.
-- Assumes nothing.
use mathlib.Core.Path.{sym, ◌∙◌}
use native.Mathlib.Omega.{arith}
use lib.ListN.{length}
use Rattle.std.proofs.lemmas.Result.{err_from_is_err_and}
use Rattle.targets.proofs.Within.{size_short}
use Rattle.views.proofs.TracedAt.{by_mark, traced_inside}
use Rattle.views.proofs.Viewing.{small, room_sound, room_fits}
use Rattle.map.proofs.Sounding.{undamaged, fitting, fits_within}
use Rattle.map.proofs.Updating.{as_roomed, refused_all, not_traced, set_all}
use Rattle.map.proofs.update.update_map.Goals as goal

pub returns-in_err-check_room : goal.returns-in_err-check_room
returns-in_err-check_room c =
    let a = c.args in
    let p = err_from_is_err_and c.from_residual.result c.from_residual.ensures.1 in
    let v = refused_all a.image.now a.marks.now a.words.now a.p _
    (as_roomed a.image.now a.marks.now a.words.now a.p c.words_for.result c.words_for.ensures _ c.in_err-check_room.ensures) in
    record { result_value = rw (p.1, p.2) v.0; words_after = v.1 }

pub returns-then-not-is_traced_at : goal.returns-then-not-is_traced_at
returns-then-not-is_traced_at c =
    let a = c.args in
    let v = not_traced a.image.now a.marks.now a.words.now a.p
    (as_roomed a.image.now a.marks.now a.words.now a.p c.words_for.result c.words_for.ensures _ c.in_ok-check_room.ensures)
    (sym c.is_traced_at.ensures ∙ c.if-not-is_traced_at.true) in
    record { result_value = v.0; words_after = v.1 }

pub cover-requires : goal.cover-requires
cover-requires c =
    let a = c.args in
    let e = c.in_ok-check_room.ensures in
    let k = room_sound a.image.now a.marks.now (length a.words.now) c.words_for.result e in
    let r = room_fits a.image.now a.marks.now (length a.words.now) c.words_for.result e in
    let t = sym c.is_traced_at.ensures ∙ c.if-not-is_traced_at.false in
    let i = traced_inside a.image.now a.marks.now a.p t in
    let h = fits_within a.image.now a.p (fitting a.image.now a.marks.now a.p (undamaged a.image.now a.marks.now k a.p i) (by_mark a.image.now a.marks.now a.p i ∙ t)) in
    let l = small a.image.now a.marks.now k in
    let n = size_short a.image.now a.p (λ i. (c.type_inv.image i).fits) in
    let f = c.size_at-size.ensures in
    (omega (arith, n.0, f), omega (arith, n.1, f), omega (arith, f, r, c.words_for.ensures), omega (arith, f))

pub returns : goal.returns
returns c =
    let a = c.args in
    let v = set_all a.image.now a.marks.now a.words.now a.p
    (as_roomed a.image.now a.marks.now a.words.now a.p c.words_for.result c.words_for.ensures _ c.in_ok-check_room.ensures)
    (sym c.is_traced_at.ensures ∙ c.if-not-is_traced_at.false) c.size_at-size.result c.size_at-size.ensures _ c.cover.ensures in
    record { result_value = v.0; words_after = v.1 }
