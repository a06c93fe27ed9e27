-- What is not found of `overlaps::find_overlaps`: what is refused, and what is shown.
-- Assumes nothing.
use mathlib.Core.Path.{◌≡◌, sym, ap, ◌∙◌}
use mathlib.Core.List.{List, ◌++◌}
use Prim.Native.Nat.{ℕ}
use lib.ListN.{length, drop}
use Rattle.std.proofs.lemmas.Result.{err_from_is_err_and}
use Rattle.views.specs.Overlaps.{overlaps_of, overlaps_in}
use Rattle.views.proofs.Viewing.{refused_in, room_fits, shown_in}
use Rattle.views.proofs.overlaps.find_overlaps.Goals as goal

pub returns-in_err-check_room : goal.returns-in_err-check_room
returns-in_err-check_room c =
    let a = c.args in
    let p = err_from_is_err_and c.from_residual.result c.from_residual.ensures.1 in
    let v = refused_in a.image.now a.marks.now (overlaps_of a.image.now a.marks.now a.p) a.room.now c.count-n.result
    (sym (c.count-n.ensures ∙ ap length c.overlaps_at-o.ensures)) _ c.in_err-check_room.ensures in
    record { result_value = rw (p.1, p.2) v.0; room_after = v.1 }

pub put-requires : goal.put-requires
put-requires c =
    let a = c.args in
    rw (← c.count-n.ensures) (room_fits a.image.now a.marks.now (length a.room.now) c.count-n.result c.in_ok-check_room.ensures)

-- what is put is what is shown
put_is : (l shown room t : List ℕ) (n : ℕ) → l ≡ shown → n ≡ length l → t ≡ l ++ drop (length l) room → t ≡ shown ++ drop n room
put_is l shown room t n f e g = rw (← f, e) g

pub returns : goal.returns
returns c =
    let a = c.args in
    let out = overlaps_of a.image.now a.marks.now a.p in
    let v = shown_in a.image.now a.marks.now out a.room.now c.count-n.result
    (sym (c.count-n.ensures ∙ ap length c.overlaps_at-o.ensures)) c.in_ok-check_room.ensures _
    (put_is (overlaps_in c.overlaps_at-o.result) out a.room.now _ c.count-n.result c.overlaps_at-o.ensures c.count-n.ensures c.put.ensures) in
    record { result_value = v.0; room_after = v.1 }
