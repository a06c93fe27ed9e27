-- What is not found of `arrival::arrivals`: what is refused, and what is shown.
-- Assumes nothing.
use mathlib.Core.Path.{sym, ap, ◌∙◌}
use mathlib.Core.List.{List, ◌++◌}
use Prim.Native.Nat.{ℕ, ◌≤◌}
use native.Mathlib.Omega.{arith}
use lib.ListN.{length, drop}
use Rattle.std.proofs.lemmas.Result.{err_from_is_err_and}
use Rattle.views.proofs.Viewing.{is_sound, small, covered, refused_all, no_room_for, shown_as}
use Rattle.arrivals.specs.Arrivals.{arrivals_of}
use Rattle.arrivals.proofs.Arriving.{none_outside}
use Rattle.arrivals.proofs.arrival.arrivals.Goals as goal

pub returns-in_err-check : goal.returns-in_err-check
returns-in_err-check c =
    let a = c.args in
    let p = err_from_is_err_and c.from_residual.result c.from_residual.ensures.1 in
    let v = refused_all a.image.now a.marks.now (arrivals_of a.mode a.image.now a.marks.now a.p) a.room.now _ c.in_err-check.ensures in
    record { result_value = rw (p.1, p.2) v.0; room_after = v.1 }

pub returns-then-image-p : goal.returns-then-image-p
returns-then-image-p c =
    let a = c.args in
    let s = is_sound a.image.now a.marks.now c.in_ok-check.ensures in
    let z = none_outside a.mode a.image.now a.marks.now a.p c.if-image-p.true in
    let v = shown_as a.image.now a.marks.now (arrivals_of a.mode a.image.now a.marks.now a.p) a.room.now s 0 (ap length z) (omega arith) a.room.now
    (ap (λ (l : List ℕ). l ++ a.room.now) (sym z)) in
    record { result_value = v.0; room_after = v.1 }

pub needed-n-requires : goal.needed-n-requires
needed-n-requires c =
    let a = c.args in
    let s = is_sound a.image.now a.marks.now c.in_ok-check.ensures in
    (small a.image.now a.marks.now s, covered a.image.now a.marks.now s, c.if-image-p.false)

pub returns-then-room-n : goal.returns-then-room-n
returns-then-room-n c =
    let a = c.args in
    let s = is_sound a.image.now a.marks.now c.in_ok-check.ensures in
    let v = no_room_for a.image.now a.marks.now (arrivals_of a.mode a.image.now a.marks.now a.p) a.room.now s c.needed-n.result
    (sym (c.needed-n.ensures.value c.if-room-n.true)) c.if-room-n.true in
    record { result_value = v.0; room_after = v.1 }

pub put_arrivals-requires : goal.put_arrivals-requires
put_arrivals-requires c =
    let a = c.args in
    let s = is_sound a.image.now a.marks.now c.in_ok-check.ensures in
    (small a.image.now a.marks.now s, covered a.image.now a.marks.now s, c.if-image-p.false)

pub returns : goal.returns
returns c =
    let a = c.args in
    let s = is_sound a.image.now a.marks.now c.in_ok-check.ensures in
    let out = arrivals_of a.mode a.image.now a.marks.now a.p in
    let n : ℕ = c.put_arrivals.result in
    let g = sym c.put_arrivals.ensures.value in
    let h : length out ≤ length a.room.now = omega (arith, c.needed-n.ensures.lower_bound, c.if-room-n.false) in
    let v = shown_as a.image.now a.marks.now out a.room.now s n g (omega (arith, g, h)) _
    (c.put_arrivals.ensures.room_after h ∙ ap (λ (j : ℕ). out ++ drop j a.room.now) g) in
    record { result_value = v.0; room_after = v.1 }
