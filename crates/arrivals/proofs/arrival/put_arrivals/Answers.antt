-- What is not found of `arrival::put_arrivals`: one arrival more, and all.
-- Assumes nothing.
use mathlib.Core.Path.{refl, sym, ap, ◌∙◌}
use native.Mathlib.Numerals.{add-one}
use native.Mathlib.Omega.{arith}
use lib.ListN.{length}
use lib.Seq.{sets}
use Rattle.views.proofs.Laid.{laid}
use Rattle.arrivals.specs.Arrivals.{arrivals_of, next_arrival}
use Rattle.arrivals.proofs.Arriving.{all_left, few, next_is, next_one, next_none}
use Rattle.arrivals.proofs.Lowest.{below_some, below_none}
use Rattle.arrivals.proofs.arrival.put_arrivals.Goals as goal
use Rattle.arrivals.proofs.arrival.put_arrivals.Goals.{then-count-room, else-count-room}

pub loop-q-init : goal.loop-q-init
loop-q-init c =
    let a = c.args in
    let e = all_left a.mode a.image.now a.marks.now a.p in
    (omega (arith, ap length e), λ h. ap (sets a.room.now 0) e)

pub overflow_add-count : goal.overflow_add-count
overflow_add-count c =
    let a = c.args in
    let b = below_some (length a.image.now) (next_arrival a.mode a.image.now a.marks.now a.p c.loop-q.from) c.in-Some.q (sym c.in-Some.is ∙ c.next_arrival.ensures) in
    let e = next_one (next_is a.mode a.image.now a.marks.now a.p c.requires.0 c.loop-q.from c.in-Some.q (sym b.0)) b.1 in
    record { fits = omega (arith, c.loop-q.invariant.0, c.requires.0, few a.mode a.image.now a.marks.now a.p, ap length e) }

pub loop-q-smaller : goal.loop-q-smaller
loop-q-smaller c =
    let a = c.args in
    let b = below_some (length a.image.now) (next_arrival a.mode a.image.now a.marks.now a.p c.loop-q.from) c.in-Some.q (sym c.in-Some.is ∙ c.next_arrival.ensures) in
    omega (arith, ap length (next_one (next_is a.mode a.image.now a.marks.now a.p c.requires.0 c.loop-q.from c.in-Some.q (sym b.0)) b.1))

pub loop-q-preserved : goal.loop-q-preserved
loop-q-preserved c =
    let a = c.args in
    let l = c.loop-q in
    let v = l.invariant in
    let b = below_some (length a.image.now) (next_arrival a.mode a.image.now a.marks.now a.p l.from) c.in-Some.q (sym c.in-Some.is ∙ c.next_arrival.ensures) in
    let e = next_one (next_is a.mode a.image.now a.marks.now a.p c.requires.0 l.from c.in-Some.q (sym b.0)) b.1 in (
      omega (arith, v.0, ap length e),
      λ h. elim c.if-count-room.branch [
        | then-count-room w ↦ rw (w.room-is, add-one) (ap (sets l.room l.count) (sym e) ∙ v.1 h)
        | else-count-room w ↦ absurd (omega (arith, h, v.0, ap length e, w.if-count-room.false, l.auto.room))
      ],
    )

pub returns : goal.returns
returns c =
    let a = c.args in
    let v = c.loop-q.invariant in
    let q = next_arrival a.mode a.image.now a.marks.now a.p c.loop-q.from in
    let out = arrivals_of a.mode a.image.now a.marks.now a.p in
    let e = next_none (next_is a.mode a.image.now a.marks.now a.p c.requires.0 c.loop-q.from q refl)
    (below_none (length a.image.now) q (sym c.in_default.is ∙ c.next_arrival.ensures)) in
    record {
      value = omega (arith, v.0, ap length e);
      room_after = λ h. ap (sets c.loop-q.room c.loop-q.count) (sym e) ∙ v.1 h ∙ laid out a.room.now h;
    }
