-- One byte more is written at the next place, and past the end nothing is.
use Rattle.std.proofs.Common.{rules, arith, ◌≡◌, ℕ, suc, ◌+◌, List, [], ◌∷◌, ◌++◌, length, set, sym, ap, subst, ◌∙◌}
use lib.Seq.{sets, set_out, length-sets}
use Rattle.std.proofs.lemmas.List.{length_push}
use Rattle.std.specs.Iterator.{Yields}
use Rattle.std.proofs.iter.Next.{Yields-more}
use Rattle.runner.proofs.handed.put.Goals as goal

sets_push : (l xs : List ℕ) (i n x : ℕ) → n ≡ i + length xs → sets l i (xs ++ x ∷ []) ≡ set (sets l i xs) n x
sets_push l [] i n x e = let same : i ≡ n = omega arith in ap (λ k. set l k x) same
sets_push l (y ∷ ys) i n x e = sets_push (set l i y) ys (suc i) n x (omega arith)

pub loop-b-preserved : goal.loop-b-preserved
loop-b-preserved g c =
    let b = c.in-Some.b in
    let xs = c.loop-b.yielded in
    let long = length_push xs b in
    let room = length-sets c.args.room.now c.args.at xs in
    let same = ap length c.loop-b.invariant.0 in (
      ap (λ l. set l c.loop-b.next b) c.loop-b.invariant.0 ∙ sym (sets_push c.args.room.now xs c.args.at c.loop-b.next b c.loop-b.invariant.1),
      omega (arith, long, c.loop-b.invariant.1),
      omega (arith, long, c.loop-b.invariant.1, room, same, c.if-room-next.false),
    )

pub returns-then-room-next : goal.returns-then-room-next
returns-then-room-next g c =
    let b = c.in-Some.b in
    let xs = c.loop-b.yielded in
    let long = length_push xs b in
    let room = length-sets c.args.room.now c.args.at xs in
    let same = ap length c.loop-b.invariant.0 in
    let more = Yields-more g.I.Iterator.next_gives _ xs _ b _ c.loop-b.yielded_by c.in-Some.ensures.steps in
    let from : c.into_iter-b-iterator.result ≡ c.args.bytes = search rules in
    let whole = subst (λ s. Yields g.I.Iterator.next_gives s (xs ++ b ∷ []) c.next.new.self) from more in
    let written = sets_push c.args.room.now xs c.args.at c.loop-b.next b c.loop-b.invariant.1 in
    let kept = set_out (sets c.args.room.now c.args.at xs) c.loop-b.next b (omega (arith, room, same, c.if-room-next.true)) in (
      xs ++ b ∷ [],
      (_, whole, λ h. absurd (omega (arith, h, long, room, same, c.loop-b.invariant.1, c.if-room-next.true))),
      c.loop-b.invariant.0 ∙ sym kept ∙ sym written,
      omega (arith, long, room, same, c.loop-b.invariant.1, c.loop-b.invariant.2, c.if-room-next.true),
    )
