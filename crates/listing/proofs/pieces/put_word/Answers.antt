-- A step at each letter.
-- Assumes nothing.
use Rattle.std.proofs.Common.{◌≡◌, ◌+◌, ◌-◌, ◌/◌, ◌%◌, ◌∷◌, ◌∙◌, refl, ap, arith}
use Rattle.text.specs.Puts.{letters}
use Rattle.listing.proofs.Lettering.{letters_more, letters_stop, letters_end}
use Rattle.text.proofs.Putting.{going_start, going_next, going_over, puts_length, puts_then}
use Rattle.listing.proofs.pieces.put_word.Goals as goal

pub loop-init : goal.loop-init
loop-init c = (omega (arith, c.put_byte-a.ensures.next), refl, going_start _ _ _)

pub put_byte-a-requires-in-loop : goal.put_byte-a-requires-in-loop
put_byte-a-requires-in-loop c = omega arith

pub returns-then-w-eq0 : goal.returns-then-w-eq0
returns-then-w-eq0 c = puts_then c.put_byte-a.ensures (going_over c.loop.invariant.2 (letters_stop (8 - c.loop.counter) c.loop.w c.if-w-eq0.true))

pub loop-preserved : goal.loop-preserved
loop-preserved c =
    let k = 8 - c.loop.counter in
    let e : k - 1 ≡ 8 - (c.loop.counter + 1) = omega arith in (
      omega (arith, c.put_byte-a-in-loop.ensures.next, c.loop.invariant.0),
      puts_length c.put_byte-a-in-loop.ensures ∙ c.loop.invariant.1,
      going_next c.loop.invariant.2 (letters_more k c.loop.w (omega arith) c.if-w-eq0.false ∙ ap (λ n. c.loop.w % 256 ∷ letters n (c.loop.w / 256)) e)
          c.put_byte-a-in-loop.ensures,
    )

pub returns : goal.returns
returns c = puts_then c.put_byte-a.ensures (going_over c.loop.invariant.2 (letters_end (8 - c.loop.counter) c.loop.w (omega arith)))
