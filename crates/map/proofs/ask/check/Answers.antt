-- What is not found of `ask::check`: which refusal speaks.
-- Assumes nothing.
use Rattle.map.proofs.Asking.{long, no_room_lem, outside, allowed}
use Rattle.map.proofs.ask.check.Goals as goal

pub returns-then-length-gt-LIMIT : goal.returns-then-length-gt-LIMIT
returns-then-length-gt-LIMIT c = let a = c.args in long a.words.now a.length a.outside a.p c.if-length-gt-LIMIT.true

pub returns-then-words-need : goal.returns-then-words-need
returns-then-words-need c =
    let a = c.args in
    rw c.words_for-need.ensures
    (no_room_lem a.words.now a.length a.outside a.p c.if-length-gt-LIMIT.false (rw (← c.words_for-need.ensures) c.if-words-need.true))

pub returns-then-outside : goal.returns-then-outside
returns-then-outside c =
    let a = c.args in
    outside a.words.now a.length a.outside a.p c.if-length-gt-LIMIT.false (rw (← c.words_for-need.ensures) c.if-words-need.false) c.if-outside.true

pub returns : goal.returns
returns c =
    let a = c.args in
    allowed a.words.now a.length a.outside a.p c.if-length-gt-LIMIT.false (rw (← c.words_for-need.ensures) c.if-words-need.false) c.if-outside.false
