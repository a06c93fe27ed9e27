-- A step at each digit.
-- Assumes nothing.
use Rattle.std.proofs.Common.{inl, inr, length, sym, ◌∙◌, arith}
use borrow.Author.Tests.{eqb-true, eqb-false}
use Rattle.dis_text.proofs.Numbers.{no_word, long_word, reading_start, reading_end, reading_stop, reading_next}
use Rattle.dis_text.proofs.word.number.Goals as goal

pub returns-then-is_empty : goal.returns-then-is_empty
returns-then-is_empty c =
    let w = c.args.word.now in
    elim c.then-is_empty.either [ inl f ↦ no_word w (eqb-true (length w) 0 (sym c.is_empty.ensures ∙ f)) | inr f ↦ long_word w f.1 ]

pub loop-b-init : goal.loop-b-init
loop-b-init c = reading_start c.args.word.now (eqb-false (length c.args.word.now) 0 (sym c.is_empty.ensures ∙ c.if-is_empty.false)) c.if-word-gt4.false

pub returns-then-d-ge16 : goal.returns-then-d-ge16
returns-then-d-ge16 c =
    reading_stop c.args.word.now c.loop-b.n c.loop-b.b-index c.loop-b.invariant c.loop-b-test.true c.value-d.result c.value-d.ensures c.if-d-ge16.true

pub loop-b-preserved : goal.loop-b-preserved
loop-b-preserved c =
    reading_next c.args.word.now c.loop-b.n c.loop-b.b-index c.loop-b.invariant c.loop-b-test.true c.value-d.result c.value-d.ensures c.if-d-ge16.false

pub returns : goal.returns
returns c = reading_end c.args.word.now c.loop-b.n c.loop-b.b-index c.loop-b.invariant (omega arith)
