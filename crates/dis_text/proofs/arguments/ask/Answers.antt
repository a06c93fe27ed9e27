-- A step at each word.
-- Assumes nothing.
use Rattle.std.proofs.Common.{◌≡◌, Some, None, sym, ◌∙◌, arith}
use Rattle.std.proofs.lemmas.Result.{err_from_is_err_and}
use Rattle.text.proofs.Cuts.{piece_inside}
use Rattle.dis_text.specs.declared.message.DisError.TheVariants.{Bad}
use Rattle.dis_text.proofs.Asking.{asking_start, asking_end, asking_pin, asking_none, asking_bad, asking_next}
use Rattle.dis_text.proofs.arguments.ask.Goals as goal

pub loop-at-init : goal.loop-at-init
loop-at-init c =
    asking_start c.args.words.now c.args.entries.now c.args.pins.now c.requires.0 c.requires.1 c.new-asked.result c.new-asked.ensures

pub slice_bounds-word_of-end : goal.slice_bounds-word_of-end
slice_bounds-word_of-end c = piece_inside 0 c.args.words.now c.loop-at.at c.end-e.result c.end-e.ensures (omega arith)

pub returns-in_err-word-clause-pins_after : goal.returns-in_err-word-clause-pins_after
returns-in_err-word-clause-pins_after c =
    let p = err_from_is_err_and c.from_residual.result c.from_residual.ensures.1 in
    let v : c.word_of.result ≡ None = grind arith in
    let d : c.in_err-word.field-0.0 ≡ Bad c.loop-at.k = grind arith in
    rw (p.1, p.2, d)
    (asking_none c.args.words.now c.loop-at.entries c.loop-at.pins c.loop-at.asked c.loop-at.at c.loop-at.k c.loop-at.invariant c.end-e.result c.end-e.ensures
    c.loop-at-test.true c.word_of.result c.word_of.ensures v)

pub returns-in_err-asked-clause-pins_after : goal.returns-in_err-asked-clause-pins_after
returns-in_err-asked-clause-pins_after c =
    let p = err_from_is_err_and c.from_residual-in_err-asked.result c.from_residual-in_err-asked.ensures.1 in
    let w : c.word_of.result ≡ Some c.in_ok-word.word = grind arith in
    let v : c.take_word.result ≡ None = grind arith in
    let d : c.in_err-asked.field-0.0 ≡ Bad c.loop-at.k = grind arith in
    rw (p.1, p.2, d)
    (asking_bad c.args.words.now c.loop-at.entries c.loop-at.pins c.loop-at.asked c.loop-at.at c.loop-at.k c.loop-at.invariant c.end-e.result c.end-e.ensures
    c.loop-at-test.true (Some c.in_ok-word.word) (sym w ∙ c.word_of.ensures) c.take_word.new.entries c.take_word.new.pins c.take_word.result
    c.take_word.ensures.pins_after v)

pub loop-at-preserved : goal.loop-at-preserved
loop-at-preserved c =
    let w : c.word_of.result ≡ Some c.in_ok-word.word = grind arith in
    let v : c.take_word.result ≡ Some c.in_ok-asked.asked = grind arith in
    asking_next c.args.words.now c.loop-at.entries c.loop-at.pins c.loop-at.asked c.loop-at.at c.loop-at.k c.loop-at.invariant c.end-e.result c.end-e.ensures
    c.loop-at-test.true (Some c.in_ok-word.word) (sym w ∙ c.word_of.ensures) c.take_word.new.entries c.take_word.new.pins c.take_word.result
    c.take_word.ensures.pins_after c.take_word.auto.entries c.take_word.auto.pins c.take_word.ensures.counted_in c.in_ok-asked.asked v

pub returns-then-asked-clause-pins_after : goal.returns-then-asked-clause-pins_after
returns-then-asked-clause-pins_after c =
    asking_pin c.args.words.now c.loop-at.entries c.loop-at.pins c.loop-at.asked c.loop-at.at c.loop-at.k c.loop-at.invariant c.loop-at-test.false c.if-asked.true

pub returns-clause-pins_after : goal.returns-clause-pins_after
returns-clause-pins_after c =
    asking_end c.args.words.now c.loop-at.entries c.loop-at.pins c.loop-at.asked c.loop-at.at c.loop-at.k c.loop-at.invariant c.loop-at-test.false c.if-asked.false
