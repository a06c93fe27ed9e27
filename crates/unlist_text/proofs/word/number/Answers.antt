-- `word::number` meets its contract.
-- Assumes nothing.
use Rattle.std.proofs.Common.{◌∙◌, ℕ, ◌-◌, ◌<◌, ◌≤◌, List, get_or, refl, sym, arith}
use Rattle.unlist_text.proofs.Words.{empty_word, long_word, good_length, digit_range, word_stop, word_more, word_end, more_digits, few_digits}
use Rattle.unlist_text.proofs.word.number.Goals as goal
use Rattle.unlist_text.proofs.word.number.Goals.{Else-not-is_ascii_digit}

-- a digit, after few that say little
digit : (c : Else-not-is_ascii_digit)
    → (48 ≤ get_or c.args.word.now c.loop-b.b-index 0)
    × (get_or c.args.word.now c.loop-b.b-index 0 ≤ 57)
digit c = digit_range _ (sym c.is_ascii_digit.ensures.value ∙ c.if-not-is_ascii_digit.false)

small : (c : Else-not-is_ascii_digit) → c.loop-b.n < 100000000
small c =
    let k = few_digits c.loop-b.b-index (let z : c.loop-b.b-index ≤ 8 = omega (arith, c.loop-b-test.true, c.if-word-gt9.false) in z) in
    omega (arith, c.loop-b.invariant.0, k)

pub returns-then-word-eq0 : goal.returns-then-word-eq0
returns-then-word-eq0 c = empty_word c.args.word.now c.if-word-eq0.true

pub returns-then-word-gt9 : goal.returns-then-word-gt9
returns-then-word-gt9 c = long_word c.args.word.now c.if-word-gt9.true

pub loop-b-init : goal.loop-b-init
loop-b-init c = (omega arith, refl)

pub returns-then-not-is_ascii_digit : goal.returns-then-not-is_ascii_digit
returns-then-not-is_ascii_digit c =
    let l = c.loop-b in
    let w : List ℕ = c.args.word.now in
    sym (word_stop w l.b-index l.n c.loop-b-test.true (sym c.is_ascii_digit.ensures.value ∙ c.if-not-is_ascii_digit.true))
    ∙ l.invariant.1 ∙ good_length w c.if-word-eq0.false c.if-word-gt9.false

pub overflow_mul-n : goal.overflow_mul-n
overflow_mul-n c = let h = small (goal.at.overflow_mul-n c).Else-not-is_ascii_digit in record { fits = omega arith }

pub overflow_sub-n : goal.overflow_sub-n
overflow_sub-n c = (digit (goal.at.overflow_sub-n c).Else-not-is_ascii_digit).0

pub overflow_add-n : goal.overflow_add-n
overflow_add-n c =
    let e = (goal.at.overflow_add-n c).Else-not-is_ascii_digit in
    let h = (digit e).1 in
    let k = small e in
    record { fits = omega arith }

pub loop-b-preserved : goal.loop-b-preserved
loop-b-preserved c =
    let e = (goal.at.loop-b-preserved c).Else-not-is_ascii_digit in
    let l = c.loop-b in
    let w : List ℕ = c.args.word.now in
    let d = digit e in (
      more_digits l.n l.b-index (get_or w l.b-index 0 - 48) l.invariant.0 (omega (arith, d.1)),
      sym (word_more w l.b-index l.n c.loop-b-test.true (sym c.is_ascii_digit.ensures.value ∙ c.if-not-is_ascii_digit.false)) ∙ l.invariant.1,
    )

pub returns : goal.returns
returns c =
    let l = c.loop-b in
    let w : List ℕ = c.args.word.now in
    sym (word_end w l.b-index l.n c.loop-b-test.false) ∙ l.invariant.1 ∙ good_length w c.if-word-eq0.false c.if-word-gt9.false
