-- The rest of the word, after the digits that stand for n, stands for what the word does.
-- Assumes nothing.
use Rattle.dis_text.proofs.Numbers.{Reading}
use Rattle.dis_text.proofs.word.number.Given as goal

abbrev pub invariant-loop-b : goal.invariant-loop-b
invariant-loop-b l = Reading l.word l.n l.b-index
