-- What is not found of `take::note_all`: no position is noted.
-- Assumes nothing.
use Rattle.std.proofs.Common.{sym}
use Rattle.reach.proofs.Note.{note_nil, fresh_nil}
use Rattle.marks.proofs.take.note_all.Goals as goal

pub returns-in-Nothing-clause-result_value : goal.returns-in-Nothing-clause-result_value
returns-in-Nothing-clause-result_value c = rw c.in-Nothing.is (sym (fresh_nil c.args.n c.args.marks.now))

pub returns-in-Nothing-clause-marks_after : goal.returns-in-Nothing-clause-marks_after
returns-in-Nothing-clause-marks_after c = rw c.in-Nothing.is (sym (note_nil c.args.n c.args.marks.now))
