-- The words of each refusal.
-- Assumes nothing.
use Rattle.std.proofs.Common.{◌≡◌}
use Rattle.marks.specs.declared.sizes.SizeError.TheVariants.{LongImage, ShortMarks}
use Rattle.trace.specs.declared.run.RunError.TheVariants.{Size, ShortOrder, Cut}
use Rattle.dis_text.specs.Word.{codes}
use Rattle.dis_text.specs.Message.{reason}
use Rattle.dis_text.proofs.message.put_reason.Goals as goal

pub returns-in-Run-Size-LongImage-clause-puts : goal.returns-in-Run-Size-LongImage-clause-puts
unfolding codes reason
returns-in-Run-Size-LongImage-clause-puts c =
    let e : c.in-Run-Size-LongImage.field-0 ≡ Size c.in-Run-Size-LongImage.field-0-0 = rw c.in-Run-Size-LongImage.is at c.in-Run-Size-LongImage.field-0-is in
    let f : c.in-Run-Size-LongImage.field-0-0 ≡ LongImage c.in-Run-Size-LongImage.field-0-0-0 = rw (c.in-Run-Size-LongImage.is, e) at c.in-Run-Size-LongImage.field-0-0-is in
    rw (c.in-Run-Size-LongImage.is, e, f) c.put.ensures

pub returns-in-Run-Size-ShortMarks-clause-puts : goal.returns-in-Run-Size-ShortMarks-clause-puts
unfolding codes reason
returns-in-Run-Size-ShortMarks-clause-puts c =
    let e : c.in-Run-Size-ShortMarks.field-0 ≡ Size c.in-Run-Size-ShortMarks.field-0-0 = rw c.in-Run-Size-ShortMarks.is at c.in-Run-Size-ShortMarks.field-0-is in
    let f : c.in-Run-Size-ShortMarks.field-0-0 ≡ ShortMarks c.in-Run-Size-ShortMarks.field-0-0-0 = rw (c.in-Run-Size-ShortMarks.is, e) at c.in-Run-Size-ShortMarks.field-0-0-is in
    rw (c.in-Run-Size-ShortMarks.is, e, f) c.put-in-Run-Size-ShortMarks.ensures

pub returns-in-Run-ShortOrder-clause-puts : goal.returns-in-Run-ShortOrder-clause-puts
unfolding codes reason
returns-in-Run-ShortOrder-clause-puts c =
    let e : c.in-Run-ShortOrder.field-0 ≡ ShortOrder c.in-Run-ShortOrder.field-0-0 = rw c.in-Run-ShortOrder.is at c.in-Run-ShortOrder.field-0-is in
    rw (c.in-Run-ShortOrder.is, e) c.put-in-Run-ShortOrder.ensures

pub returns-in-Run-Cut-clause-puts : goal.returns-in-Run-Cut-clause-puts
unfolding codes reason
returns-in-Run-Cut-clause-puts c =
    let e : c.in-Run-Cut.field-0 ≡ Cut c.in-Run-Cut.c = rw c.in-Run-Cut.is at c.in-Run-Cut.field-0-is in
    rw (c.in-Run-Cut.is, e) (rw c.in-Run-Cut.c-is at c.put_cut.ensures.puts)

pub returns-in-Bad-clause-puts : goal.returns-in-Bad-clause-puts
unfolding codes reason
returns-in-Bad-clause-puts c = rw c.in-Bad.is c.put_bad.ensures.puts
