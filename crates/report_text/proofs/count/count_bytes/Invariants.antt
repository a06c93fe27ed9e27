-- What is counted before p.
use Rattle.report_text.proofs.Covering.{Counted}
use Rattle.report_text.proofs.count.count_bytes.Given as goal

abbrev pub invariant-loop-p : goal.invariant-loop-p
invariant-loop-p l = Counted l.image l.marks l.p l.code l.shared l.here l.next
