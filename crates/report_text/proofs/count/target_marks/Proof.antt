-- `count::target_marks` meets its contract.
-- Assumes nothing.
use mathlib.Core.Path.{◌≡◌, sym, ap, ◌∙◌}
use mathlib.Core.List.{List, ◌++◌}
use Prim.Native.Nat.{ℕ, ◌≤◌}
use native.Mathlib.Omega.{arith}
use borrow.Author.Rules.{rules}
use lib.ListN.{length, take, drop, length-append, length-replicate}
use lib.Seq.{take_at}
use Rattle.views.proofs.Fronts.{take_replicate}
use Rattle.report_text.proofs.Marked.{marks_counted}
use Rattle.report_text.proofs.count.target_marks.Statement.{statement}
use Rattle.report_text.proofs.count.target_marks.Tie as tie

abbrev start : tie.After-bytes-room → tie.Start
start b = b.before.before.before

abbrev image : tie.After-bytes-room → List ℕ
image b = (start b).args.image.now

-- the part of the room that is lent: one for each byte of the image
abbrev lent : tie.After-bytes-room → List ℕ
lent b = take (length (image b)) b.bytes-room.result

lent_long : (b : tie.After-bytes-room) → length (lent b) ≡ length (image b)
lent_long b =
    ap (λ (r : List ℕ). length (take (length (image b)) r)) b.bytes-room.ensures
    ∙ ap length (take_replicate (length (image b)) 16384 (start b).requires.0)
    ∙ length-replicate (length (image b)) 0

abbrev made : tie.After-target_marks → tie.After-bytes-room
made t = t.before.before

abbrev written : tie.After-target_marks → List ℕ
written t = t.target_marks.new.room

abbrev rest : tie.After-target_marks → List ℕ
rest t = drop (length (image (made t))) (made t).bytes-room.result

written_long : (t : tie.After-target_marks) → length (written t) ≡ length (image (made t))
written_long t = t.target_marks.auto.room ∙ lent_long (made t)

within : (t : tie.After-target_marks) → length (image (made t)) ≤ length (written t ++ rest t)
within t = omega (arith, written_long t, length-append (written t) (rest t))

sized : (t : tie.After-target_marks) → length (image (made t)) ≡ length (take (length (image (made t))) (written t ++ rest t))
sized t = sym (ap length (take_at (written t) (rest t) (length (image (made t))) (written_long t)) ∙ written_long t)

returns : tie.Need-returns
returns c =
    let t = c.before.before.before in
    let s = start (made t) in
    marks_counted s.args.image.now s.args.marks.now s.requires.1 (lent (made t)) (written t) (rest t)
    (lent_long (made t)) t.target_marks.ensures.1 t.target_marks.auto.room _ c.set_in.ensures

pub target_marks_spec : {M : Type 1} → statement M
target_marks_spec =
    tie.close
    (tie.spec (λ c κs. search rules) (λ c. search rules) (λ c. sym (lent_long c.before)) (λ c κs. search rules)
    (λ c. within c.before) (λ c. sized c.before.before) (λ c κs. search rules) returns)
