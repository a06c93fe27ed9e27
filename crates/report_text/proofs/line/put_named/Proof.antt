-- `line::put_named` meets its contract.
-- Assumes nothing.
use native.Mathlib.Omega.{arith}
use Prim.Native.Nat.{◌+◌}
use borrow.Author.Rules.{rules}
use lib.ListN.{set}
use Rattle.text.specs.Puts.{Puts}
use Rattle.text.proofs.Putting.{puts_then, puts_length}
use Rattle.list_text.proofs.Bytewise.{byte_put}
use Rattle.report_text.specs.Image.{reported_of}
use Rattle.report_text.specs.Report.{image_line}
use Rattle.report_text.proofs.line.put_named.Statement.{statement}
use Rattle.report_text.proofs.line.put_named.Tie as tie

abbrev start : tie.After-put_name-named → tie.Start
start c = c.before.before.before.before

abbrev named : tie.After-put_told-told → tie.After-put_name-named
named c = c.before.before.before.before

line : (c : tie.After-put_told-told) → let a = (start (named c)).args in
    Puts (image_line a.name.now (reported_of a.image)) 0 a.room.now (set c.put_told-told.new.room c.put_told-told.result 10) (c.put_told-told.result + 1)
unfolding image_line
line c = puts_then (puts_then (named c).put_name-named.ensures c.put_told-told.ensures.0) (byte_put 10 c.put_told-told.result c.put_told-told.new.room)

returns : tie.Need-returns
returns c =
    let t = c.before.before in
    let n = named t in
    (line t, omega (arith, t.put_told-told.ensures.1, n.put_name-named.ensures.next, (start n).requires.0))

pub put_named_spec : {M : Type 1} → statement M
put_named_spec =
    tie.close
    (tie.spec (λ c κs. search rules) (λ c κs. search rules) (λ c. search rules) (λ c. search rules) (λ c. puts_length (line c.before.before)) returns)
