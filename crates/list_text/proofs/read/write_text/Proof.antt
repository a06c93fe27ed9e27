-- `read::write_text` meets its contract.
-- Assumes nothing.
use Prim.Native.Nat.{◌≤◌}
use native.Mathlib.Omega.{arith}
use borrow.Author.Rules.{rules}
use lib.ListN.{length}
use Rattle.text.proofs.Cuts.{piece_inside}
use Rattle.list_text.proofs.Firsts.{entries_fit, image_fits, put_whole}
use Rattle.list_text.proofs.read.write_text.Statement.{statement}
use Rattle.list_text.proofs.read.write_text.Tie as tie

abbrev start : tie.After-end-e → tie.Start
start c = c.before.before.before.before

-- line 1 ends inside the text
inside : (c : tie.After-end-e) → c.end-e.result ≤ length (start c).args.text.now
inside c = piece_inside 10 (start c).args.text.now 0 c.end-e.result c.end-e.ensures (omega arith)

write-requires : tie.Need-write-requires
write-requires c κs =
    let e = c.before.before in
    let s = start e in
    entries_fit s.args.text.now e.end-e.result e.end-e.ensures _ s.requires.0

add-write-image : tie.Need-overflow_add-e
add-write-image c =
    let e = c.before.before.before.before.before in
    omega (arith, inside e, (start e).well_formed.0.1)

write-image-requires : tie.Need-write_image-requires
write-image-requires c κs =
    let e = c.before.before.before.before.before.before in
    let s = start e in
    image_fits s.args.text.now e.end-e.result e.end-e.ensures _ s.requires.1

returns : tie.Need-returns
returns c =
    let d = c.before.before in
    let w = d.before.before.before.before in
    let e = w.before.before.before in
    let s = start e in
    put_whole s.args.text.now e.end-e.result e.end-e.ensures s.args.entries.now s.args.image.now s.requires.0 s.requires.1
    w.write.new.room w.write.ensures d.write_image.new.image d.write_image.ensures

pub write_text_spec : {M : Type 1} → statement M
write_text_spec =
    tie.close
    (tie.spec (λ c κs. search rules) (λ c. search rules) (λ c. search rules) inside write-requires add-write-image write-image-requires (λ c. search rules)
    (λ c. search rules) returns)
