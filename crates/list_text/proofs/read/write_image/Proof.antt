-- `read::write_image` meets its contract.
-- Assumes nothing.
use mathlib.Core.Path.{◌≡◌, sym, ap}
use mathlib.Core.List.{List}
use Prim.Native.Nat.{ℕ, ◌+◌, ◌-◌, ◌/◌, ◌≤◌}
use native.Mathlib.Nat.{le_of_lt}
use native.Mathlib.Omega.{arith}
use borrow.Author.Rules.{rules}
use lib.ListN.{length, take, drop, length-drop}
use lib.Seq.{length-take-le}
use Rattle.text.specs.Bytes.{bytes_of}
use Rattle.text.proofs.Cuts.{nearer, piece_inside}
use Rattle.text.proofs.Pairs.{pairs}
use Rattle.list_text.proofs.Puts.{Putting, put_start, put_end, put_fits, put_next}
use Rattle.list_text.proofs.read.write_image.Statement.{statement}
use Rattle.list_text.proofs.read.write_image.Tie as tie

abbrev invariant_loop : tie.invariant-loop-at
invariant_loop text from image₀ at₀ n₀ image at n = Putting text from image₀ image at n

abbrev decreases_loop : tie.decreases-loop-at
decreases_loop text from image₀ at₀ n₀ image at n = length text - at

abbrev start : tie.At-loop-at invariant_loop decreases_loop → tie.Start invariant_loop decreases_loop
start c = c.before.before.before

-- a line ends inside the text
inside : (c : tie.After-end-e invariant_loop decreases_loop) → c.end-e.result ≤ length (start c.before.before).args.text.now
inside c =
    let i = c.before in
    let l = i.before in
    piece_inside 10 (start l).args.text.now l.loop-at.at c.end-e.result c.end-e.ensures (le_of_lt i.loop-at-test.true)

loop-holds : tie.Need-loop-at-init invariant_loop decreases_loop
loop-holds c =
    let s = c.before.before in
    put_start s.args.text.now s.args.from s.args.image.now s.requires

-- the bytes of the line are half as many as its digits
half : (c : tie.After-end-e invariant_loop decreases_loop) → let l = c.before.before in
    (c.end-e.result - l.loop-at.at) / 2 ≡ length (bytes_of (take (c.end-e.result - l.loop-at.at) (drop l.loop-at.at (start l).args.text.now)))
half c =
    let l = c.before.before in
    let line : List ℕ = take (c.end-e.result - l.loop-at.at) (drop l.loop-at.at (start l).args.text.now) in
    let w : length line ≡ c.end-e.result - l.loop-at.at = length-take-le _ _ (omega (arith, inside c, length-drop l.loop-at.at (start l).args.text.now)) in
    sym (pairs line ((c.end-e.result - l.loop-at.at) / 2) (ap (λ (k : ℕ). k / 2) (sym w)))

add-n : tie.Need-overflow_add-n invariant_loop decreases_loop
add-n c =
    let e = c.before.before.before.before.before in
    let i = e.before in
    let l = i.before in
    let a = (start l).args in
    omega (
      arith,
      half e,
      put_fits a.text.now a.from a.image.now l.loop-at.image l.loop-at.at l.loop-at.n l.loop-at.invariant e.end-e.result
          e.end-e.ensures i.loop-at-test.true,
      l.loop-at.invariant.long,
    )

loop-again : tie.Need-loop-at-preserved invariant_loop decreases_loop
loop-again c =
    let v = c.before.before in
    let e = v.before.before.before in
    let i = e.before in
    let l = i.before in
    let a = (start l).args in
    put_next a.text.now a.from a.image.now l.loop-at.image l.loop-at.at l.loop-at.n l.loop-at.invariant e.end-e.result e.end-e.ensures
    i.loop-at-test.true _ (ap (λ (k : ℕ). l.loop-at.n + k) (half e)) v.put.new.room v.put.ensures

returns : tie.Need-returns invariant_loop decreases_loop
returns c =
    let l = c.before in
    let a = (start l).args in
    put_end a.text.now a.from a.image.now l.loop-at.image l.loop-at.at l.loop-at.n l.loop-at.invariant c.loop-at-test.false

add_at : tie.Need-overflow_add-at invariant_loop decreases_loop
add_at c =
    let e = c.before.before.before.before.before in
    let l = e.before.before in
    omega (arith, inside e, (start l).well_formed.0.1)

loop-less : tie.Need-loop-at-smaller invariant_loop decreases_loop
loop-less c =
    let e = c.before.before.before.before.before in
    let i = e.before in
    let l = i.before in
    nearer (length (start l).args.text.now) l.loop-at.at e.end-e.result _ e.end-e.ensures i.loop-at-test.true

pub write_image_spec : {M : Type 1} → statement M
write_image_spec =
    tie.close
    (tie.spec invariant_loop decreases_loop loop-holds (λ c κs. search rules) (λ c. search rules) (λ c. search rules) inside (λ c κs. search rules) (λ c. search rules) add-n
    add_at loop-less loop-again (λ c. c.loop-at.invariant.long) returns)
