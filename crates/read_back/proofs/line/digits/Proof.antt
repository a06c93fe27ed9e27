-- `line::digits` meets its contract.
-- Assumes nothing.
use mathlib.Core.Path.{sym}
use Prim.Native.Nat.{◌≤◌}
use native.Mathlib.Omega.{arith}
use borrow.Author.Rules.{rules}
use lib.ListN.{length}
use Rattle.text.proofs.Cuts.{first_end, the_piece, piece_inside}
use Rattle.read_back.proofs.line.digits.Statement.{statement}
use Rattle.read_back.proofs.line.digits.Tie as tie

returns : tie.Need-returns-then-line-le-START
returns c =
    let t = c.before in
    sym (first_end 9 t.args.line.now 7 (omega (arith, t.if-line-le-START.true)))

-- the field ends inside the line
inside : (e : tie.After-end-e) → e.end-e.result ≤ length e.args.line.now
inside e = piece_inside 9 e.args.line.now 7 e.end-e.result e.end-e.ensures (omega (arith, e.if-line-le-START.false))

left : tie.Need-slice_bounds-result-count-2
left c = omega (arith, c.end-e.ensures)

starts : tie.Need-slice_bounds-result-start-2
starts c = omega (arith, c.end-e.ensures)

returns-2 : tie.Need-returns
returns-2 c = let e = c.before in the_piece 9 e.args.line.now 7 e.end-e.result e.end-e.ensures

pub digits_spec : {M : Type 1} → statement M
digits_spec =
    tie.close
    (tie.spec (λ c. search rules) (λ c. search rules) (λ c. search rules) returns (λ c κs. search rules) left starts inside returns-2)
