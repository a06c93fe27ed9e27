-- `lines::put_here` meets its contract.
-- Assumes nothing.
use mathlib.Core.Path.{ap, ◌∙◌}
use mathlib.Core.List.{List}
use Prim.Native.Nat.{ℕ, ◌+◌, ◌^◌, ◌≤◌, ◌<◌}
use native.Mathlib.Omega.{arith}
use borrow.Author.Rules.{rules}
use lib.ListN.{length}
use Rattle.instruction.specs.Decode.{decode_answer}
use Rattle.targets.proofs.HereIs.{to_end}
use Rattle.text.proofs.Putting.{puts_as, puts_none}
use Rattle.listing.specs.Alone.{text_of}
use Rattle.listing.proofs.Opened.{text_here, none_here}
use Rattle.listing.proofs.lines.put_here.Statement.{statement}
use Rattle.listing.proofs.lines.put_here.Tie as tie

abbrev start : tie.Else-image-p → tie.Start
start e = e.before.before.before

inside : (e : tie.Else-image-p) → (start e).args.p < length (start e).args.image.now
inside e = omega (arith, e.if-image-p.false)

returns : tie.Need-returns-then-image-p
returns c =
    let a = c.args in
    (puts_as (none_here a.mode a.image.now a.p c.if-image-p.true) (puts_none _ _), omega arith)

left : tie.Need-slice_bounds-put_instr-count
left c = let h : (start c).args.p < length (start c).args.image.now = inside c in omega (arith, h)

starts : tie.Need-slice_bounds-put_instr-start
starts c = let h : (start c).args.p < length (start c).args.image.now = inside c in omega (arith, h)

returns-2 : tie.Need-returns
returns-2 c =
    let k = c.before.before in
    let e = k.before.before.before in
    let a = (start e).args in
    let g : k.put_instr.result ≤ a.at + 2 ^ 18 = k.put_instr.ensures.1 in (
      puts_as
          (ap (λ (s : List ℕ). text_of a.mode a.p s (decode_answer s)) (to_end a.image.now a.p)
          ∙ text_here a.image.now a.p (inside e) a.mode)
          k.put_instr.ensures.0,
      omega arith,
    )

pub put_here_spec : {M : Type 1} → statement M
put_here_spec =
    tie.close
    (tie.spec returns left starts (λ c. search rules) (λ c κs. search rules) (λ c. search rules) returns-2)
