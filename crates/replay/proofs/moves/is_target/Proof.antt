-- `moves::is_target` meets its contract.
-- Assumes nothing.
use Prim.Native.Nat.{ℕ}
use mathlib.Core.List.{List}
use mathlib.Core.Bool.{true}
use mathlib.Core.Path.{◌≡◌, sym, ◌∙◌}
use borrow.Author.Tests.{not-true, not-false}
use borrow.Author.Rules.{rules}
use Rattle.views.proofs.TracedAt.{traced_marked}
use Rattle.views.specs.Positions.{traced_at}
use Rattle.replay.proofs.Behind.{untraced_none, flash_none, behind_arrives}
use Rattle.replay.proofs.moves.is_target.Statement.{statement}
use Rattle.replay.proofs.moves.is_target.Tie as tie

abbrev start : tie.After-is_traced_at → tie.Start
start c = c.before.before.before

abbrev image : tie.After-is_traced_at → List ℕ
image c = (start c).args.image.now

abbrev marks : tie.After-is_traced_at → List ℕ
marks c = (start c).args.marks.now

abbrev q : tie.After-is_traced_at → ℕ
q c = (start c).args.q

traced : (c : tie.Else-not-is_traced_at) → traced_at (image c.before) (marks c.before) (q c.before) ≡ true
traced c = sym c.is_traced_at.ensures ∙ not-false _ c.if-not-is_traced_at.false-raw

returns : tie.Need-returns-then-not-is_traced_at
returns c =
    let t = c.before in
    let a = (start t).args in
    untraced_none a.mode (image t) (marks t) (q t) a.p (start t).requires (sym t.is_traced_at.ensures ∙ not-true _ c.if-not-is_traced_at.true-raw)

shared-slice-read-if2 : tie.Need-bounds-marks-at
shared-slice-read-if2 c = let t = c.before.before in traced_marked (image t) (marks t) (q t) (traced c.before)

returns-2 : tie.Need-returns-then-marks-at-eq-FLASH
returns-2 c =
    let t = c.before.before.before in
    let a = (start t).args in flash_none a.mode (image t) (marks t) (q t) a.p (start t).requires c.if-marks-at-eq-FLASH.true

returns-3 : tie.Need-returns-then-falls_to
returns-3 c =
    let f = c.before in
    let e = f.before in
    let l = e.before.before in
    let t = l.before in
    let a = (start t).args in
    behind_arrives a.mode (image t) (marks t) (q t) a.p (start t).requires (λ i. (t.shared_slice_known-1.given i).fits) (traced l)
    e.if-marks-at-eq-FLASH.false (sym f.falls_to.ensures ∙ c.if-falls_to.true)

pub is_target_spec : {M : Type 1} → statement M
is_target_spec =
    tie.close
    (tie.spec
    (λ c κs. search rules)
    returns
    shared-slice-read-if2
    returns-2
    (λ c κs. search rules)
    returns-3
    (λ c κs. search rules)
    (λ c. search rules))
