-- `moves::is_free_after` meets its contract.
-- Assumes nothing.
use Prim.Native.Nat.{ℕ, ◌<◌}
use mathlib.Core.List.{List}
use mathlib.Core.Bool.{true}
use mathlib.Core.Path.{◌≡◌, sym, ◌∙◌}
use lib.ListN.{get_or}
use borrow.Author.Tests.{not-true, not-false}
use borrow.Author.Rules.{rules}
use Rattle.views.proofs.TracedAt.{traced_inside, traced_marked}
use Rattle.views.specs.Positions.{traced_at}
use Rattle.replay.proofs.Moving.{free_untraced, free_ret, free_reti, free_other, free_jmpf}
use Rattle.replay.proofs.moves.is_free_after.Statement.{statement}
use Rattle.replay.proofs.moves.is_free_after.Tie as tie

abbrev start : tie.After-is_traced_at → tie.Start
start c = c.before.before.before

abbrev image : tie.After-is_traced_at → List ℕ
image c = (start c).args.image.now

abbrev marks : tie.After-is_traced_at → List ℕ
marks c = (start c).args.marks.now

abbrev q : tie.After-is_traced_at → ℕ
q c = (start c).args.q

traced : (c : tie.Else-not-is_traced_at) → traced_at (image c.before) (marks c.before) (q c.before) ≡ true
traced c = sym c.is_traced_at.ensures ∙ not-false _ c.if-not-is_traced_at.false-raw

byte : (c : tie.After-shared_slice_known-3-1) → get_or (image c.before.before) (q c.before.before) 0 < 256
byte c = (c.shared_slice_known-3-1.given (q c.before.before)).fits

returns : tie.Need-returns-then-not-is_traced_at
returns c =
    let t = c.before in free_untraced (image t) (marks t) (q t) (sym t.is_traced_at.ensures ∙ not-true _ c.if-not-is_traced_at.true-raw)

shared-slice-read-first : tie.Need-bounds-image-at
shared-slice-read-first c = let t = c.before.before in traced_inside (image t) (marks t) (q t) (traced c.before)

returns-2 : tie.Need-returns-then-first
returns-2 c =
    let k = c.before in
    let t = k.before.before in free_ret (image t) (marks t) (q t) (traced k.before) (byte k) c.if-first.true

returns-3 : tie.Need-returns-then-first-2
returns-3 c =
    let e = c.before in
    let k = e.before in
    let t = k.before.before in free_reti (image t) (marks t) (q t) (traced k.before) (byte k) e.if-first.false c.if-first-2.true

returns-4 : tie.Need-returns-then-first-ne33
returns-4 c =
    let f = c.before in
    let e = f.before in
    let k = e.before in
    let t = k.before.before in free_other (image t) (marks t) (q t) (traced k.before) (byte k) e.if-first.false f.if-first-2.false c.if-first-ne33.true

shared-slice-read-result : tie.Need-bounds-marks-at
shared-slice-read-result c =
    let k = c.before.before.before.before in
    let t = k.before.before in traced_marked (image t) (marks t) (q t) (traced k.before)

returns-5 : tie.Need-returns
returns-5 c =
    let g = c.before in
    let f = g.before in
    let e = f.before in
    let k = e.before in
    let t = k.before.before in free_jmpf (image t) (marks t) (q t) (traced k.before) (byte k) e.if-first.false f.if-first-2.false g.if-first-ne33.false

pub is_free_after_spec : {M : Type 1} → statement M
is_free_after_spec =
    tie.close
    (tie.spec
    (λ c κs. search rules)
    returns
    shared-slice-read-first
    returns-2
    returns-3
    returns-4
    shared-slice-read-result
    returns-5)
