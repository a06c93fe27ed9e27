-- `laying::listed` meets its contract.
-- Assumes nothing.
use Prim.Native.Nat.{◌+◌, ◌*◌, ◌≤◌}
use native.Mathlib.Omega.{arith}
use borrow.Author.Rules.{rules}
use borrow.Author.Tests.{not-true, not-false}
use lib.ListN.{length}
use Rattle.text.specs.Bytes.{bytes_of}
use Rattle.read_back.proofs.Notes.{none_listed, count_none, count_inside, bytes_listed}
use Rattle.read_back.proofs.laying.listed.Statement.{statement}
use Rattle.read_back.proofs.laying.listed.Tie as tie

abbrev start : tie.After-has_bytes → tie.Start
start h = h.before.before

returns : tie.Need-returns-then-not-has_bytes
unfolding bytes_of
returns c =
    let h = c.before.before in
    let s = start h in
    none_listed s.args.line.now s.args.r s.requires.1 _ h.has_bytes.ensures (not-true _ c.if-not-has_bytes.true-raw)

returns-2 : tie.Need-returns-then-n-eq0
unfolding bytes_of
returns-2 c =
    let t = c.before in
    let e = t.before in
    let h = e.before in
    let s = start h in
    count_none s.args.line.now s.args.r s.requires.1 _ h.has_bytes.ensures (not-false _ e.if-not-has_bytes.false-raw) s.requires.0 t.if-n-eq0.true

inside : (f : tie.Else-n-eq0) → let a = (start f.before.before).args in 7 + a.r.count * 2 ≤ length a.line.now
inside f =
    let e = f.before in
    let h = e.before in
    let s = start h in
    count_inside s.args.line.now s.args.r s.requires.1 _ h.has_bytes.ensures (not-false _ e.if-not-has_bytes.false-raw) s.requires.0 f.if-n-eq0.false

returns-3 : tie.Need-returns
returns-3 c =
    let e = c.before.before in
    let h = e.before in
    let s = start h in
    bytes_listed s.args.line.now s.args.r s.requires.1 _ h.has_bytes.ensures (not-false _ e.if-not-has_bytes.false-raw) s.requires.0

pub listed_spec : {M : Type 1} → statement M
listed_spec =
    tie.close
    (tie.spec (λ c κs. search rules) (λ c. search rules) (λ c. search rules) (λ c. search rules) returns
    (λ c. search rules) (λ c. search rules) (λ c. search rules) returns-2
    (λ c. record { fits = omega (arith, inside c, (start c.before.before).well_formed.0.1) })
    (λ c. record { fits = omega (arith, inside c, (start c.before.before).well_formed.0.1) }) (λ c. search rules) (λ c. search rules) inside returns-3)
