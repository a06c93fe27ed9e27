-- What is not found of `find::next_data`: nothing is data up to where the loop stands.
-- Assumes nothing.
use mathlib.Core.Path.{◌∙◌}
use native.Mathlib.Omega.{arith}
use Rattle.map.proofs.Finding.{none_yet, all_code, found_or_to, none_skipped}
use Rattle.map.proofs.find.next_data.Goals as goal

pub loop-q-init : goal.loop-q-init
loop-q-init c = (omega arith, omega (arith, c.requires.0), none_yet c.args.words.now c.args.from c.args.to)

pub returns-then-i-lt64 : goal.returns-then-i-lt64
returns-then-i-lt64 c =
    let a = c.args in
    let l = c.loop-q in
    c.min.ensures
    ∙ found_or_to a.words.now a.from a.to c.requires.0 l.q l.invariant.0 l.invariant.2 c.first_zero-i.result c.first_zero-i.ensures c.if-i-lt64.true

pub loop-q-preserved : goal.loop-q-preserved
loop-q-preserved c =
    let a = c.args in
    let l = c.loop-q in
    let f = c.skip_full-q.ensures in (
      omega (arith, l.invariant.0, f.from),
      f.near,
      none_skipped a.words.now a.from a.to c.requires.0 l.q l.invariant.0 l.invariant.2 c.first_zero-i.result c.first_zero-i.ensures c.if-i-lt64.false
          c.skip_full-q.result f,
    )

pub returns : goal.returns
returns c = let a = c.args in all_code a.words.now a.from a.to c.requires.0 c.loop-q.q c.loop-q-test.false c.loop-q.invariant.2
