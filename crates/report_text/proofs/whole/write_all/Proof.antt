-- `whole::write_all` meets its contract.
-- Assumes nothing.
use Prim.Native.Nat.{ℕ, ◌+◌, ◌-◌, ◌≤◌, ◌<◌}
use native.Mathlib.Omega.{arith}
use mathlib.Core.List.{List}
use mathlib.Core.Path.{◌≡◌, refl, sym, ap, subst, ◌∙◌}
use borrow.Author.Rules.{rules}
use lib.ListN.{length, take, drop, length-drop}
use lib.Seq.{sets}
use Rattle.report_text.specs.Term.{State, state, used_in, first_out, Writing}
use Rattle.report_text.proofs.Writes.{SoFar, so_far_none, so_far_wrote, so_far_whole, lent_is, used_some}
use Rattle.report_text.proofs.whole.write_all.Statement.{statement}
use Rattle.report_text.proofs.whole.write_all.Tie as tie

abbrev invariant_loop : tie.invariant-loop-at
invariant_loop text held₀ line₀ room₀ now₀ at₀ n₀ held line room now at n =
    (length held ≡ length held₀) × (length line ≡ length line₀) × (length room ≡ length room₀) × SoFar text room₀ (state now held) at n room

abbrev decreases_loop : tie.decreases-loop-at
decreases_loop text held₀ line₀ room₀ now₀ at₀ n₀ held line room now at n = length text - at

loop-holds : tie.Need-loop-at-init invariant_loop decreases_loop
loop-holds c =
    let s = c.before.before.before.before.before in
    let a = s.args in
    (refl, refl, refl, so_far_none a.text.now a.room.now a.held.now _ c.new-now.ensures s.requires.0)

abbrev start : tie.At-loop-at invariant_loop decreases_loop → tie.Start invariant_loop decreases_loop
start l = l.before.before.before.before.before.before

some-requires : tie.Need-write_some-p-requires invariant_loop decreases_loop
some-requires c κs =
    let l = c.before.before.before.before.before in
    let p = (start l).requires in
    (let e = l.loop-at.invariant.0 in omega (arith, e, p.0), let e = l.loop-at.invariant.1 in omega (arith, e, p.1))

-- one call more
abbrev looped : tie.After-write_some-p invariant_loop decreases_loop → tie.At-loop-at invariant_loop decreases_loop
looped w = w.before.before.before.before.before.before

more : (w : tie.After-write_some-p invariant_loop decreases_loop) → let l = looped w in let a = (start l).args in
    SoFar a.text.now a.room.now (state w.write_some-p.result.term w.write_some-p.new.held) (l.loop-at.at + w.write_some-p.result.used)
    w.write_some-p.result.count w.write_some-p.new.room
more w =
    let l = looped w in
    so_far_wrote l.loop-at.invariant.3 _ (lent_is l.loop-at.invariant.3) _ w.write_some-p.result w.write_some-p.ensures.0 _ w.write_some-p.ensures.1

add_at : tie.Need-overflow_add-at invariant_loop decreases_loop
add_at c =
    let w = c.before.before.before.before.before.before.before.before in
    let m = (more w).inside in
    omega (arith, m, (start (looped w)).well_formed.0.1)

loop-less : tie.Need-loop-at-smaller invariant_loop decreases_loop
loop-less c =
    let w = c.before.before.before.before.before.before.before.before in
    let l = looped w in
    let t : List ℕ = (start l).args.text.now in
    let s : State = state l.loop-at.now l.loop-at.held in
    let p = lent_is l.loop-at.invariant.3 in
    let u = w.write_some-p.ensures.0.used_is ∙ ap (used_in s) p in
    let i = w.loop-at-test.true in
    let k = used_some s (drop l.loop-at.at t) (omega (arith, i, length-drop l.loop-at.at t)) in
    omega (arith, u, k, i)

loop-again : tie.Need-loop-at-preserved invariant_loop decreases_loop
loop-again c =
    let w = c.before.before.before.before.before.before.before.before in
    let l = looped w in (
      w.write_some-p.auto.held ∙ l.loop-at.invariant.0,
      w.write_some-p.auto.line ∙ l.loop-at.invariant.1,
      w.write_some-p.auto.room
          ∙ l.loop-at.invariant.2,
      more w,
    )

last-requires : tie.Need-write_last-requires invariant_loop decreases_loop
last-requires c κs =
    let l = c.before.before.before in
    let p = (start l).requires in
    (let e = l.loop-at.invariant.0 in omega (arith, e, p.0), let e = l.loop-at.invariant.1 in omega (arith, e, p.1))

returns : tie.Need-returns invariant_loop decreases_loop
returns c =
    let w = c.before.before.before.before in
    let e = w.before.before.before.before in
    let l = e.before in
    so_far_whole e.loop-at.invariant.3 w.loop-at-test.false _ w.write_last.ensures.0 _ w.write_last.ensures.1

pub write_all_spec : {M : Type 1} → statement M
write_all_spec =
    tie.close
    (tie.spec invariant_loop decreases_loop (λ c κs. search rules) loop-holds (λ c. search rules) (λ c. search rules)
    (λ c. search rules) some-requires add_at loop-less loop-again last-requires
    (λ c. search rules) (λ c. search rules) (λ c. search rules) returns)
