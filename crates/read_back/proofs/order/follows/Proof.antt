-- `order::follows` meets its contract: each test of the code is one of the definition.
-- Assumes nothing.
use mathlib.Core.Path.{◌≡◌, sym, ◌∙◌}
use Prim.Native.Nat.{◌<◌, ◌≤◌}
use borrow.Author.Rules.{rules}
use borrow.Author.Tests.{eq-eqb, ne_eqb, lt-ltb, le-ltb}
use Rattle.read_back.specs.Order.{rank_of, follows}
use Rattle.read_back.proofs.order.follows.Statement.{statement}
use Rattle.read_back.proofs.order.follows.Tie as tie

-- the place has a line before it
some : (c : tie.Else-before-eq0) → rank_of c.args.place.letter ≡ 0 → ⊥
some c e = c.if-before-eq0.false (c.rank-before.ensures ∙ e)

returns : tie.Need-returns-then-before-eq0
unfolding follows
returns c =
    let k = c.before in
    rw (eq-eqb (rank_of k.args.place.letter) 0 (sym k.rank-before.ensures ∙ c.if-before-eq0.true))

returns-2 : tie.Need-returns-then-place-r
unfolding follows
returns-2 c =
    let e = c.before.before.before in
    let a = e.args in
    rw (ne_eqb (rank_of a.place.letter) 0 (some e), lt-ltb a.place.last a.r.position c.if-place-r.true)

returns-3 : tie.Need-returns-then-place-r-2
unfolding follows
returns-3 c =
    let f = c.before.before.before in
    let e = f.before.before.before in
    let a = e.args in
    rw (
      ne_eqb (rank_of a.place.letter) 0 (some e),
      le-ltb a.place.last a.r.position f.if-place-r.false,
      ne_eqb a.place.last a.r.position
          c.if-place-r-2.true,
    )

-- the same position
level : (c : tie.Else-place-r-2) → let a = c.args in
    (rank_of a.place.letter ≡ 0 → ⊥) × (a.r.position ≤ a.place.last) × (a.place.last ≡ a.r.position)
level c =
    let f = c.before.before.before in
    let e = f.before.before.before in
    (some e, f.if-place-r.false, c.if-place-r-2.false)

returns-4 : tie.Need-returns-then-before-here
unfolding follows
returns-4 c =
    let k = c.before in
    let l = k.before in
    let g = level l in
    let b = l.before.before.before.before.before.before.before in
    let a = b.args in
    let p : rank_of a.place.letter < rank_of a.r.letter = rw (b.rank-before.ensures, k.rank-here.ensures) at c.if-before-here.true in
    rw (
      k.rank-here.ensures,
      ne_eqb (rank_of a.place.letter) 0 g.0,
      le-ltb a.place.last a.r.position g.1,
      eq-eqb a.place.last a.r.position g.2,
      lt-ltb (rank_of a.place.letter) (rank_of a.r.letter) p,
    )

returns-5 : tie.Need-returns-else-before-here
unfolding follows
returns-5 c =
    let k = c.before in
    let l = k.before in
    let g = level l in
    let b = l.before.before.before.before.before.before.before in
    let a = b.args in
    let p : rank_of a.r.letter ≤ rank_of a.place.letter = rw (b.rank-before.ensures, k.rank-here.ensures) at c.if-before-here.false in
    rw (
      b.rank-before.ensures,
      k.rank-here.ensures,
      ne_eqb (rank_of a.place.letter) 0 g.0,
      le-ltb a.place.last a.r.position g.1,
      eq-eqb a.place.last a.r.position g.2,
      le-ltb (rank_of a.place.letter) (rank_of a.r.letter) p,
    )

pub follows_spec : {M : Type 1} → statement M
follows_spec = tie.close (tie.spec (λ c κs. search rules) returns returns-2 returns-3 (λ c κs. search rules) returns-4 returns-5)
