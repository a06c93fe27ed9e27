-- The positions that taking one up makes wait: its targets that were open. Assumes nothing.
use Prim.Native.Nat.{ℕ, ◌+◌, ◌<◌, ◌≤◌}
use native.Mathlib.Omega.{arith}
use mathlib.Core.Bool.{Bool, true, false, cond}
use mathlib.Core.Path.{◌≡◌}
use mathlib.Core.Logic.{inr, ◌≢◌}
use mathlib.Core.List.{List, [], Memᴰ as Among}
use lib.ListN.{length, get_or, set, take, length-set}
use Rattle.reach.specs.Mark.{count}
use Rattle.reach.specs.Note.{Open}
use Rattle.reach.specs.Tracer.{Tracer, targets, mark, took, found}
use Rattle.reach.specs.Takes.{Once}
use Rattle.reach.proofs.Mark.{live_ne}
use Rattle.reach.proofs.Count.{touched, one_touched, count_mark}
use Rattle.reach.proofs.Set.{open_set, set_open}
use Rattle.reach.proofs.Fresh.{fresh_open_among, among_open_fresh, fresh_once}
use Rattle.reach.proofs.FreshCount.{touched_note, fresh_short}
use Rattle.reach.proofs.Took.{mark_traced}

module _ (G : Tracer) (m : List ℕ) (p : ℕ) where
  pub mark_ne : mark G m p ≢ 0
  mark_ne = live_ne (inr (mark_traced G m p))

  -- never more than the instruction has targets
  pub found_short : length (found G m p) ≤ length (G.ways p)
  unfolding found targets
  found_short = omega (arith, fresh_short G.size (targets G m p) (set m p (mark G m p)), by (G.exempt m p))
    where
      by : (b : Bool) → length (cond b [] (G.ways p)) ≤ length (G.ways p)
      by true = omega arith
      by false = omega arith

  module _ (l : G.size ≤ length m) (h : p < G.size) where
    long : G.size ≤ length (set m p (mark G m p))
    long = omega (arith, length-set m p (mark G m p))

    pub found_called : (q : ℕ) → Among q (found G m p) → (q ≢ p) × Among q (targets G m p) × Open G.size m q
    unfolding found
    found_called q i =
        let r = fresh_open_among G.size (targets G m p) (set m p (mark G m p)) q long i in
        let o = set_open G.size m p (mark G m p) q mark_ne (omega arith) r.1 in
        (o.0, r.0, o.1)

    pub called_found : (q : ℕ) → q ≢ p → Among q (targets G m p) → Open G.size m q → Among q (found G m p)
    unfolding found
    called_found q ne i o = among_open_fresh G.size (targets G m p) (set m p (mark G m p)) q i (open_set G.size m p (mark G m p) q ne o)

    pub found_once : Once (found G m p)
    unfolding found
    found_once = fresh_once G.size (targets G m p) (set m p (mark G m p)) long

    -- as many more marks are not 0
    pub touched_took : get_or m p 0 ≢ 0 → count touched (take G.size (took G m p)) ≡ count touched (take G.size m) + length (found G m p)
    unfolding took found
    touched_took nz =
        let a = touched_note G.size (targets G m p) (set m p (mark G m p)) long in
        let b = count_mark touched G.size m p (mark G m p) h l in
        omega (arith, a, b, one_touched (get_or m p 0) nz, one_touched (mark G m p) mark_ne)
