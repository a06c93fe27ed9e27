-- How a run's loop begins: the entries are noted over the base and in the lent order list. Assumes nothing.
use Prim.Native.Nat.{ℕ, ◌+◌, ◌-◌, ◌≤◌, zero-le}
use native.Mathlib.Omega.{arith}
use mathlib.Core.Path.{◌≡◌, refl, sym, ap, ap₂, ◌∙◌}
use mathlib.Core.List.{List}
use lib.ListN.{length, take, drop}
use Rattle.reach.specs.Note.{fresh}
use Rattle.reach.specs.Tracer.{Tracer}
use Rattle.reach.specs.Takes.{Base}
use Rattle.reach.specs.Run.{run_from, run_of}
use Rattle.reach.specs.Queue.{Noted}
use Rattle.reach.proofs.FreshCount.{touched_note, fresh_le}
use Rattle.reach.proofs.Line.{line_start}
use Rattle.reach.proofs.Sets.{take_sets, drop_sets}
use Rattle.reach.proofs.Noted.{noted_long}
use Rattle.reach.proofs.Stand.{Stand}

module _ {G : Tracer} {entries base lent m₀ o₀ : List ℕ} {tail₀ : ℕ} (B : Base G base) (room : G.size ≤ length lent)
    (N : Noted G.size entries base lent 0 m₀ o₀ tail₀) where
  abbrev set_out : List ℕ
  set_out = fresh G.size entries base

  few : length set_out ≤ G.size
  few = fresh_le G.size entries base B.long

  pub marks_fit : G.size ≤ length m₀
  marks_fit = omega (arith, (noted_long N).0, B.long)

  pub order_fits : G.size ≤ length o₀
  order_fits = omega (arith, (noted_long N).1)

  tail_is : tail₀ ≡ 0 + length set_out
  tail_is = N.tail_is

  pub begin_queue : take tail₀ o₀ ≡ set_out
  begin_queue = ap₂ take tail_is N.order_is ∙ take_sets lent 0 set_out (omega (arith, few))

  pub begin_rest : drop tail₀ o₀ ≡ drop tail₀ lent
  begin_rest = ap₂ drop tail_is N.order_is ∙ drop_sets lent 0 set_out (omega (arith, few)) ∙ ap (λ (k : ℕ). drop k lent) (sym tail_is)

  pub begin_run : (limit : ℕ) → run_of limit G entries base ≡ run_from limit G (take tail₀ o₀) m₀
  unfolding run_of
  begin_run limit = ap₂ (λ (q m : List ℕ). run_from limit G q m) (sym begin_queue) (sym N.marks_are)

  pub stand_begin : (limit : ℕ) → Stand G limit m₀ o₀ tail₀ m₀ o₀ tail₀ 0
  stand_begin limit = record {
    marks_long = refl;
    order_long = refl;
    begun = omega arith;
    in_tail = zero-le;
    in_limit = zero-le;
    counted = rw N.marks_are (omega (arith, tail_is, touched_note G.size entries base B.long));
    rest = refl;
    line = rw (begin_queue, N.marks_are) (line_start G entries base B);
    left = let e : limit - 0 ≡ limit = omega arith in ap (λ (k : ℕ). run_from k G (take tail₀ o₀) m₀) e;
  }
