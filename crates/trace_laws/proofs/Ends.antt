-- However an image was traced to its end, that is an order that ends; so its marks lie between the two reachable sets, and of an image
-- without B8 0D 21 they are final. Both are told by the pins alone, whatever marks were lent.
-- Assumes nothing.
use Prim.Native.Nat.{ℕ, suc, ◌≤◌}
use native.Mathlib.Omega.{arith}
use mathlib.Core.List.{List}
use mathlib.Core.Path.{sym, subst, ◌∙◌}
use lib.ListN.{length}
use Rattle.instruction.specs.Bytes.{Bytes}
use Rattle.instruction.specs.declared.mode.Mode.{Mode}
use Rattle.targets.specs.At.{ways_here, flash_here}
use Rattle.reach.specs.ClaimsBetween.{Within, Between}
use Rattle.reach.specs.Pins.{table}
use Rattle.reach.specs.Takes.{ToEnd}
use Rattle.reach.proofs.BetweenLike.{table_between}
use Rattle.reach.proofs.Order.{any_order}
use Rattle.reach.proofs.Run.{run_to_end}
use Rattle.reach.proofs.SweepTakes.{sweeps_to_end}
use Rattle.reach.proofs.Table.{table_base}
use Rattle.reach.proofs.Told.{Told, bare, table_told}
use Rattle.reach.proofs.Within.{within_maybe}
use Rattle.marks.specs.Tracer.{tracer_of, exempt_here}
use Rattle.trace.specs.Run.{outcome_of}
use Rattle.trace_laws.specs.ClaimsImages.{Clean}
use Rattle.trace_laws.specs.ClaimsJoin.{TracedToEnd, by_steps, by_run, by_sweeps}
use Rattle.trace_laws.specs.Reachable.{unfollowed}
use Rattle.trace_laws.proofs.ClaimsImagesOrder.{began, to_end}
use Rattle.trace_laws.proofs.ClaimsSweepsImages.{leaves_sweeps, small_image, long_marks}
use Rattle.trace_laws.proofs.Finished as finish
use Rattle.trace_laws.proofs.Unflashed.{plain}

-- the marks lent, and the order over the table with the pins
record LentOrder (mode : Mode) (image entries pins m : List ℕ) : Type 0 where
  lent : List ℕ
  room : length image ≤ length lent
  order : ToEnd (tracer_of mode image) (table (length image) pins lent) entries m

module _ (mode : Mode) (image entries pins m : List ℕ) where
  lent_order : TracedToEnd mode image entries pins m → LentOrder mode image entries pins m
  unfolding outcome_of
  lent_order (by_steps marks T) =
      record { lent = marks; room = (began image marks entries pins T.count T.started).room; order = to_end mode image marks entries pins m T }
  lent_order (by_run marks order limit s a f e) =
      let l = finish.covered mode image marks order entries pins limit (finish.sized mode image marks order entries pins limit s a) in
      record {
        lent = marks;
        room = l;
        order = subst (ToEnd (tracer_of mode image) (table (length image) pins marks) entries)
            (sym (e ∙ finish.marks_are mode image marks order entries pins limit s a))
            (run_to_end limit (tracer_of mode image) entries (table (length image) pins marks) (table_base (tracer_of mode image) pins marks l)
            (finish.ended mode image marks order entries pins limit s a f));
      }
  lent_order (by_sweeps marks s a e) =
      let l = long_marks mode image marks entries pins s a in
      record {
        lent = marks;
        room = l;
        order = subst (ToEnd (tracer_of mode image) (table (length image) pins marks) entries)
            (sym (e ∙ leaves_sweeps mode image marks entries pins (small_image mode image marks entries pins s a) l))
            (sweeps_to_end (suc (length image)) (tracer_of mode image) entries (table (length image) pins marks)
            (table_base (tracer_of mode image) pins marks l) (omega arith));
      }

  pub ends : Bytes image → Clean image → TracedToEnd mode image entries pins m → Told (tracer_of mode image) (bare (length image) pins) entries m
  ends B C T =
      let E = lent_order T in
      table_told (tracer_of mode image) pins E.lent entries m E.room
      (any_order (tracer_of mode image) (plain mode image B C) (table (length image) pins E.lent) entries m
      (table_base (tracer_of mode image) pins E.lent E.room) E.order)

  -- where bytes alone rule the exception out, it does not hold
  within : Within (tracer_of mode image) (unfollowed mode image) (ways_here mode image)
  unfolding exempt_here
  within = within_maybe (tracer_of mode image) (flash_here image) (λ k p e. rw e)

  pub between : TracedToEnd mode image entries pins m
      → Between (tracer_of mode image) (unfollowed mode image) (ways_here mode image) (bare (length image) pins) entries m
  between T =
      let E = lent_order T in
      table_between (tracer_of mode image) (unfollowed mode image) (ways_here mode image) within pins E.lent entries m E.room E.order
