-- The run of an image's tracer, which has at most two targets for each position: its ceilings, and the marks that it leaves.
-- Assumes nothing.
use Prim.Native.Nat.{ℕ, ◌+◌, ◌*◌, ◌<◌, ◌≤◌}
use native.Mathlib.Omega.{arith}
use mathlib.Core.List.{List}
use mathlib.Core.Path.{◌≡◌, sym, ap, subst, ◌∙◌}
use lib.ListN.{length, get_or}
use Rattle.instruction.specs.declared.mode.Mode.{Mode}
use Rattle.targets.specs.At.{ways_here}
use Rattle.targets.proofs.WaysAre.{ways_few}
use Rattle.reach.specs.Mark.{IsTraced}
use Rattle.reach.specs.Pins.{table}
use Rattle.reach.specs.Run.{Outcome, steps, noted}
use Rattle.reach.proofs.Distinct.{fresh_distinct}
use Rattle.reach.proofs.Note.{length_note}
use Rattle.reach.proofs.Run.{run_takes}
use Rattle.reach.proofs.RunNotes.{run_noting}
use Rattle.reach.proofs.Table.{table_base, length_table}
use Rattle.reach.proofs.Takes.{length_takes}
use Rattle.marks.specs.Tracer.{tracer_of}
use Rattle.trace.specs.Run.{outcome_of}
use Rattle.trace_laws.specs.ClaimsCeilings as claims

module _ (mode : Mode) (image marks entries pins : List ℕ) (limit : ℕ) (l : length image ≤ length marks) where
  abbrev out : Outcome
  out = outcome_of mode image marks entries pins limit

  pub below : claims.UnderCeilings image entries pins limit (steps out) (length (noted out))
  unfolding outcome_of
  below =
      let G = tracer_of mode image in
      let base = table (length image) pins marks in
      let B = table_base G pins marks l in
      let t = run_takes limit G entries base B in
      let n = run_noting limit G entries base B in
      let d = fresh_distinct (length image) entries pins marks l in
      record {
        in_limit = t.in_limit;
        in_image = t.in_image;
        noted_twice = subst (λ (k : ℕ). length (noted out) ≤ k + 2 * steps out) d (n.in_twice (ways_few mode image));
        noted_image = n.in_image;
      }

  pub tied : claims.traced_marks image out.marks ≡ steps out
  unfolding outcome_of
  tied = (run_takes limit (tracer_of mode image) entries (table (length image) pins marks) (table_base (tracer_of mode image) pins marks l)).counted

  pub long : length image ≤ length out.marks
  unfolding outcome_of
  long =
      let base = table (length image) pins marks in
      omega (
        arith,
        length_takes (run_takes limit (tracer_of mode image) entries base (table_base (tracer_of mode image) pins marks l)).takes,
        length_note (length image) entries base,
        length_table (length image) pins marks l,
      )

  -- where as many are noted as can be, each position traced has two targets
  pub full : length (noted out) ≡ claims.distinct_entries image entries pins + 2 * steps out
      → (q : ℕ) → q < length image → IsTraced (get_or out.marks q 0) → length (ways_here mode image q) ≡ 2
  unfolding outcome_of
  full e q h t =
      let n = run_noting limit (tracer_of mode image) entries (table (length image) pins marks) (table_base (tracer_of mode image) pins marks l) in
      n.two_each (ways_few mode image)
      (e ∙ ap (λ (k : ℕ). k + 2 * steps out)
      (sym (fresh_distinct (length image) entries pins marks l)))
      q ((n.taken_traced q).1 (h, t))
