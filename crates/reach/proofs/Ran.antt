-- The run from the entries over a base is a run from its queue, and notes at most as many positions as the image is long. Assumes nothing.
use Prim.Native.Nat.{ℕ, ◌+◌, ◌≤◌}
use native.Mathlib.Omega.{arith}
use mathlib.Core.Path.{◌≡◌}
use mathlib.Core.List.{List}
use lib.ListN.{length, length-append}
use Rattle.reach.specs.Note.{note, fresh}
use Rattle.reach.specs.Tracer.{Tracer}
use Rattle.reach.specs.Takes.{Base}
use Rattle.reach.specs.Run.{steps, noted, run_of}
use Rattle.reach.proofs.Count.{touched, count_under}
use Rattle.reach.proofs.Start.{start_long}
use Rattle.reach.proofs.FreshCount.{touched_note}
use Rattle.reach.proofs.Line.{line_start}
use Rattle.reach.proofs.Went.{Went}
use Rattle.reach.proofs.WentOn.{went}

module _ (limit : ℕ) (G : Tracer) (entries base : List ℕ) (B : Base G base) where
  pub ran : Went limit G (fresh G.size entries base) (note G.size entries base) (run_of limit G entries base)
  unfolding run_of
  ran = went limit G (fresh G.size entries base) (note G.size entries base) (start_long G entries base B) (line_start G entries base B)

  pub length_noted : length (noted (run_of limit G entries base)) ≡ steps (run_of limit G entries base) + length (run_of limit G entries base).left
  length_noted = length-append (run_of limit G entries base).taken (run_of limit G entries base).left

  pub noted_le : length (noted (run_of limit G entries base)) ≤ G.size
  noted_le =
      omega (
        arith,
        length_noted,
        ran.sum,
        touched_note G.size entries base B.long,
        count_under touched G.size (run_of limit G entries base).marks,
      )
