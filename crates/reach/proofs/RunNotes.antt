-- What a run notes, and what it writes into the lent order list. Assumes nothing.
use Prim.Native.Nat.{◌+◌, ◌≤◌}
use native.Mathlib.Omega.{arith}
use mathlib.Core.Path.{◌≡◌}
use mathlib.Core.Logic.{⊎_elim}
use lib.ListN.{length}
use lib.Seq.{length-sets}
use Rattle.reach.specs.Note.{note, fresh}
use Rattle.reach.specs.ClaimsRun.{RunNoting, RunOrdering}
use Rattle.reach.specs.Run.{noted, run_of}
use Rattle.reach.proofs.Mark.{waits_not}
use Rattle.reach.proofs.Start.{start_long, start_untraced}
use Rattle.reach.proofs.TakesAt.{taken_traced, traced_taken}
use Rattle.reach.proofs.TakesOnce.{takes_once}
use Rattle.reach.proofs.Sets.{take_sets, drop_sets}
use Rattle.reach.proofs.Once.{once_append}
use Rattle.reach.proofs.Ran.{ran, length_noted, noted_le}
use Rattle.reach.proofs.RunFull.{run_full}

pub run_noting : RunNoting
unfolding run_of
run_noting limit G entries base B =
    let W = ran limit G entries base B in
    let L = W.line in
    let l = start_long G entries base B in
    let out = run_of limit G entries base in
    record {
      once = once_append out.taken out.left (takes_once G (note G.size entries base) out.marks out.taken l W.takes) L.once
          (λ q i j. waits_not (L.waits q j) (taken_traced q l W.takes i).1);
      taken_traced = λ q. (
        λ i. taken_traced q l W.takes i,
        λ w. ⊎_elim (λ t. absurd (start_untraced G entries base B q w.0 t)) (λ i. i) (traced_taken q l W.takes w.1),
      );
      left_waiting = λ q. (λ i. (L.inside q i, L.waits q i), λ w. L.all q w.0 w.1);
      sum = length_noted limit G entries base B;
      in_image = noted_le limit G entries base B;
      in_twice = λ t.
          omega (arith, (run_full G t limit (fresh G.size entries base) (note G.size entries base)).most, length_noted limit G entries base B);
      two_each = λ t e.
          (run_full G t limit (fresh G.size entries base) (note G.size entries base)).each (omega (arith, e, length_noted limit G entries base B));
    }

pub run_ordering : RunOrdering
run_ordering limit G entries base lent B h =
    let ns = noted (run_of limit G entries base) in
    let r : 0 + length ns ≤ length lent = omega (arith, noted_le limit G entries base B) in
    let z : 0 + length ns ≡ length ns = omega arith in
    record { long = length-sets lent 0 ns; written = rw z at (take_sets lent 0 ns r); rest = rw z at (drop_sets lent 0 ns r) }
