-- A run is one of the orders; its steps and its ends. Assumes nothing.
use Prim.Native.Nat.{ℕ}
use native.Mathlib.Omega.{arith}
use mathlib.Core.Path.{◌≡◌, refl}
use mathlib.Core.List.Memᴰ
use mathlib.Core.List.{List, Memᴰ as Among}
use Rattle.reach.specs.Note.{note}
use Rattle.reach.specs.ClaimsRun.{RunTakes, RunEnding, RunFinal}
use Rattle.reach.specs.Tracer.{Tracer}
use Rattle.reach.specs.Takes.{Base, ToEnd}
use Rattle.reach.specs.Run.{finished, run_of}
use Rattle.reach.proofs.Start.{start_long, start_count}
use Rattle.reach.proofs.Takes.{takes_count, takes_bound}
use Rattle.reach.proofs.Order.{any_order}
use Rattle.reach.proofs.Ran.{ran, length_noted, noted_le}

pub run_takes : RunTakes
run_takes limit G entries base B =
    let W = ran limit G entries base B in
    let l = start_long G entries base B in
    record {
      takes = W.takes;
      counted = omega (arith, takes_count l W.takes, start_count G entries base B);
      in_limit = W.in_limit;
      in_image = takes_bound G (note G.size entries base) (run_of limit G entries base).marks (run_of limit G entries base).taken l W.takes;
    }

pub run_ending : RunEnding
run_ending limit G entries base B =
    let W = ran limit G entries base B in
    let L = W.line in
    let out = run_of limit G entries base in
    record {
      when_finished = λ e. (λ p R. Memᴰ.not-nil (rw (W.over e) at (L.all p R.inside R.waits)), W.over e);
      when_stopped = W.short;
      when_cut = λ p e.
          let c = W.broken p e in
          let i : Among p out.left = rw c.next (Memᴰ.head refl) in
          record { inside = L.inside p i; waits = L.waits p i; cut = c.cut; queue = c.queue; next = c.next };
      enough = λ h e. omega (arith, (W.short e).0, (W.short e).1, length_noted limit G entries base B, noted_le limit G entries base B);
    }

-- where it finishes, it is an order that ends
pub run_to_end : (limit : ℕ) (G : Tracer) (entries base : List ℕ) → Base G base → (run_of limit G entries base).end ≡ finished
    → ToEnd G base entries (run_of limit G entries base).marks
run_to_end limit G entries base B e = record {
  order = (run_of limit G entries base).taken;
  takes = (run_takes limit G entries base B).takes;
  ended = ((run_ending limit G entries base B).when_finished e).0;
}

pub run_final : RunFinal
run_final limit G entries base P B e = any_order G P base entries (run_of limit G entries base).marks B (run_to_end limit G entries base B e)
