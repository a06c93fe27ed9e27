-- With no exception and enough steps, a run is cut off exactly where every other order leaves a position waiting. Assumes nothing.
use Prim.Native.Nat.{ℕ, ◌≤◌}
use mathlib.Core.Path.{◌≡◌, refl}
use mathlib.Core.List.Memᴰ
use mathlib.Core.List.{List, Memᴰ as Among}
use Rattle.reach.specs.Tracer.{Tracer}
use Rattle.reach.specs.Takes.{Base, ToEnd}
use Rattle.reach.specs.Reach.{Reach}
use Rattle.reach.specs.Run.{End, finished, stopped, cut_off, Outcome, run_of}
use Rattle.reach.specs.ClaimsOrder.{Plain}
use Rattle.reach.specs.ClaimsCut.{SomeWaits, SomeCut, CutLeaves}
use Rattle.reach.proofs.SoundStep.{reached_sound}
use Rattle.reach.proofs.Arrived.{waiting_why}
use Rattle.reach.proofs.Order.{any_order, same_marks}
use Rattle.reach.proofs.Within.{plain_within}
use Rattle.reach.proofs.Run.{run_takes, run_ending, run_to_end}
use Rattle.reach.proofs.RunNotes.{run_noting}

module _ (limit : ℕ) (G : Tracer) (P : Plain G) (entries base m : List ℕ) (B : Base G base) (enough : G.size ≤ limit)
    (T : ToEnd G base entries m) where
  abbrev out : Outcome
  out = run_of limit G entries base

  -- a run that left nothing over would have ended in the same marks
  waits_cut : SomeWaits G m → (e : End) → out.end ≡ e → SomeCut limit G entries base
  waits_cut w finished e =
      let same = same_marks G P base entries m out.marks B T (run_to_end limit G entries base B e) in
      let i : Among w.0 out.left = ((run_noting limit G entries base B).left_waiting w.0).1 (w.1, rw same at w.2) in
      absurd (Memᴰ.not-nil (rw ((run_ending limit G entries base B).when_finished e).1 at i))
  waits_cut w stopped e = absurd ((run_ending limit G entries base B).enough enough e)
  waits_cut w (cut_off p) e = (p, e)

  -- what a run is cut off at was reached, and does not fit
  cut_waits : SomeCut limit G entries base → SomeWaits G m
  cut_waits c =
      let p = c.0 in
      let k = (run_ending limit G entries base B).when_cut p c.1 in
      let S = reached_sound G G.ways G.ways base entries (plain_within G P) B (run_takes limit G entries base B).takes in
      let r : Reach G G.ways base entries p =
      waiting_why G G.ways base entries out.marks B p k.inside k.waits (S.why p) in
      (p, k.inside, ((any_order G P base entries m B T).one p k.inside).1 (r, k.cut))

pub cut_leaves : CutLeaves
cut_leaves limit G P entries base m B enough T =
    (λ w. waits_cut limit G P entries base m B enough T w (run_of limit G entries base).end refl, cut_waits limit G P entries base m B enough T)
