-- Mark 4 stands exactly at the pinned positions.
-- Assumes nothing.
use Prim.Native.Nat.{ℕ, suc, ◌<◌, ◌≤◌}
use native.Mathlib.Omega.{arith}
use mathlib.Core.List.{List, Memᴰ as Among}
use mathlib.Core.Logic.{inl, inr}
use mathlib.Core.Path.{◌≡◌, sym, ap, subst, ◌∙◌}
use lib.ListN.{length, get_or}
use Rattle.instruction.specs.declared.mode.Mode.{Mode}
use Rattle.reach.specs.Mark.{IsTraced}
use Rattle.reach.specs.Note.{Open, note}
use Rattle.reach.specs.Pins.{pinned, table}
use Rattle.reach.specs.Takes.{Takes, stay, up}
use Rattle.reach.specs.Tracer.{Tracer, took}
use Rattle.reach.proofs.Arrived.{arrived}
use Rattle.reach.proofs.Note.{length_note}
use Rattle.reach.proofs.NoteAt.{Noticed, as_before, newly, noticed}
use Rattle.reach.proofs.Run.{run_takes}
use Rattle.reach.proofs.SweepTakes.{sweeps_take}
use Rattle.reach.proofs.Table.{table_base, length_table, table_pinned, table_only}
use Rattle.reach.proofs.Took.{Moved, itself, kept, called, moved, mark_traced, length_took}
use Rattle.marks.specs.Tracer.{tracer_of}
use Rattle.trace.specs.Run.{outcome_of}
use Rattle.trace_laws.specs.ClaimsPins.{FoursAt, StartFours, RunFours, SweepFours, StepFours, PinnedUnreached}
use Rattle.trace_laws.proofs.Accepted.{went}
use Rattle.trace_laws.proofs.ClaimsImagesOrder.{began}
use Rattle.trace_laws.proofs.ClaimsSweepsImages.{leaves_sweeps, small_image, long_marks}
use Rattle.trace_laws.proofs.Finished.{covered, marks_left}

-- one taking up: 4 stays, and does not come
module _ (G : Tracer) (m : List ℕ) (p q : ℕ) (l : G.size ≤ length m) (h : p < G.size) (w : get_or m p 0 ≡ 1) where
  still : get_or m q 0 ≡ pinned → get_or (took G m p) q 0 ≡ pinned
  still e = by (moved G m p q l h)
    where
      by : Moved G m p q → get_or (took G m p) q 0 ≡ pinned
      by (itself x f) = absurd (let y : get_or m q 0 ≡ 1 = ap (λ (k : ℕ). get_or m k 0) x ∙ w in omega arith)
      by (kept x f g) = g ∙ e
      by (called x f o g) = absurd (let y = o.clear in omega arith)

  no_new : get_or (took G m p) q 0 ≡ pinned → get_or m q 0 ≡ pinned
  no_new e = by (moved G m p q l h)
    where
      traced_not : (v : ℕ) → IsTraced v → v ≡ 4 → ⊥
      traced_not v (inl a) b = omega arith
      traced_not v (inr a) b = omega arith

      by : Moved G m p q → get_or m q 0 ≡ pinned
      by (itself x f) = absurd (traced_not _ (mark_traced G m p) (sym f ∙ e))
      by (kept x f g) = sym g ∙ e
      by (called x f o g) = absurd (let y = sym g ∙ e in omega arith)

along : (G : Tracer) (q : ℕ) {m ps m' : List ℕ} → Takes G m ps m' → G.size ≤ length m
    → (get_or m q 0 ≡ pinned → get_or m' q 0 ≡ pinned) × (get_or m' q 0 ≡ pinned → get_or m q 0 ≡ pinned)
along G q stay l = (λ e. e, λ e. e)
along G q (up {m = m} {p = p} R rest) l =
    let t = along G q rest (let k = length_took G m p in omega arith) in
    (λ e. t.0 (still G m p q l R.inside R.waits e), λ e. no_new G m p q l R.inside R.waits (t.1 e))

-- the table, and the entries noted over it
module _ (image marks entries pins : List ℕ) (l : length image ≤ length marks) where
  abbrev n : ℕ
  n = length image

  abbrev begun : List ℕ
  begun = note n entries (table n pins marks)

  begun_long : n ≤ length begun
  begun_long = let a = length_note n entries (table n pins marks) in let b = length_table n pins marks l in omega arith

  begun_fours : FoursAt image pins begun
  begun_fours q h = by (noticed n entries (table n pins marks) q (let b = length_table n pins marks l in omega arith))
    where
      by : Noticed n entries (table n pins marks) q → (Among q pins → get_or begun q 0 ≡ pinned) × (get_or begun q 0 ≡ pinned → Among q pins)
      by (as_before f e) = (λ i. e ∙ table_pinned n pins marks q l h i, λ x. table_only n pins marks q l h (sym e ∙ x))
      by (newly i o e) =
          (λ j. absurd (let a = table_pinned n pins marks q l h j in let b = o.clear in omega arith), λ x. absurd (let a = sym e ∙ x in omega arith))

  after_fours : (mode : Mode) {ps m : List ℕ} → Takes (tracer_of mode image) begun ps m → FoursAt image pins m
  after_fours mode t q h =
      let a = along (tracer_of mode image) q t begun_long in
      let b = begun_fours q h in
      (λ i. a.0 (b.0 i), λ e. b.1 (a.1 e))

pub start_fours : StartFours
start_fours image marks entries pins k e =
    let s = began image marks entries pins k e in
    subst (FoursAt image pins) (sym s.marks_are) (begun_fours image marks entries pins s.room)

pub run_fours : RunFours
unfolding outcome_of
run_fours mode image marks order entries pins limit j =
    let l = covered mode image marks order entries pins limit j in
    subst (FoursAt image pins) (sym (marks_left mode image marks order entries pins limit j))
    (after_fours image marks entries pins l mode
    (run_takes limit (tracer_of mode image) entries (table (length image) pins marks) (table_base (tracer_of mode image) pins marks l)).takes)

pub sweep_fours : SweepFours
sweep_fours mode image marks entries pins s e =
    let l = long_marks mode image marks entries pins s e in
    subst (FoursAt image pins) (sym (leaves_sweeps mode image marks entries pins (small_image mode image marks entries pins s e) l))
    (after_fours image marks entries pins l mode (sweeps_take (tracer_of mode image) (suc (length image)) _ (begun_long image marks entries pins l)).takes)

pub step_fours : StepFours
step_fours mode image m p s e q h =
    let w = went mode image m p s e in
    let R = w.ready in
    let f = w.marks in (
      λ x. ap (λ (y : List ℕ). get_or y q 0) f ∙ still (tracer_of mode image) m p q w.room R.inside R.waits x,
      λ x. no_new (tracer_of mode image) m p q w.room R.inside R.waits (sym (ap (λ (y : List ℕ). get_or y q 0) f) ∙ x),
    )

pub pinned_unreached : PinnedUnreached
pinned_unreached mode image marks entries pins l q i follow r =
    let o : Open (length image) (table (length image) pins marks) q = arrived r in
    let a = table_pinned (length image) pins marks q l o.inside i in
    let b = o.clear in omega arith
