-- The answer of the sweeping engine from that of start. Assumes nothing.
use Prim.Native.Nat.{ℕ, ◌<◌, ◌≤◌}
use native.Mathlib.Omega.{arith}
use mathlib.Core.Path.{◌≡◌, sym, ap, ◌∙◌}
use mathlib.Core.Logic.{◌⊎◌, inl, inr}
use mathlib.Core.List.{List, [], ◌∷◌}
use lib.IntN.{ℤ, pos}
use lib.ListN.{length, take}
use Rattle.instruction.specs.Answer.{Answer, accepted, refused, after}
use Rattle.instruction.proofs.Judging.{done, refuses_too}
use Rattle.instruction.specs.declared.mode.Mode.{Mode}
use Rattle.reach.specs.Mark.{traced_mark, count}
use Rattle.reach.specs.Note.{note, fresh}
use Rattle.reach.specs.Sweep.{swept_marks}
use Rattle.reach.proofs.Cases.{lt_or_le}
use Rattle.reach.proofs.Start.{start_long, start_count}
use Rattle.reach.specs.Pins.{table}
use Rattle.reach.proofs.Table.{table_base}
use Rattle.marks.specs.Refusals.{size_refusals, size_refused}
use Rattle.marks.specs.declared.sizes.SizeError.{SizeError}
use Rattle.marks.specs.declared.sizes.SizeError.TheVariants.{LongImage, ShortMarks}
use Rattle.marks.specs.Tracer.{tracer_of}
use Rattle.marks.proofs.Sizing.{long_image, short_marks, right_sizes}
use Rattle.trace.specs.Start.{start_answer, start_marks}
use Rattle.sweep.specs.Sweep.{SweepResult, sweep_result, tally_of, sweep_answer, sweep_leaves}
use Rattle.sweep.specs.declared.sweep.Tally.{Tally}
use Rattle.sweep.proofs.Sweeping.{Ended}

-- what the inner function answers and leaves is where the sweeps end
pub told : (mode : Mode) (image m m' : List ℕ) (sweeps steps : ℕ) → Ended (tracer_of mode image) m m' sweeps steps
    → (tally_of (record { sweeps = sweeps; steps = steps }) ≡ sweep_result mode image m) × (m' ≡ swept_marks (tracer_of mode image) m)
told mode image m m' sweeps steps E =
    let a = E.sweeps_are in let b = E.steps_are in (rw (a, b), E.marks_are)

module _ (mode : Mode) (image marks entries pins : List ℕ) where
  abbrev n : ℕ
  n = length image

  abbrev set : ℕ
  set = length (fresh n entries (table n pins marks))

  abbrev Is : Answer SweepResult → List ℕ → Type 0
  Is a m = (a ≡ sweep_answer mode image marks entries pins) × (m ≡ sweep_leaves mode image marks entries pins)

  -- a refusal of start is one here, and changes nothing
  refused_too : (k : ℕ) (vs : List ℤ) (m : List ℕ) → refused k vs ≡ start_answer image marks entries pins → m ≡ start_marks image marks entries pins
      → Is (refused k vs) m
  unfolding start_answer start_marks sweep_answer sweep_leaves
  refused_too k vs m e f =
      let g = refuses_too (size_refusals image marks) set (sweep_result mode image (start_marks image marks entries pins)) k vs (sym e) in (
        sym g,
        f ∙ ap (λ (a : Answer ℕ). after a (note n entries (table n pins marks)) marks) (sym e)
            ∙ ap (λ (a : Answer SweepResult). after a (swept_marks (tracer_of mode image) (start_marks image marks entries pins)) marks) (sym g),
      )

  pub sizes : (e : SizeError) (m : List ℕ) → size_refused e ≡ start_answer image marks entries pins → m ≡ start_marks image marks entries pins → Is (size_refused e) m
  sizes (LongImage k) m e f = refused_too 1 (pos k ∷ []) m e f
  sizes (ShortMarks k) m e f = refused_too 2 (pos k ∷ []) m e f

  module _ (k : ℕ) (e : accepted k ≡ start_answer image marks entries pins) where
    not_refused : (j : ℕ) (vs : List ℤ) → start_answer image marks entries pins ≡ refused j vs → ⊥
    not_refused j vs f = let z : ◌≡◌ {A = ℕ} 0 1 = cc in omega arith

    pub small : n ≤ 65536
    unfolding start_answer
    small = by (lt_or_le 65536 n)
      where
        by : (65536 < n) ⊎ (n ≤ 65536) → n ≤ 65536
        by (inl h) = absurd (not_refused 1 (pos n ∷ []) (long_image image marks [] set h))
        by (inr h) = h

    pub room : n ≤ length marks
    unfolding start_answer
    room = by (lt_or_le (length marks) n)
      where
        by : (length marks < n) ⊎ (n ≤ length marks) → n ≤ length marks
        by (inl h) = absurd (not_refused 2 (pos (length marks) ∷ []) (short_marks image marks [] set small h))
        by (inr h) = h

    begun : start_marks image marks entries pins ≡ note n entries (table n pins marks)
    unfolding start_marks
    begun = ap (λ (a : Answer ℕ). after a (note n entries (table n pins marks)) marks) (sym e)

    pub begun_long : n ≤ length (start_marks image marks entries pins)
    begun_long = rw begun (start_long (tracer_of mode image) entries (table n pins marks) (table_base (tracer_of mode image) pins marks room))

    pub begun_count : count traced_mark (take n (start_marks image marks entries pins)) ≡ 0
    begun_count = rw begun (start_count (tracer_of mode image) entries (table n pins marks) (table_base (tracer_of mode image) pins marks room))

    pub swept : (t : Tally) (m m' : List ℕ) → m ≡ start_marks image marks entries pins
        → (tally_of t ≡ sweep_result mode image m) × (m' ≡ swept_marks (tracer_of mode image) m) → Is (accepted (tally_of t)) m'
    unfolding sweep_answer sweep_leaves
    swept t m m' f S =
        let s = start_marks image marks entries pins in
        let g = right_sizes image marks [] (sweep_result mode image s) small room ∙ done (sweep_result mode image s) in (
          ap accepted (S.0 ∙ ap (sweep_result mode image) f) ∙ sym g,
          S.1 ∙ ap (swept_marks (tracer_of mode image)) f
              ∙ ap (λ (a : Answer SweepResult). after a (swept_marks (tracer_of mode image) s) marks) (sym g),
        )
