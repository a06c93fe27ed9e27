-- A run whose rooms are as long as the image refuses nothing but 1 and 5, and what is listed of its marks nothing more: the marks are sound.
-- Assumes nothing.
use mathlib.Core.Path.{◌≡◌, refl, sym, ap, ◌∙◌}
use mathlib.Core.List.{List, [], ◌∷◌}
use mathlib.Core.Logic.{◌⊎◌, inl, inr}
use Prim.Native.Nat.{ℕ, ◌≤◌, ◌<◌}
use native.Mathlib.Omega.{arith}
use lib.IntN.{ℤ, pos}
use lib.ListN.{length, length-replicate}
use borrow.Author.Tests.{le-ltb}
use Rattle.instruction.proofs.Accepting.{differ}
use Rattle.instruction.specs.Answer.{Answer, accepted, refused, judge}
use Rattle.instruction.proofs.Judging.{pass, done}
use Rattle.instruction.specs.declared.mode.Mode.{Mode}
use Rattle.reach.specs.Pins.{table}
use Rattle.reach.specs.Run.{End, finished, stopped, cut_off, steps, noted}
use Rattle.reach.specs.Takes.{Takes, stay, up}
use Rattle.reach.specs.Tracer.{Tracer}
use Rattle.reach.proofs.Note.{length_note}
use Rattle.reach.proofs.Table.{table_base, length_table}
use Rattle.reach.proofs.Run.{run_takes}
use Rattle.reach.proofs.Took.{length_took}
use Rattle.trace.specs.Run.{RunResult, run_judged, run_answer, ran_answer, end_of, outcome_of, and_then}
use Rattle.marks.specs.Tracer.{tracer_of}
use Rattle.marks.proofs.Sizing.{long_image, right_sizes}
use Rattle.views.specs.View.{Sound, view_refusals}
use Rattle.trace_laws.proofs.Finished.{marks_are}
use Rattle.listing.specs.Walk.{listing_of}
use Rattle.listing.specs.declared.tabbed.Arrivals.{Arrivals}
use Rattle.list_text.specs.Output.{lent_room, traced_with}
use Rattle.list_text.proofs.Images.{answer, marks, marks_sound, refused_run}
use Rattle.list_text.proofs.Parts.{or_refused}
use Rattle.list_text.proofs.Sounding.{judged_on}

-- taking up keeps the length of the marks
takes_length : (G : Tracer) {m m' ps : List ℕ} → Takes G m ps m' → length m' ≡ length m
takes_length G stay = refl
takes_length G (up {m = m} {p = p} R rest) = takes_length G rest ∙ length_took G m p

run_length_lem : (mode : Mode) (image marks entries pins : List ℕ) (limit : ℕ) → length image ≤ length marks
    → length (outcome_of mode image marks entries pins limit).marks ≡ length marks
unfolding outcome_of
run_length_lem mode image marks entries pins limit h =
    takes_length (tracer_of mode image)
    (run_takes limit (tracer_of mode image) entries (table (length image) pins marks) (table_base (tracer_of mode image) pins marks h)).takes
    ∙ length_note (length image) entries (table (length image) pins marks)
    ∙ length_table (length image) pins marks h

module _ (mode : Mode) (image entries pins : List ℕ) where
  lent_length : length (lent_room image) ≡ length image
  lent_length = length-replicate (length image) 0

  -- an image that is too long
  run_one : 65536 < length image → answer mode image entries pins ≡ refused 1 (pos (length image) ∷ [])
  unfolding run_answer
  run_one h =
      let out = outcome_of mode image (lent_room image) entries pins (length image) in
      ap (λ (q : Answer (Unit {0})). and_then q (ran_answer image out)) (long_image image (lent_room image) _ tt h)

  pub traced_one : (arrivals : Arrivals) → 65536 < length image → traced_with mode image entries pins arrivals ≡ refused 1 (pos (length image) ∷ [])
  traced_one arrivals h = refused_run mode image entries pins arrivals (lent_room image) (lent_room image) refl refl 1 _ (sym (run_one h))

  module _ (small : length image ≤ 65536) where
    judged : run_judged image (lent_room image) (lent_room image) ≡ accepted tt
    judged =
        let l = lent_length in
        right_sizes image (lent_room image) _ tt (omega arith) (omega arith)
        ∙ pass _ _ _ (le-ltb (length (lent_room image)) (length image) (omega arith)) ∙ done tt

    pub run_five : (n : ℕ) (vs : List ℤ) → answer mode image entries pins ≡ refused n vs → n ≡ 5
    unfolding run_answer
    run_five n vs e =
        let out = outcome_of mode image (lent_room image) entries pins (length image) in
        by out.end (steps out) (length (noted out)) (ap (λ (q : Answer (Unit {0})). and_then q (ran_answer image out)) (sym judged) ∙ e)
      where
        by : (d : End) (s k : ℕ) → end_of image d s k ≡ refused n vs → n ≡ 5
        by finished s k f = absurd (differ (sym f))
        by stopped s k f = absurd (differ (sym f))
        by (cut_off p) s k f = let g : 5 ≡ n = cc in sym g

    -- what is refused, the run refused
    pub run_refused : (arrivals : Arrivals) (n : ℕ) (vs : List ℤ) → traced_with mode image entries pins arrivals ≡ refused n vs
        → answer mode image entries pins ≡ refused n vs
    unfolding traced_with
    run_refused arrivals n vs e = by (or_refused (answer mode image entries pins) _ n vs e)
      where
        m : List ℕ
        m = marks mode image entries pins

        by : (answer mode image entries pins ≡ refused n vs)
            ⊎ (((s : RunResult) × (answer mode image entries pins ≡ accepted s))
            × (judge (view_refusals image m) (listing_of mode image m arrivals) ≡ refused n vs)) → answer mode image entries pins ≡ refused n vs
        by (inl r) = r
        by (inr a) =
            let s = a.0.0 in
            let f : answer mode image entries pins ≡ accepted s = a.0.1 in
            let l : length m ≡ length (lent_room image) = ap length (marks_are mode image (lent_room image) (lent_room image) entries pins (length image) s f)
            ∙ run_length_lem mode image (lent_room image) entries pins (length image) (let k = lent_length in omega arith) in
            let S : Sound image m = marks_sound mode image entries pins small s f l in
            absurd (differ (sym a.1 ∙ judged_on (view_refusals image m) S (listing_of mode image m arrivals)))
