-- A map built before a step and then updated is the map built afresh after it.
-- Assumes nothing.
use mathlib.Core.Path.{◌≡◌, refl, sym, ap, subst, ◌∙◌}
use mathlib.Core.Bool.{◌||◌}
use mathlib.Core.List.{List, ◌++◌}
use Prim.Native.Nat.{ℕ, ◌+◌, ◌<◌, ◌≤◌}
use native.Mathlib.Omega.{arith}
use lib.ListN.{length, drop, length-append}
use Rattle.instruction.specs.Answer.{accepted}
use Rattle.instruction.specs.declared.mode.Mode.{Mode}
use Rattle.targets.specs.At.{size_here}
use Rattle.reach.specs.Tracer.{took}
use Rattle.trace.specs.Step.{step_marks}
use Rattle.marks.specs.Tracer.{tracer_of}
use Rattle.trace_laws.proofs.Accepted.{Went, went}
use Rattle.map.specs.Bits.{between}
use Rattle.map.specs.Words.{words_for}
use Rattle.views.specs.Mask.{masked, mask_of}
use Rattle.views.specs.View.{Sound}
use Rattle.map.specs.Packed.{packed, covered}
use Rattle.map.specs.Build.{build_answer, build_words}
use Rattle.map.specs.Update.{update_answer, update_words}
use Rattle.map.proofs.Packing.{map_same, stretch_more, covered_append}
use Rattle.map.proofs.Marking.{packed_mask, packed_length}
use Rattle.map.proofs.Sounding.{undamaged, fits_within}
use Rattle.views.proofs.TracedAt.{by_mark}
use Rattle.map.proofs.Updating.{room_left, set_all}
use Rattle.map_laws.specs.ClaimsMap.{KeptUp, UpdatedIsBuilt}
use Rattle.map_laws.proofs.Built.{Done, built, builds}
use Rattle.map_laws.proofs.Stepped.{masked_more, traced_here, sound_after}

module _ (mode : Mode) (image m ws : List ℕ) (p : ℕ) (d : Done image m ws) (w : Went mode image m p) where
  abbrev n : ℕ
  n = length image

  abbrev m' : List ℕ
  m' = took (tracer_of mode image) m p

  abbrev rest : List ℕ
  rest = drop (words_for n) ws

  abbrev size : ℕ
  size = size_here image p

  inside : p < n
  inside = w.ready.inside

  within : p + size ≤ n
  within = fits_within image p w.ready.whole

  after_sound : Sound image m'
  after_sound = sound_after mode image m p w.room w.ready w.small (undamaged image m d.sound)

  -- the packing of the mask after the step
  grown : covered (packed (mask_of image m)) size p ≡ packed (mask_of image m')
  grown =
      ap (λ (v : List ℕ). covered v size p) (packed_mask image m)
      ∙ stretch_more n (masked image m) size p within
      ∙ map_same n (λ (b : ℕ). masked image m b || between p (p + size) b) (masked image m') (λ b h. sym (masked_more mode image m p w.room w.ready b))
      ∙ sym (packed_mask image m')

  afresh : build_words image m' ws ≡ packed (mask_of image m') ++ rest
  afresh = (builds image m' ws after_sound d.room).1

  kept_up : covered (build_words image m ws) size p ≡ build_words image m' ws
  kept_up =
      ap (λ (v : List ℕ). covered v size p) d.words
      ∙ covered_append (packed (mask_of image m)) rest size p (let e = packed_length image m in let h = within in omega arith)
      ∙ ap (λ (v : List ℕ). v ++ rest) grown ∙ sym afresh

  long : words_for n ≤ length (build_words image m ws)
  long =
      subst (λ (v : List ℕ). words_for n ≤ length v) (sym d.words) (let e = length-append (packed (mask_of image m)) rest in let f = packed_length image m in
      omega arith)

  -- stated for the marks taken up
  abbrev Holds : List ℕ → Type 0
  Holds v =
      (build_answer image v ws ≡ accepted (words_for n))
      × (update_answer image v (build_words image m ws) p ≡ accepted size)
      × (update_words image v (build_words image m ws) p ≡ build_words image v ws)

  holds : Holds m'
  holds =
      let u = set_all image m' (build_words image m ws) p (room_left image m' (build_words image m ws) p after_sound long)
      (sym (by_mark image m' p inside) ∙ traced_here mode image m p w.room w.ready) size refl _ refl in
      ((builds image m' ws after_sound d.room).0, sym u.0, sym u.1 ∙ kept_up)

  pub keeps : KeptUp mode image m ws p
  keeps = let h : Holds (step_marks mode image m p) = subst Holds (sym w.marks) holds in record { builds = h.0; updates = h.1; same = h.2 }

pub updated_is_built : UpdatedIsBuilt
updated_is_built mode image m ws p k s e f =
    keeps mode image m ws p (built image m ws k e) (went mode image m p s f)
