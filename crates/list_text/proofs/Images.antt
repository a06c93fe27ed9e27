-- What is listed of an image and entries: the listing of a run's marks, or the run's refusal.
-- Assumes nothing.
use mathlib.Core.Path.{◌≡◌, refl, sym, ap, ap₂, subst, ◌∙◌}
use mathlib.Core.List.{List, []}
use Prim.Native.Nat.{ℕ, ◌≤◌}
use native.Mathlib.Omega.{arith}
use lib.IntN.{ℤ}
use lib.ListN.{length, length-replicate}
use Rattle.std.specs.Prelude.{Ok}
use Rattle.instruction.specs.Answer.{Answer, accepted, refused, judge}
use Rattle.instruction.specs.declared.mode.Mode.{Mode}
use Rattle.instruction.proofs.Judging.{accepts}
use Rattle.trace.specs.Run.{RunResult, and_then, ran_of, run_answer, run_marks}
use Rattle.trace.specs.declared.run.Ran.{Ran}
use Rattle.trace.specs.declared.run.Ran.TheVariants.{Finished, Stopped}
use Rattle.views.specs.View.{Sound, view_refusals, view_answer, view_room, room_answer, room_after}
use Rattle.views_laws.specs.ClaimsSound.{Undamaged}
use Rattle.views_laws.proofs.ClaimsSoundRun.{run_undamaged}
use Rattle.trace_laws.proofs.Finished.{marks_are}
use Rattle.listing.specs.Walk.{listing_of}
use Rattle.listing.specs.declared.tabbed.Arrivals.{Arrivals}
use Rattle.list_text.specs.Output.{lent_room, traced_with}
use Rattle.list_text.proofs.Parts.{or_accepted}
use Rattle.list_text.proofs.Sounding.{sound, judged_on, answer_on, room_on}

-- the same line printed
pub said : (x y : List ℕ) → x ≡ y → (r : Answer ℕ) (t room : List ℕ) → (r ≡ room_answer [] x room) × (t ≡ room_after [] x room)
    → (r ≡ room_answer [] y room) × (t ≡ room_after [] y room)
said x y e r t room p = subst (λ (z : List ℕ). (r ≡ room_answer [] z room) × (t ≡ room_after [] z room)) e p

module _ (mode : Mode) (image entries pins : List ℕ) where
  abbrev pub answer : Answer RunResult
  answer = run_answer mode image (lent_room image) (lent_room image) entries pins (length image)

  abbrev pub marks : List ℕ
  marks = run_marks mode image (lent_room image) (lent_room image) entries pins (length image)

  -- the marks of a run that is accepted are sound
  module _ (small : length image ≤ 65536) (s : RunResult) (a : answer ≡ accepted s) where
    pub covered : length image ≤ length (lent_room image)
    covered = omega (arith, length-replicate {A = ℕ} (length image) 0)

    pub marks_sound : length marks ≡ length (lent_room image) → Sound image marks
    marks_sound l =
        sound image marks (omega arith) (let c = covered in omega arith)
        (subst (Undamaged image) (sym (marks_are mode image (lent_room image) (lent_room image) entries pins (length image) s a))
        (run_undamaged mode image (lent_room image) entries pins (length image) covered))

  module _ (arrivals : Arrivals) where
    abbrev traced : Answer (List ℕ)
    traced = traced_with mode image entries pins arrivals

    abbrev listing : List ℕ → List ℕ
    listing m = listing_of mode image m arrivals

    -- a run that is refused
    pub refused_run : (b o : List ℕ) → b ≡ lent_room image → o ≡ lent_room image → (n : ℕ) (vs : List ℤ)
        → refused n vs ≡ run_answer mode image b o entries pins (length image) → traced ≡ refused n vs
    unfolding traced_with
    refused_run b o e f n vs g =
        let h : answer ≡ refused n vs = sym (g ∙ ap₂ (λ (x y : List ℕ). run_answer mode image x y entries pins (length image)) e f) in
        ap (λ (r : Answer RunResult). and_then r (judge (view_refusals image marks) (listing marks))) h

    -- what is accepted is the listing of its marks
    pub accepted_listing : (out : List ℕ) → traced ≡ accepted out → listing marks ≡ out
    unfolding traced_with
    accepted_listing out e = accepts (view_refusals image marks) (listing marks) out
        (or_accepted answer (judge (view_refusals image marks) (listing marks)) out e).1

    -- these marks are listed, and r and t are what that leaves
    abbrev pub Listed : List ℕ → Answer ℕ → List ℕ → List ℕ → Type 0
    Listed m r t room = (traced ≡ accepted (listing m)) × (r ≡ room_answer [] (listing m) room) × (t ≡ room_after [] (listing m) room)

    listed : length image ≤ 65536 → (s : RunResult) → answer ≡ accepted s → length marks ≡ length (lent_room image) → (r : Answer ℕ) (t room : List ℕ)
        → (r ≡ view_answer image marks (listing marks) room) × (t ≡ view_room image marks (listing marks) room) → Listed marks r t room
    unfolding view_answer view_room traced_with
    listed small s a l r t room p =
        let S = marks_sound small s a l in (
          ap (λ (x : Answer RunResult). and_then x (judge (view_refusals image marks) (listing marks))) a
              ∙ judged_on (view_refusals image marks) S (listing marks),
          p.0 ∙ answer_on (view_refusals image marks) S (listing marks) room,
          p.1 ∙ room_on (view_refusals image marks) S (listing marks) room,
        )

    -- the same for rooms that hold what the run was lent, and marks that it left
    pub listed_run : length image ≤ 65536 → (b o : List ℕ) → b ≡ lent_room image → o ≡ lent_room image → (s : RunResult)
        → accepted s ≡ run_answer mode image b o entries pins (length image) → (m : List ℕ) → m ≡ run_marks mode image b o entries pins (length image)
        → length m ≡ length b → (r : Answer ℕ) (t room : List ℕ) → (r ≡ view_answer image m (listing m) room) × (t ≡ view_room image m (listing m) room)
        → Listed m r t room
    listed_run h b o e f s g m k l r t room p =
        let q : m ≡ marks = k ∙ ap₂ (λ (x y : List ℕ). run_marks mode image x y entries pins (length image)) e f in
        let a = sym (g ∙ ap₂ (λ (x y : List ℕ). run_answer mode image x y entries pins (length image)) e f) in
        subst (λ (x : List ℕ). Listed x r t room) (sym q)
        (listed h s a (ap length (sym q) ∙ l ∙ ap length e) r t room
        (subst (λ (x : List ℕ). (r ≡ view_answer image x (listing x) room) × (t ≡ view_room image x (listing x) room)) q p))

-- a run that ended at all
pub ran_to : (r : Ran) → (s : RunResult) × (ran_of (Ok r) ≡ accepted s)
ran_to (Finished c) = (_, refl)
ran_to (Stopped c) = (_, refl)
