-- No taking up damages a mark: a 2 or 3 comes where the instruction fits, and a 3 on a Jmpf.
-- Assumes nothing.
use mathlib.Core.Path.{◌≡◌, refl, sym, ap, subst, ◌∙◌}
use mathlib.Core.Bool.{Bool, true, false, cond, ◌||◌}
use mathlib.Core.List.{List}
use mathlib.Core.Logic.{⊎_elim}
use Prim.Native.Nat.{ℕ, ◌<◌, ◌≤◌}
use native.Mathlib.Omega.{arith}
use lib.Dec.{eqb, leb}
use lib.ListN.{length, get_or}
use Rattle.instruction.specs.Forms.{form_named}
use Rattle.targets.specs.At.{form_here, fits_here, flash_here}
use Rattle.instruction.proofs.Ands.{first_part, second_part}
use Rattle.instruction.specs.declared.mode.Mode.{Mode}
use Rattle.reach.specs.Mark.{flash, traced, traced_mark}
use Rattle.reach.specs.Note.{note}
use Rattle.reach.specs.Takes.{Ready, Takes, stay, up}
use Rattle.reach.specs.Tracer.{mark, took}
use Rattle.reach.proofs.NoteAt.{Noticed, as_before, newly, noticed}
use Rattle.reach.proofs.Run.{run_takes}
use Rattle.reach.proofs.Took.{Moved, itself, kept, called, moved, length_took}
use Rattle.reach.proofs.Note.{length_note}
use Rattle.reach.specs.Pins.{pinned, table}
use Rattle.reach.proofs.Table.{table_at, table_base, length_table}
use Rattle.trace.specs.Run.{outcome_of}
use Rattle.marks.specs.Refusals.{damaged}
use Rattle.marks.specs.Tracer.{tracer_of, exempt_here}
use Rattle.views.specs.View.{off_jmpf, misplaced, damaged_here}
use Rattle.views_laws.specs.ClaimsSound.{RunUndamaged}

module _ (image : List ℕ) where
  abbrev n : ℕ
  n = length image

  -- of a mark v at q
  abbrev Fine : ℕ → ℕ → Type 0
  Fine q v = (damaged v || misplaced image v q) ≡ false

  untouched_fine : (q : ℕ) → Fine q 0
  unfolding misplaced off_jmpf traced_mark
  untouched_fine q = refl

  waiting_fine : (q : ℕ) → Fine q 1
  unfolding misplaced off_jmpf traced_mark
  waiting_fine q = refl

  pinned_fine : (q : ℕ) → Fine q pinned
  unfolding misplaced off_jmpf traced_mark
  pinned_fine q = refl

  traced_fine : (q : ℕ) → fits_here image q ≡ true → Fine q 2
  unfolding misplaced off_jmpf traced_mark
  traced_fine q f = rw f

  flash_fine : (q : ℕ) → fits_here image q ≡ true → eqb (form_here image q) (form_named "Jmpf") ≡ true → Fine q 3
  unfolding misplaced off_jmpf traced_mark
  flash_fine q f j = rw (f, j)

  is_jmpf : (m : List ℕ) (q : ℕ) → exempt_here image m q ≡ true → eqb (form_here image q) (form_named "Jmpf") ≡ true
  unfolding exempt_here flash_here
  is_jmpf m q e =
      first_part (eqb (form_here image q) (form_named "Jmpf")) _ (second_part (leb 2 q) _ (first_part (flash_here image q) _ e))

  -- every mark is
  abbrev Good : List ℕ → Type 0
  Good m = (q : ℕ) → q < n → Fine q (get_or m q 0)

  pub start_good : (marks entries pins : List ℕ) → n ≤ length marks → Good (note n entries (table n pins marks))
  start_good marks entries pins l q h = by (noticed n entries (table n pins marks) q (omega (arith, length_table n pins marks l)))
    where
      by : Noticed n entries (table n pins marks) q → Fine q (get_or (note n entries (table n pins marks)) q 0)
      by (as_before f x) =
          ⊎_elim (λ e. subst (Fine q) (sym (x ∙ e)) (untouched_fine q)) (λ e. subst (Fine q) (sym (x ∙ e)) (pinned_fine q)) (table_at n pins marks q l h)
      by (newly i o x) = subst (Fine q) (sym x) (waiting_fine q)

-- taking positions up
module _ (mode : Mode) (image : List ℕ) where
  marked_fine : (m : List ℕ) (q : ℕ) → fits_here image q ≡ true → Fine image q (mark (tracer_of mode image) m q)
  unfolding mark
  marked_fine m q f = by (exempt_here image m q) refl
    where
      by : (b : Bool) → exempt_here image m q ≡ b → Fine image q (cond b flash traced)
      by true e = flash_fine image q f (is_jmpf image m q e)
      by false e = traced_fine image q f

  -- no step damages a mark
  pub step_good : (m : List ℕ) (p : ℕ) → length image ≤ length m → Ready (tracer_of mode image) m p → Good image m → Good image (took (tracer_of mode image) m p)
  step_good m p l R g q h = by (moved (tracer_of mode image) m p q l R.inside)
    where
      by : Moved (tracer_of mode image) m p q → Fine image q (get_or (took (tracer_of mode image) m p) q 0)
      by (itself e x) =
          subst (Fine image q) (sym (x ∙ ap (mark (tracer_of mode image) m) (sym e))) (marked_fine m q (ap (fits_here image) e ∙ R.whole))
      by (kept d f x) = subst (Fine image q) (sym x) (g q h)
      by (called d i o x) = subst (Fine image q) (sym x) (waiting_fine image q)

  pub takes_good : {m m' ps : List ℕ} → length image ≤ length m → Takes (tracer_of mode image) m ps m' → Good image m → Good image m'
  takes_good l stay g = g
  takes_good {m} l (up {p = p} R rest) g =
      takes_good (let e = length_took (tracer_of mode image) m p in omega arith) rest (step_good m p l R g)

pub run_undamaged : RunUndamaged
unfolding outcome_of damaged_here
run_undamaged mode image marks entries pins limit l p h =
    takes_good mode image
    (let e = length_note (length image) entries (table (length image) pins marks) in omega (arith, length_table (length image) pins marks l))
    (run_takes limit (tracer_of mode image) entries (table (length image) pins marks) (table_base (tracer_of mode image) pins marks l)).takes
    (start_good image marks entries pins l) p h
