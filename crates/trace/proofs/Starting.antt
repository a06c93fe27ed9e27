-- The one answer of start and the one content of its marks, from the tests of the code.
-- Assumes nothing.
use mathlib.Core.Path.{◌≡◌, sym, ap, ◌∙◌}
use mathlib.Core.List.{List, []}
use Prim.Native.Nat.{ℕ, ◌≤◌}
use lib.ListN.{length}
use Rattle.instruction.specs.Answer.{Answer, accepted, judge, after}
use Rattle.instruction.proofs.Judging.{done}
use Rattle.reach.specs.Note.{note, fresh}
use Rattle.reach.specs.Pins.{table}
use Rattle.trace.specs.Start.{start_answer, start_marks}
use Rattle.marks.specs.Refusals.{size_refusals, size_refused}
use Rattle.marks.specs.declared.sizes.SizeError.{SizeError}
use Rattle.marks.proofs.Sizing.{sizes_refused, refused_after, right_sizes}

module _ (image marks entries pins : List ℕ) where
  abbrev n : ℕ
  n = length image

  -- what is left to say once the answer is known
  held : (r : Answer ℕ) → start_answer image marks entries pins ≡ r → (t : List ℕ) → after r (note n entries (table n pins marks)) marks ≡ t
      → (r ≡ start_answer image marks entries pins) × (t ≡ start_marks image marks entries pins)
  unfolding start_marks
  held r e t f = (sym e, rw e (sym f))

  pub sizes : (e : SizeError) → size_refused {A = Unit {0}} e ≡ judge (size_refusals image marks) tt
      → (size_refused e ≡ start_answer image marks entries pins) × (marks ≡ start_marks image marks entries pins)
  unfolding start_answer
  sizes e f = held (size_refused e) (sym (sizes_refused image marks [] _ e f)) marks (refused_after ℕ e _ marks)

  module _ (fits : n ≤ 65536) where
    pub set : n ≤ length marks → (m : List ℕ) → m ≡ table n pins marks → (k : ℕ) (t : List ℕ) → (k ≡ length (fresh n entries m)) × (t ≡ note n entries m)
        → (accepted k ≡ start_answer image marks entries pins) × (t ≡ start_marks image marks entries pins)
    unfolding start_answer
    set h m e k t q =
        let p : k ≡ length (fresh n entries (table n pins marks)) = q.0 ∙ ap (λ (l : List ℕ). length (fresh n entries l)) e in
        held (accepted k) (right_sizes image marks [] (length (fresh n entries (table n pins marks))) fits h ∙ done _ ∙ ap accepted (sym p)) t
        (ap (note n entries) (sym e) ∙ sym q.1)
