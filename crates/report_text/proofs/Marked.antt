-- The target marks of sound marks stand in a room of the image's length.
-- Assumes nothing.
use mathlib.Core.Path.{◌≡◌, refl, sym, ap, ◌∙◌}
use mathlib.Core.List.{List, ◌++◌, append-nil}
use Prim.Native.Nat.{ℕ, ◌≤◌}
use native.Mathlib.Omega.{arith}
use lib.ListN.{length, take, drop_of_length-le}
use lib.Seq.{take_at}
use Rattle.instruction.specs.declared.mode.Mode.TheVariants.{Unwrapped}
use Rattle.reach.specs.Mark.{count}
use Rattle.views.specs.Labels.{labels_of, labels_room}
use Rattle.views.specs.View.{Sound}
use Rattle.views.proofs.Labelling.{labels_length}
use Rattle.views.proofs.Viewing.{shown_as}
use Rattle.report_text.specs.Figures.{is_set, target_marks}

module _ (image m : List ℕ) (S : Sound image m) where
  labels_fill : (room : List ℕ) → length room ≡ length image → labels_room Unwrapped image m room ≡ labels_of Unwrapped image m
  labels_fill room e =
      let l : length room ≤ length image = omega arith in
      sym (shown_as image m (labels_of Unwrapped image m) room S (length image) (labels_length Unwrapped image m) (omega arith) _ refl).1
      ∙ ap (λ (r : List ℕ). labels_of Unwrapped image m ++ r) (drop_of_length-le room l)
      ∙ append-nil (labels_of Unwrapped image m)

  -- t is what the view left in a part of the room, over which rest stood
  pub marks_counted : (room t rest : List ℕ) → length room ≡ length image → t ≡ labels_room Unwrapped image m room → length t ≡ length room
      → (r : ℕ) → r ≡ count is_set (take (length image) (t ++ rest)) → r ≡ target_marks image m
  unfolding target_marks
  marks_counted room t rest e f l r g =
      g ∙ ap (count is_set) (take_at t rest (length image) (l ∙ e) ∙ f ∙ labels_fill room e)
