-- The marks of a run pass every refusal that the views share, so that what is shown of them lacks at most room.
-- Assumes nothing.
use mathlib.Core.Path.{◌≡◌, ap, subst, ◌∙◌}
use mathlib.Core.Bool.{false}
use mathlib.Core.List.{List, [], ◌++◌, append-nil}
use Prim.Native.Nat.{ℕ, zero, suc, ◌+◌, ◌<◌, ◌≤◌}
use native.Mathlib.Omega.{arith}
use lib.ListN.{length, drop}
use Rattle.instruction.specs.Answer.{Answer, accepted, Refusal, judge, after}
use Rattle.instruction.proofs.Judging.{pass, done, past_all}
use Rattle.marks.proofs.Sizing.{right_sizes}
use Rattle.views.specs.Positions.{up_from, positions}
use Rattle.views.specs.View.{Sound, damaged_here, damage_in, view_refusals, room_answer, room_after}
use Rattle.views_laws.specs.ClaimsSound.{Undamaged}

none_damaged : (image m : List ℕ) (k q : ℕ) → ((p : ℕ) → q ≤ p → p < q + k → damaged_here image m p ≡ false)
    → ◌≡◌ {A = Answer ℕ} (judge (damage_in image m (up_from k q)) 0) (accepted 0)
unfolding up_from
none_damaged image m zero q f = done 0
none_damaged image m (suc k) q f =
    pass _ _ _ (f q (omega arith) (omega arith)) ∙ none_damaged image m k (suc q) (λ p g h. f p (omega arith) (omega arith))

pub sound : (image m : List ℕ) → length image ≤ 65536 → length image ≤ length m → Undamaged image m → Sound image m
unfolding view_refusals
sound image m h k u =
    right_sizes image m (damage_in image m (positions image)) 0 h k ∙ none_damaged image m (length image) 0 (λ p g j. u p (omega arith))

-- refusals that do not hold say nothing
module _ (rs : List Refusal) (s : ◌≡◌ {A = Answer ℕ} (judge rs 0) (accepted 0)) where
  pub judged_on : {A : Type 0} (a : A) → judge rs a ≡ accepted a
  judged_on a = subst (λ (qs : List Refusal). judge qs a ≡ accepted a) (append-nil rs) (past_all [] 0 a rs s ∙ done a)

  pub answer_on : (out room : List ℕ) → room_answer rs out room ≡ room_answer [] out room
  unfolding room_answer
  answer_on out room = past_all _ 0 (length out) rs s

  pub room_on : (out room : List ℕ) → room_after rs out room ≡ room_after [] out room
  unfolding room_after
  room_on out room = ap (λ (r : Answer ℕ). after r (out ++ drop (length out) room) room) (answer_on out room)
