-- Something shown in a room, after refusals: refused by them, too little room, or laid over its beginning.
-- Assumes nothing.
use mathlib.Core.Path.{◌≡◌, refl, sym, subst, ◌∙◌}
use mathlib.Core.List.{List, [], ◌∷◌, ◌++◌}
use Prim.Native.Nat.{ℕ, ◌<◌, ◌≤◌}
use lib.IntN.{ℤ, pos}
use lib.ListN.{length, drop}
use borrow.Author.Tests.{lt-ltb, le-ltb}
use Rattle.instruction.specs.Answer.{Answer, accepted, refused, Refusal, judge, after}
use Rattle.instruction.proofs.Judging.{pass, stop, done, first_of, past_all}
use Rattle.views.specs.View.{room_answer, room_after}

module _ (rs : List Refusal) (out room : List ℕ) where
  abbrev pub Is : Answer ℕ → List ℕ → Type 0
  Is r t = (r ≡ room_answer rs out room) × (t ≡ room_after rs out room)

  held : (r : Answer ℕ) → room_answer rs out room ≡ r → (t : List ℕ) → after r (out ++ drop (length out) room) room ≡ t → Is r t
  unfolding room_after
  held r e t f = (sym e, rw e (sym f))

  pub said : (n : ℕ) (vs : List ℤ) → ◌≡◌ {A = Answer ℕ} (judge rs 0) (refused n vs) → Is (refused n vs) room
  unfolding room_answer
  said n vs e = held (refused n vs) (first_of _ 0 (length out) rs n vs e) room refl

  module _ (s : ◌≡◌ {A = Answer ℕ} (judge rs 0) (accepted 0)) where
    no_room_lem : length room < length out → Is (refused 11 (pos (length out) ∷ [])) room
    unfolding room_answer
    no_room_lem h =
        held (refused 11 (pos (length out) ∷ [])) (past_all _ 0 (length out) rs s ∙ stop _ _ _ (lt-ltb (length room) (length out) h)) room refl

    shown : length out ≤ length room → Is (accepted (length out)) (out ++ drop (length out) room)
    unfolding room_answer
    shown h =
        held (accepted (length out)) (past_all _ 0 (length out) rs s ∙ pass _ _ _ (le-ltb (length room) (length out) h) ∙ done (length out)) _ refl

    -- k is how much is shown
    pub no_room_for : (k : ℕ) → length out ≡ k → length room < k → Is (refused 11 (pos k ∷ [])) room
    no_room_for k e h = subst (λ (j : ℕ). Is (refused 11 (pos j ∷ [])) room) e (no_room_lem (subst (λ (j : ℕ). length room < j) (sym e) h))

    pub shown_as : (k : ℕ) → length out ≡ k → k ≤ length room → (t : List ℕ) → t ≡ out ++ drop k room → Is (accepted k) t
    shown_as k e h t f =
        let g : Is (accepted k) (out ++ drop k room) =
        subst (λ (j : ℕ). Is (accepted j) (out ++ drop j room)) e (shown (subst (λ (j : ℕ). j ≤ length room) (sym e) h)) in
        (g.0, f ∙ g.1)
