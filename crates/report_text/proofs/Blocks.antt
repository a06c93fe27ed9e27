-- Blocks one after the other, and what is printed once 22 was.
-- Assumes nothing.
use Prim.Native.Nat.{ℕ, suc}
use mathlib.Core.Bool.{true, false}
use mathlib.Core.List.{List, [], ◌∷◌, ◌++◌, append_assoc}
use mathlib.Core.Path.{◌≡◌, refl, sym, ap, ◌∙◌}
use lib.ListN.{length}
use Rattle.report_text.specs.ClaimsTerm.{BlocksJoined}
use Rattle.report_text.specs.Term.{State, completes, step_to, step_out, fed_to, fed_out, used_in, close_out}

pub blocks_joined : BlocksJoined
unfolding fed_to fed_out
blocks_joined s [] b = (refl, refl)
blocks_joined s (x ∷ a) b =
    let r = blocks_joined (step_to s x) a b in
    (ap (λ (t : List ℕ). step_out s x ++ t) r.0 ∙ sym (append_assoc (step_out s x) (fed_out (step_to s x) a) (fed_out (fed_to (step_to s x) a) b)), r.1)

-- a record that is over
module _ (s : State) (o : s.term.over ≡ true) where
  step_over : (b : ℕ) → (step_to s b ≡ s) × (step_out s b ≡ [])
  unfolding step_to
  step_over b = (rw o refl, rw o refl)

  pub over_out : (t : List ℕ) → (fed_out s t ≡ []) × (fed_to s t ≡ s)
  unfolding fed_to fed_out
  over_out [] = (refl, refl)
  over_out (b ∷ t) =
      let p = step_over b in
      let r = over_out t in
      (ap (λ (x : List ℕ). x ++ fed_out (step_to s b) t) p.1 ∙ ap (λ (x : State). fed_out x t) p.0 ∙ r.0, ap (λ (x : State). fed_to x t) p.0 ∙ r.1)

  pub used_over : (t : List ℕ) → used_in s t ≡ length t
  unfolding used_in
  used_over [] = refl
  used_over (b ∷ t) =
      let c : completes s.term b ≡ false = rw o refl in
      rw c (ap (λ (x : State). suc (used_in x t)) (step_over b).0 ∙ ap suc (used_over t))

  pub over_close : close_out s ≡ []
  unfolding close_out
  over_close = rw o refl
