-- Masks joined: a byte lies under an instruction that is traced for the one list or for the other.
-- Assumes nothing.
use Prim.Native.Nat.{ℕ, ◌<◌}
use mathlib.Core.Bool.{Bool, true, false, ◌||◌}
use mathlib.Core.List.{List}
use mathlib.Core.Logic.{◌⊎◌, inl, inr, ⊎_elim, ◌↔◌}
use mathlib.Core.Path.{◌≡◌, refl, sym, ◌∙◌}
use lib.ListN.{length, get_or}
use Rattle.instruction.proofs.Sign.{never}
use Rattle.reach.specs.ClaimsJoin.{Joined}
use Rattle.reach.specs.Mark.{IsTraced}
use Rattle.trace_laws.proofs.ClaimsJoinImages.{image_joined}
use Rattle.views.specs.Mask.{masked}
use Rattle.views_laws.specs.ClaimsJoinViews.{MaskJoined}
use Rattle.views_laws.proofs.MaskedBy.{Under, masked_under, under_masked, mask_one}

module _ (image m₁ m₂ m : List ℕ) (J : (q : ℕ) → q < length image → Joined IsTraced m₁ m₂ m q) (b : ℕ) where
  -- the same position, traced in other marks
  moved : {n k : List ℕ} (U : Under image n b) → IsTraced (get_or k U.position 0) → Under image k b
  moved U t = record { position = U.position; inside = U.inside; is_traced = t; from = U.from; to = U.to }

  apart : Under image m b → Under image m₁ b ⊎ Under image m₂ b
  apart U = ⊎_elim (λ t. inl (moved U t)) (λ t. inr (moved U t)) ((J U.position U.inside).0 U.is_traced)

  together : Under image m₁ b ⊎ Under image m₂ b → Under image m b
  together (inl U) = moved U ((J U.position U.inside).1 (inl U.is_traced))
  together (inr U) = moved U ((J U.position U.inside).1 (inr U.is_traced))

  to_masked : Under image m₁ b ⊎ Under image m₂ b → (masked image m₁ b ≡ true) ⊎ (masked image m₂ b ≡ true)
  to_masked = ⊎_elim (λ U. inl (under_masked image m₁ b U)) (λ U. inr (under_masked image m₂ b U))

  to_under : (masked image m₁ b ≡ true) ⊎ (masked image m₂ b ≡ true) → Under image m₁ b ⊎ Under image m₂ b
  to_under = ⊎_elim (λ e. inl (masked_under image m₁ b e)) (λ e. inr (masked_under image m₂ b e))

  masked_joined : (masked image m b ≡ true) ↔ ((masked image m₁ b ≡ true) ⊎ (masked image m₂ b ≡ true))
  masked_joined = (λ e. to_masked (apart (masked_under image m b e)), λ e. under_masked image m b (together (to_under e)))

  -- as tests
  pub masked_or : masked image m b ≡ (masked image m₁ b || masked image m₂ b)
  masked_or = by (masked image m b) refl (masked image m₁ b) refl (masked image m₂ b) refl
    where
      by : (t : Bool) → masked image m b ≡ t → (t₁ : Bool) → masked image m₁ b ≡ t₁ → (t₂ : Bool) → masked image m₂ b ≡ t₂ → t ≡ (t₁ || t₂)
      by true e true f t₂ g = refl
      by true e false f true g = refl
      by true e false f false g = absurd (⊎_elim (λ x. never (sym (sym f ∙ x))) (λ x. never (sym (sym g ∙ x))) (masked_joined.0 e))
      by false e true f t₂ g = absurd (never (sym (sym e ∙ masked_joined.1 (inl f))))
      by false e false f true g = absurd (never (sym (sym e ∙ masked_joined.1 (inr g))))
      by false e false f false g = refl

pub mask_joined : MaskJoined
mask_joined mode image e₁ e₂ pins m₁ m₂ m B C T₁ T₂ T b h =
    let j = masked_joined image m₁ m₂ m (λ q k. (image_joined mode image e₁ e₂ pins m₁ m₂ m B C T₁ T₂ T q k).0) b in
    let x = mask_one image m b h in
    let x₁ = mask_one image m₁ b h in
    let x₂ = mask_one image m₂ b h in (
      λ e. ⊎_elim (λ f. inl (x₁.1 f)) (λ f. inr (x₂.1 f)) (j.0 (x.0 e)),
      λ e. x.1 (j.1 (⊎_elim (λ f. inl (x₁.0 f)) (λ f. inr (x₂.0 f)) e)),
    )
