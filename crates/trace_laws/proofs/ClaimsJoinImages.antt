-- Entry lists joined, for images without B8 0D 21: all that may be reached is reached in any case.
-- Assumes nothing.
use Prim.Native.Nat.{ℕ}
use mathlib.Core.Bool.{true, false}
use mathlib.Core.List.Memᴰ
use mathlib.Core.List.{List, [], ◌++◌, Memᴰ as Among}
use mathlib.Core.Logic.{◌⊎◌, ⊎_elim}
use Rattle.reach.specs.ClaimsJoin.{SamePositions}
use Rattle.reach.proofs.Join.{told_entries}
use Rattle.reach.proofs.Told.{told_same}
use Rattle.trace_laws.specs.ClaimsJoin as claims
use Rattle.trace_laws.proofs.ClaimsBetweenImages.{clean_agree}
use Rattle.trace_laws.proofs.ClaimsBetweenJoinImages.{agreed_joined, agreed_joined_waiting}
use Rattle.trace_laws.proofs.Ends.{ends}

pub image_joined : claims.ImageJoined
image_joined mode image e₁ e₂ pins m₁ m₂ m B C T₁ T₂ T q h = (
  agreed_joined mode image e₁ e₂ pins m₁ m₂ m (clean_agree mode image e₁ pins true B C) (clean_agree mode image e₂ pins true B C) T₁ T₂ T q h,
  agreed_joined_waiting mode image e₁ e₂ pins m₁ m₂ m (clean_agree mode image e₁ pins false B C) (clean_agree mode image e₂ pins false B C) T₁ T₂ T q h,
)

pub image_same_entries : claims.ImageSameEntries
image_same_entries mode image e e' pins m m' B C s T T' =
    told_same (ends mode image e pins m B C T) (told_entries s (ends mode image e' pins m' B C T'))

-- each way of joining again leaves the same positions in the list
either : (e₁ e₂ : List ℕ) {q : ℕ} → Among q (e₁ ++ e₂) → Among q e₁ ⊎ Among q e₂
either e₁ e₂ i = Memᴰ.append_cases e₁ i

turn : (e₁ e₂ : List ℕ) {q : ℕ} → Among q (e₁ ++ e₂) → Among q (e₂ ++ e₁)
turn e₁ e₂ i = ⊎_elim (λ j. Memᴰ.append_right e₂ j) (λ j. Memᴰ.append_left e₁ j) (either e₁ e₂ i)

none_in : {q : ℕ} → Among q [] → ⊥
none_in = elim [ ]

same : {e e' : List ℕ} → claims.Rejoined e e' → SamePositions e e'
same (claims.turned e₁ e₂) q = (turn e₁ e₂, turn e₂ e₁)
same (claims.none_after e) q = (λ i. ⊎_elim (λ j. j) (λ j. absurd (none_in j)) (either e [] i), λ i. Memᴰ.append_left [] i)
same (claims.none_before e) q = (λ i. i, λ i. i)
same (claims.itself e) q = (λ i. ⊎_elim (λ j. j) (λ j. j) (either e e i), λ i. Memᴰ.append_left e i)

pub image_rejoined : claims.ImageRejoined
image_rejoined mode image e e' pins m m' B C r T T' = image_same_entries mode image e e' pins m m' B C (same r) T T'
