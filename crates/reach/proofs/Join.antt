-- Entry lists joined (request W9): what is reached from the joined list is reached from the one or from the other. Assumes nothing.
use Prim.Native.Nat.{ℕ, ◌<◌}
use mathlib.Core.Bool.{true, false}
use mathlib.Core.Logic.{◌⊎◌, inl, inr, ⊎_elim, ◌↔◌}
use mathlib.Core.List.Memᴰ
use mathlib.Core.List.{List, ◌++◌}
use Rattle.reach.specs.Tracer.{Tracer}
use Rattle.reach.specs.Reach.{Reach, entry, target}
use Rattle.reach.specs.Mark.{IsTraced}
use Rattle.reach.specs.ClaimsBetween.{Between, Agree}
use Rattle.reach.specs.ClaimsOrder.{Final}
use Rattle.reach.specs.ClaimsJoin.{IsWaiting, Joined, JoinedEntries, SamePositions, SameEntries}
use Rattle.reach.proofs.Order.{any_order, one_final}
use Rattle.reach.proofs.Between.{ends_between, Meant, traced_meant, waiting_meant, carried}
use Rattle.reach.proofs.ReachMore.{more_entries}
use Rattle.reach.proofs.Within.{plain_within}
use Rattle.reach.proofs.Told.{Told}

module _ {G : Tracer} {follow : ℕ → List ℕ} {base : List ℕ} where
  pub part : (e₁ e₂ : List ℕ) {q : ℕ} → Reach G follow base (e₁ ++ e₂) q → Reach G follow base e₁ q ⊎ Reach G follow base e₂ q
  part e₁ e₂ (entry i o) = ⊎_elim (λ j. inl (entry j o)) (λ j. inr (entry j o)) (Memᴰ.append_cases e₁ i)
  part e₁ e₂ (target r f i o) = ⊎_elim (λ x. inl (target x f i o)) (λ x. inr (target x f i o)) (part e₁ e₂ r)

  pub join : (e₁ e₂ : List ℕ) {q : ℕ} → Reach G follow base e₁ q ⊎ Reach G follow base e₂ q → Reach G follow base (e₁ ++ e₂) q
  join e₁ e₂ (inl r) = more_entries (λ q i. Memᴰ.append_left e₂ i) r
  join e₁ e₂ (inr r) = more_entries (λ q i. Memᴰ.append_right e₁ i) r

-- marks are joined as reaching is, where for each list all that may be reached is reached in any case
joined : {X X₁ X₂ C Hi Hi₁ Hi₂ Lo Lo₁ Lo₂ : Type 0} → Meant X C Hi Lo → Meant X₁ C Hi₁ Lo₁ → Meant X₂ C Hi₂ Lo₂
    → (Hi → Hi₁ ⊎ Hi₂) → (Lo₁ ⊎ Lo₂ → Lo) → (C → Hi₁ → Lo₁) → (C → Hi₂ → Lo₂) → X ↔ (X₁ ⊎ X₂)
joined x x₁ x₂ apart together a₁ a₂ = (
  λ e. let w = x.only e in ⊎_elim (λ r. inl (x₁.all (a₁ w.1 r) w.1)) (λ r. inr (x₂.all (a₂ w.1 r) w.1)) (apart w.0),
  ⊎_elim (carried x₁ (λ c r. together (inl (a₁ c r))) x) (carried x₂ (λ c r. together (inr (a₂ c r))) x),
)

module _ {G : Tracer} {lo hi : ℕ → List ℕ} {base e₁ e₂ m₁ m₂ m : List ℕ}
    (b₁ : Between G lo hi base e₁ m₁) (b₂ : Between G lo hi base e₂ m₂) (b : Between G lo hi base (e₁ ++ e₂) m) (q : ℕ) (h : q < G.size) where
  pub joined_traced : Agree G lo hi base e₁ true → Agree G lo hi base e₂ true → Joined IsTraced m₁ m₂ m q
  joined_traced a₁ a₂ = joined (traced_meant b q h) (traced_meant b₁ q h) (traced_meant b₂ q h) (part e₁ e₂) (join e₁ e₂) (a₁ q) (a₂ q)

  pub joined_waiting : Agree G lo hi base e₁ false → Agree G lo hi base e₂ false → Joined IsWaiting m₁ m₂ m q
  joined_waiting a₁ a₂ = joined (waiting_meant b q h) (waiting_meant b₁ q h) (waiting_meant b₂ q h) (part e₁ e₂) (join e₁ e₂) (a₁ q) (a₂ q)

pub joined_entries : JoinedEntries
joined_entries G P base e₁ e₂ m₁ m₂ m B T₁ T₂ T q h =
    let W = plain_within G P in
    let b₁ = (ends_between G G.ways G.ways W base e₁ m₁ B T₁).0 in
    let b₂ = (ends_between G G.ways G.ways W base e₂ m₂ B T₂).0 in
    let b = (ends_between G G.ways G.ways W base (e₁ ++ e₂) m B T).0 in
    (joined_traced b₁ b₂ b q h (λ k f r. r) (λ k f r. r), joined_waiting b₁ b₂ b q h (λ k f r. r) (λ k f r. r))

-- ---- the same entries

module _ {G : Tracer} {base e e' : List ℕ} (s : SamePositions e e') where
  there : {q : ℕ} → Reach G G.ways base e' q → Reach G G.ways base e q
  there = more_entries (λ q. (s q).1)

  back : {q : ℕ} → Reach G G.ways base e q → Reach G G.ways base e' q
  back = more_entries (λ q. (s q).0)

  -- a mark that means "reached, and C" means so for either list
  swapped : {X C : Type 0} {q : ℕ} → X ↔ (Reach G G.ways base e' q × C) → X ↔ (Reach G G.ways base e q × C)
  swapped x = (λ e. let w = x.0 e in (there w.0, w.1), λ w. x.1 (back w.0, w.1))

  -- final marks for these entries are final marks for others that are the same
  pub final_entries : {m : List ℕ} → Final G base e' m → Final G base e m
  final_entries F = record {
    two = λ q h. swapped (F.two q h);
    one = λ q h. swapped (F.one q h);
    others = λ q n. F.others q (λ r. n (there r));
    long = F.long;
  }

  pub told_entries : {m : List ℕ} → Told G base e' m → Told G base e m
  told_entries T = record {
    two = λ q h. swapped (T.two q h);
    one = λ q h. swapped (T.one q h);
    others = λ q h n. T.others q h (λ r. n (there r));
    no_flash = T.no_flash;
  }

pub same_entries : SameEntries
same_entries G P base e e' m m' B s T T' =
    one_final G base e m m' (any_order G P base e m B T) (final_entries s (any_order G P base e' m' B T'))
