-- Entry lists joined, for images that do hold B8 0D 21: the two reachable sets are joined, and where they agree so are the marks.
-- Assumes nothing.
use Prim.Native.Nat.{ℕ}
use mathlib.Core.List.{List, ◌++◌}
use Rattle.reach.specs.Reach.{Reach}
use Rattle.reach.specs.Tracer.{Tracer}
use Rattle.reach.proofs.Between.{agreed_traced}
use Rattle.reach.proofs.BetweenLike.{between_entries}
use Rattle.reach.proofs.Join.{part, join, joined_traced, joined_waiting}
use Rattle.reach.proofs.ReachMore.{more_entries}
use Rattle.trace_laws.specs.ClaimsBetweenJoin as claims
use Rattle.trace_laws.proofs.Ends.{between}

goes : {G : Tracer} {follow : ℕ → List ℕ} {base : List ℕ} → claims.GoesByEntries (λ (e : List ℕ). Reach G follow base e)
goes = record {
  joined = λ e₁ e₂ q. (part e₁ e₂, join e₁ e₂);
  same = λ e e' s q. (more_entries (λ k. (s k).0), more_entries (λ k. (s k).1));
}

pub sets_by_entries : claims.SetsByEntries
sets_by_entries mode image pins = (goes, goes)

pub joined_between : claims.JoinedBetween
joined_between mode image e₁ e₂ pins m T =
    let b = between mode image (e₁ ++ e₂) pins m T in
    record { traced_all = λ q r. b.traced_all q (join e₁ e₂ r); traced_only = λ q h t. let w = b.traced_only q h t in (part e₁ e₂ w.0, w.1) }

pub agreed_joined : claims.AgreedJoined
agreed_joined mode image e₁ e₂ pins m₁ m₂ m a₁ a₂ T₁ T₂ T q h =
    joined_traced (between mode image e₁ pins m₁ T₁) (between mode image e₂ pins m₂ T₂) (between mode image (e₁ ++ e₂) pins m T) q h a₁ a₂

pub agreed_joined_waiting : claims.AgreedJoinedWaiting
agreed_joined_waiting mode image e₁ e₂ pins m₁ m₂ m a₁ a₂ T₁ T₂ T q h =
    joined_waiting (between mode image e₁ pins m₁ T₁) (between mode image e₂ pins m₂ T₂) (between mode image (e₁ ++ e₂) pins m T) q h a₁ a₂

pub agreed_same_entries : claims.AgreedSameEntries
agreed_same_entries mode image e e' pins m m' s a T T' q h =
    agreed_traced (between mode image e pins m T) (between_entries (λ k. ((s k).1, (s k).0)) (between mode image e' pins m' T')) q h a
