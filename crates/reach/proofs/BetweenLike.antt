-- Marks that lie between two reachable sets do so over every base that is alike inside the image: so the lent marks are not in the way.
-- Assumes nothing.
use Prim.Native.Nat.{ℕ, ◌≤◌}
use mathlib.Core.Path.{refl, sym, ◌∙◌}
use mathlib.Core.List.{List}
use lib.ListN.{length}
use Rattle.reach.specs.Pins.{table}
use Rattle.reach.specs.Takes.{ToEnd}
use Rattle.reach.specs.Tracer.{Tracer}
use Rattle.reach.specs.Reach.{Reach}
use Rattle.reach.specs.ClaimsBetween.{Within, Between}
use Rattle.reach.specs.ClaimsJoin.{SamePositions}
use Rattle.reach.proofs.Between.{ends_between}
use Rattle.reach.proofs.ReachMore.{more_entries}
use Rattle.reach.proofs.Table.{table_base, table_like}
use Rattle.reach.proofs.Told.{SameIn, reach_like, bare}

-- what is reached by the one way is reached by the other, and what is not reached has the same mark
between_moved : {G : Tracer} {lo hi : ℕ → List ℕ} {base base' e e' m : List ℕ} → SameIn G.size base base'
    → ((follow : ℕ → List ℕ) (q : ℕ) → Reach G follow base e q → Reach G follow base' e' q)
    → ((follow : ℕ → List ℕ) (q : ℕ) → Reach G follow base' e' q → Reach G follow base e q)
    → Between G lo hi base e m → Between G lo hi base' e' m
between_moved s there back b = record {
  traced_all = λ q r f. b.traced_all q (back _ q r) f;
  traced_only = λ q h t. let w = b.traced_only q h t in (there _ q w.0, w.1);
  waiting_all = λ q r f. b.waiting_all q (back _ q r) f;
  waiting_only = λ q h t. let w = b.waiting_only q h t in (there _ q w.0, w.1);
  others = λ q h n. b.others q h (λ r. n (there _ q r)) ∙ s q h;
}

-- an order that ends, over a table with pins: told over nothing but the pins
pub table_between : (G : Tracer) (lo hi : ℕ → List ℕ) → Within G lo hi → (pins lent entries m : List ℕ) → G.size ≤ length lent
    → ToEnd G (table G.size pins lent) entries m → Between G lo hi (bare G.size pins) entries m
table_between G lo hi W pins lent entries m l T =
    let s : SameIn G.size (table G.size pins lent) (bare G.size pins) = λ q h. table_like G.size pins lent q l h in
    between_moved s (λ f q. reach_like s) (λ f q. reach_like (λ k h. sym (s k h)))
    (ends_between G lo hi W (table G.size pins lent) entries m (table_base G pins lent l) T).0

-- lists of the same positions
pub between_entries : {G : Tracer} {lo hi : ℕ → List ℕ} {base e e' m : List ℕ} → SamePositions e e' → Between G lo hi base e m → Between G lo hi base e' m
between_entries s b = between_moved (λ q h. refl) (λ f q. more_entries (λ k. (s k).0)) (λ f q. more_entries (λ k. (s k).1)) b
