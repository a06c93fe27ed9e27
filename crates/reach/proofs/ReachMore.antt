-- From more entries, or by more targets, no less is reached. Assumes nothing.
use Prim.Native.Nat.{ℕ}
use mathlib.Core.List.{List, Memᴰ as Among}
use Rattle.reach.specs.Tracer.{Tracer}
use Rattle.reach.specs.Reach.{Reach, entry, target}

module _ {G : Tracer} {base : List ℕ} where
  pub more_entries : {follow : ℕ → List ℕ} {e e' : List ℕ} → ((q : ℕ) → Among q e → Among q e') → {q : ℕ} → Reach G follow base e q → Reach G follow base e' q
  more_entries s (entry {q = q} i o) = entry (s q i) o
  more_entries s (target r f i o) = target (more_entries s r) f i o

  pub more_targets : {f g : ℕ → List ℕ} {e : List ℕ} → ((p q : ℕ) → Among q (f p) → Among q (g p)) → {q : ℕ} → Reach G f base e q → Reach G g base e q
  more_targets s (entry i o) = entry i o
  more_targets s (target {p = p} {q = q} r f i o) = target (more_targets s r) f (s p q i) o
