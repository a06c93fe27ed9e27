-- Which positions are reachable (demand 3; document 01, "Targets" and "Marks and steps"). Assumes nothing.
use Rattle.std.specs.Prelude.{ℕ, true, ◌≡◌}
use mathlib.Core.List.{List, Memᴰ as Among}
use Rattle.reach.specs.Note.{Open}
use Rattle.reach.specs.Tracer.{Tracer}

-- Reachable from the entries where `follow p` are the targets of p: an entry inside the image is reachable; a target inside the image of a
-- reachable position whose instruction fits is reachable. In either case it is untouched in `base`, the table that the entries are noted over.
pub data Reach (G : Tracer) (follow : ℕ → List ℕ) (base entries : List ℕ) : ℕ → Type 0 where
  entry : {q : ℕ} → Among q entries → Open G.size base q → Reach G follow base entries q
  target : {p q : ℕ} → Reach G follow base entries p → G.fits p ≡ true → Among q (follow p) → Open G.size base q
      → Reach G follow base entries q
