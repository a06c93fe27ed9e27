-- Sequences of takings: one after the other, and each adds one to the traced marks, so that none is longer than the image. Assumes nothing.
use Prim.Native.Nat.{ℕ, ◌+◌, ◌≤◌}
use native.Mathlib.Omega.{arith}
use mathlib.Core.Path.{◌≡◌, refl, ◌∙◌}
use mathlib.Core.List.{List, ◌++◌}
use lib.ListN.{length, take}
use Rattle.reach.specs.Mark.{traced_mark, count}
use Rattle.reach.specs.Tracer.{Tracer}
use Rattle.reach.specs.Takes.{Takes, stay, up}
use Rattle.reach.specs.ClaimsTakes.{TakesBound}
use Rattle.reach.proofs.Count.{count_under}
use Rattle.reach.proofs.Took.{length_took, count_took}

-- one sequence after the other
pub takes_append : {G : Tracer} {m m' m'' ps qs : List ℕ} → Takes G m ps m' → Takes G m' qs m'' → Takes G m (ps ++ qs) m''
takes_append stay u = u
takes_append (up R t) u = up R (takes_append t u)

pub length_takes : {G : Tracer} {m m' ps : List ℕ} → Takes G m ps m' → length m' ≡ length m
length_takes stay = refl
length_takes {G} (up {m = m} {p = p} R t) = length_takes t ∙ length_took G m p

-- each adds one to the traced marks
pub takes_count : {G : Tracer} {m m' ps : List ℕ} → G.size ≤ length m → Takes G m ps m'
    → count traced_mark (take G.size m') ≡ count traced_mark (take G.size m) + length ps
takes_count l stay = omega arith
takes_count {G} l (up {m = m} {p = p} R t) = omega (arith, takes_count (omega (arith, length_took G m p)) t, count_took G m p l R)

pub takes_bound : TakesBound
takes_bound G m m' ps l t = omega (arith, takes_count l t, count_under traced_mark G.size m')
