-- Where no target leaves memory, a traced position had the same targets in both modes.
-- Assumes nothing.
use mathlib.Core.Path.{◌≡◌, refl, ap, fun_ext}
use mathlib.Core.Bool.{Bool, true, false, cond, ◌&&◌}
use mathlib.Core.List.{List, []}
use Prim.Native.Nat.{ℕ}
use lib.Dec.{eqb, ltb, leb}
use lib.ListN.{length, get_or}
use Rattle.instruction.specs.declared.mode.Mode.TheVariants.{Unwrapped, Wrapping}
use Rattle.targets.specs.At.{fits_here}
use Rattle.reach.specs.Mark.{flash}
use Rattle.reach.specs.Tracer.{held}
use Rattle.trace_laws.specs.ClaimsModesAlike.{Stays}
use Rattle.trace_laws.proofs.ClaimsModesAlike.{stays_alike}
use Rattle.views.specs.Positions.{positions, some, kept, traced_at}
use Rattle.arrivals.specs.Arrivals.{held_at, arrives, arrivals_of}
use Rattle.listing_laws.specs.ClaimsModesListing.{ArrivalsAlike}

held_same : (image m : List ℕ) → Stays image → (q : ℕ) → held_at Wrapping image m q ≡ held_at Unwrapped image m q
unfolding held_at held
held_same image m S q =
    by (traced_at image m q) (ltb q (length image) && leb (length image) 65536) (fits_here image q) _ _
    (λ f. ap (λ (ts : List ℕ). cond (eqb (get_or m q 0) flash) [] ts) ((stays_alike image S).ways q f))
  where
    by : (a b c : Bool) (x y : List ℕ) → (c ≡ true → x ≡ y) → cond (a && (b && c)) x [] ≡ cond (a && (b && c)) y []
    by false b c x y e = refl
    by true false c x y e = refl
    by true true false x y e = refl
    by true true true x y e = e refl

pub arrivals_alike : ArrivalsAlike
unfolding arrivals_of arrives
arrivals_alike image m p S =
    ap (λ (h : ℕ → List ℕ). kept (λ (q : ℕ). ltb p (length image) && some (eqb p) (h q)) (positions image)) (fun_ext (held_same image m S))
