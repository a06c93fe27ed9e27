-- Whatever is taken up, each mark is the base's, or says waiting or traced. Assumes nothing.
use Prim.Native.Nat.{ℕ}
use mathlib.Core.Path.{◌≡◌, sym, subst}
use mathlib.Core.Logic.{◌⊎◌, inl, inr}
use mathlib.Core.List.{List, []}
use lib.ListN.{get_or}
use Rattle.reach.specs.Mark.{IsTraced, IsLive}
use Rattle.reach.specs.Note.{note}
use Rattle.reach.specs.Tracer.{Tracer}
use Rattle.reach.specs.Takes.{Takes, Base}
use Rattle.reach.proofs.Took.{mark_traced}
use Rattle.reach.proofs.Sound.{Why, of_base, waits, done}
use Rattle.reach.proofs.SoundStep.{reached_sound}
use Rattle.reach.proofs.Within.{ways_within}

pub mark_kinds : (G : Tracer) (base entries ps m : List ℕ) → Base G base → Takes G (note G.size entries base) ps m
    → (q : ℕ) → (get_or m q 0 ≡ get_or base q 0) ⊎ IsLive (get_or m q 0)
mark_kinds G base entries ps m B t q = by ((reached_sound G (λ p. []) G.ways base entries (ways_within G) B t).why q)
  where
    by : Why G G.ways base entries m q → (get_or m q 0 ≡ get_or base q 0) ⊎ IsLive (get_or m q 0)
    by (of_base e) = inl e
    by (waits e r) = inr (inl e)
    by (done a e r f) = inr (inr (subst IsTraced (sym e) (mark_traced G a q)))
