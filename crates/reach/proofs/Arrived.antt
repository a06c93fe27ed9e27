-- What the reasons for the marks say of a position's mark. Assumes nothing.
use Prim.Native.Nat.{ℕ, ◌<◌}
use mathlib.Core.Bool.{true}
use mathlib.Core.Path.{◌≡◌, sym, subst, ◌∙◌}
use mathlib.Core.Logic.{inl, inr}
use mathlib.Core.List.{List}
use lib.ListN.{get_or}
use Rattle.reach.specs.Mark.{waiting, IsTraced}
use Rattle.reach.specs.Note.{Open}
use Rattle.reach.specs.Tracer.{Tracer}
use Rattle.reach.specs.Takes.{Base}
use Rattle.reach.specs.Reach.{Reach, entry, target}
use Rattle.reach.proofs.Mark.{waits_not}
use Rattle.reach.proofs.Sound.{Why, of_base, waits, done}

-- what is reached is open in the base
pub arrived : {G : Tracer} {follow : ℕ → List ℕ} {base entries : List ℕ} {q : ℕ} → Reach G follow base entries q → Open G.size base q
arrived (entry i o) = o
arrived (target r f i o) = o

module _ (G : Tracer) (follow : ℕ → List ℕ) (base entries m : List ℕ) (B : Base G base) where
  -- a traced position was reached, and fits
  pub traced_why : (q : ℕ) → q < G.size → IsTraced (get_or m q 0) → Why G follow base entries m q → Reach G follow base entries q × (G.fits q ≡ true)
  traced_why q h t (of_base e) = absurd (B.none_live q h (inr (subst IsTraced e t)))
  traced_why q h t (waits e r) = absurd (waits_not e t)
  traced_why q h t (done a e r f) = (r, f)

  pub waiting_why : (q : ℕ) → q < G.size → get_or m q 0 ≡ waiting → Why G follow base entries m q → Reach G follow base entries q
  waiting_why q h w (of_base e) = absurd (B.none_live q h (inl (sym e ∙ w)))
  waiting_why q h w (waits e r) = r
  waiting_why q h w (done a e r f) = r

  pub unreached_why : (q : ℕ) → (Reach G follow base entries q → ⊥) → Why G follow base entries m q → get_or m q 0 ≡ get_or base q 0
  unreached_why q n (of_base e) = e
  unreached_why q n (waits e r) = absurd (n r)
  unreached_why q n (done a e r f) = absurd (n r)
