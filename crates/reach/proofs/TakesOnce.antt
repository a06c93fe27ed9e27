-- No position is taken up twice, and its mark tells for good which targets it had. Assumes nothing.
use Prim.Native.Nat.{ℕ, ◌≤◌}
use mathlib.Core.Bool.{Bool, true, false, cond}
use mathlib.Core.Path.{◌≡◌, refl, sym, ap, subst, ◌∙◌}
use mathlib.Core.Logic.{⊎_elim}
use mathlib.Core.List.Memᴰ
use mathlib.Core.List.{List, [], Memᴰ as Among}
use lib.ListN.{length, get_or}
use lib.Dec.{eqb}
use Rattle.reach.specs.Mark.{flash, traced, IsTraced}
use Rattle.reach.specs.Tracer.{Tracer, targets, mark, held}
use Rattle.reach.specs.Takes.{Takes, stay, up, Once}
use Rattle.reach.specs.ClaimsTakes.{TakesOnce, TargetsHeld}
use Rattle.reach.proofs.Mark.{waits_not}
use Rattle.reach.proofs.TakesAt.{took_itself, took_traced, still_long, itself_traced, traced_stays}

-- what is traced is not taken up again
never_again : {G : Tracer} {m m' ps : List ℕ} (q : ℕ) → G.size ≤ length m → Takes G m ps m' → IsTraced (get_or m q 0) → Among q ps → ⊥
never_again q l stay t i = Memᴰ.not-nil i
never_again {G} q l (up {m = m} {p = p} R u) t i =
    ⊎_elim (λ e. waits_not (ap (λ (y : ℕ). get_or m y 0) e ∙ R.waits) t)
    (λ j. never_again q (still_long G m p l R) u (subst IsTraced (sym (took_traced G m p l R q t)) t) j)
    (Memᴰ.cases_cons i)

pub takes_once : TakesOnce
takes_once G m m' ps l t = go l t
  where
    go : {m m' ps : List ℕ} → G.size ≤ length m → Takes G m ps m' → Once ps
    go l stay = tt
    go l (up {m = m} {p = p} R u) = (λ i. never_again p (still_long G m p l R) u (itself_traced G m p l R) i, go (still_long G m p l R) u)

pub targets_held : TargetsHeld
unfolding held targets mark
targets_held G m m' ps p l R u =
    let e : get_or m' p 0 ≡ mark G m p = traced_stays p (still_long G m p l R) u (itself_traced G m p l R) ∙ took_itself G m p l R in
    ap (λ (v : ℕ). cond (eqb v flash) [] (G.ways p)) e ∙ by (G.exempt m p)
  where
    by : (b : Bool) → cond (eqb (cond b flash traced) flash) [] (G.ways p) ≡ cond b [] (G.ways p)
    by true = refl
    by false = refl
