-- A visit, first or repeated: the graph has afterwards what the run's marks say. Assumes nothing.
use Prim.Native.Nat.{ℕ, ◌<◌}
use native.Mathlib.Omega.{arith}
use mathlib.Core.Bool.{cond}
use mathlib.Core.Path.{◌≡◌, sym, subst, ◌∙◌}
use mathlib.Core.Logic.{◌⊎◌, inl, inr, ◌↔◌, ◌≢◌}
use mathlib.Core.List.Memᴰ
use mathlib.Core.List.{List, ◌++◌, Memᴰ as Among}
use lib.ListN.{length, get_or, set, length-set}
use lib.Dec.{eqb}
use lib.Seq.{get_or-set_other}
use borrow.Author.Tests.{eq-eqb, ne_eqb}
use Rattle.reach.specs.Mark.{untouched, traced, IsTraced}
use Rattle.reach.specs.Tracer.{Tracer, targets, held}
use Rattle.reach.specs.ClaimsWorklist.{ByTraced}
use Rattle.reach.specs.Worklist.{Graph, targets_by, visited}
use Rattle.reach.proofs.Cases.{eq_or_ne}
use Rattle.reach.proofs.Lasting.{held_by}
use Rattle.reach.proofs.Set.{set_here}
use Rattle.reach.proofs.Abreast.{TracedIn, Abreast, targets_same}

-- from m to m' nothing happened but that p is traced, and had these targets, now or before
pub record Onward (G : Tracer) (m : List ℕ) (p : ℕ) (m' : List ℕ) : Type 0 where
  pub itself : TracedIn G m' p
  pub others : (a : ℕ) → a ≢ p → IsTraced (get_or m a 0) ↔ IsTraced (get_or m' a 0)
  pub same : (a : ℕ) → a ≢ p → IsTraced (get_or m a 0) → get_or m a 0 ≡ get_or m' a 0
  pub now : (q : ℕ) → Among q (targets G m p) → Among q (held G m' p)
  pub before : (q : ℕ) → TracedIn G m p → Among q (held G m p) → Among q (held G m' p)
  pub had : (q : ℕ) → Among q (held G m' p) → Among q (targets G m p) ⊎ (TracedIn G m p × Among q (held G m p))

module _ (G : Tracer) (T : ByTraced G) (seen ahead : List ℕ) (g : Graph) (m m' : List ℕ) (S : Abreast G seen ahead g m) (p : ℕ)
    (O : Onward G m p m') where
  pub in_table : p < length g.instrs
  in_table = omega (arith, S.long, O.itself.0)

  pub visited_long : length (visited G g p).instrs ≡ G.size
  unfolding visited
  visited_long = length-set g.instrs p traced ∙ S.long

  pub visited_table : (q : ℕ) → (get_or (visited G g p).instrs q 0 ≡ untouched) ⊎ (get_or (visited G g p).instrs q 0 ≡ traced)
  unfolding visited
  visited_table q = by (eq_or_ne q p) (S.table q)
    where
      by : (q ≡ p) ⊎ (q ≢ p) → (get_or g.instrs q 0 ≡ untouched) ⊎ (get_or g.instrs q 0 ≡ traced)
          → (get_or (set g.instrs p traced) q 0 ≡ untouched) ⊎ (get_or (set g.instrs p traced) q 0 ≡ traced)
      by (inl e) t = inr (set_here g.instrs p traced q e in_table)
      by (inr ne) (inl z) = inl (get_or-set_other g.instrs p q traced 0 ne ∙ z)
      by (inr ne) (inr z) = inr (get_or-set_other g.instrs p q traced 0 ne ∙ z)

  pub visited_contained : (q : ℕ) → q < G.size → IsTraced (get_or (visited G g p).instrs q 0) ↔ IsTraced (get_or m' q 0)
  unfolding visited
  visited_contained q h = by (eq_or_ne q p)
    where
      by : (q ≡ p) ⊎ (q ≢ p) → IsTraced (get_or (set g.instrs p traced) q 0) ↔ IsTraced (get_or m' q 0)
      by (inl e) = (
        λ t. subst (λ (y : ℕ). IsTraced (get_or m' y 0)) (sym e) O.itself.1,
        λ t. inl (set_here g.instrs p traced q e in_table),
      )
      by (inr ne) =
          let x = get_or-set_other g.instrs p q traced 0 ne in
          (λ t. (O.others q ne).0 ((S.contained q h).0 (subst IsTraced x t)), λ t. subst IsTraced (sym x) ((S.contained q h).1 ((O.others q ne).1 t)))

  -- the jumps from p: those that there were, and its targets at this visit
  jumps_here : (q : ℕ) → Among q (g.jump_to p ++ targets_by G g p) ↔ (TracedIn G m' p × Among q (held G m' p))
  jumps_here q = (λ i. (O.itself, there (Memᴰ.append_cases (g.jump_to p) i)), λ w. back (O.had q w.1))
    where
      t : targets_by G g p ≡ targets G m p
      t = targets_same G T seen ahead g m S p O.itself.0

      there : Among q (g.jump_to p) ⊎ Among q (targets_by G g p) → Among q (held G m' p)
      there (inl i) = let r = (S.jumps p q).0 i in O.before q r.0 r.1
      there (inr i) = O.now q (rw t at i)

      back : Among q (targets G m p) ⊎ (TracedIn G m p × Among q (held G m p)) → Among q (g.jump_to p ++ targets_by G g p)
      back (inl i) = Memᴰ.append_right (g.jump_to p) (rw t i)
      back (inr w) = Memᴰ.append_left (targets_by G g p) ((S.jumps p q).1 w)

  -- from another position they stay
  jumps_there : (a q : ℕ) → a ≢ p → Among q (g.jump_to a) ↔ (TracedIn G m' a × Among q (held G m' a))
  jumps_there a q ne = (
    λ i.
        let r = (S.jumps a q).0 i in
        ((r.0.0, (O.others a ne).0 r.0.1), rw (held_by G m a m' (O.same a ne r.0.1)) at r.1),
    λ w.
        let t = (O.others a ne).1 w.0.1 in
        (S.jumps a q).1 ((w.0.0, t), rw (held_by G m a m' (O.same a ne t)) w.1),
  )

  pub visited_jumps : (a q : ℕ) → Among q ((visited G g p).jump_to a) ↔ (TracedIn G m' a × Among q (held G m' a))
  unfolding visited
  visited_jumps a q = by (eq_or_ne a p)
    where
      by : (a ≡ p) ⊎ (a ≢ p)
          → Among q (cond (eqb a p) (g.jump_to a ++ targets_by G g p) (g.jump_to a)) ↔ (TracedIn G m' a × Among q (held G m' a))
      by (inl e) =
          rw (eq-eqb a p e)
          (subst (λ (y : ℕ). Among q (g.jump_to y ++ targets_by G g p) ↔ (TracedIn G m' y × Among q (held G m' y))) (sym e) (jumps_here q))
      by (inr ne) = rw (ne_eqb a p ne) (jumps_there a q ne)
