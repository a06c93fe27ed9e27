-- How the worklist stands beside the run: the run's queue are the first visits to come, and the graph has what the run's marks say.
-- Then both see the same targets. Assumes nothing.
use Prim.Native.Nat.{ℕ, ◌-◌, ◌<◌}
use native.Mathlib.Omega.{arith}
use mathlib.Core.Bool.{true, false, cond, ◌&&◌}
use mathlib.Core.Path.{◌≡◌}
use mathlib.Core.Logic.{◌⊎◌, inl, inr, ◌↔◌}
use mathlib.Core.List.{List, [], Memᴰ as Among}
use lib.ListN.{length, get_or}
use Rattle.reach.specs.Mark.{untouched, traced, IsTraced}
use Rattle.reach.specs.Note.{note, fresh}
use Rattle.reach.specs.Tracer.{Tracer, targets, held}
use Rattle.reach.specs.ClaimsWorklist.{ByTraced}
use Rattle.reach.specs.Worklist.{Graph, arrived_from, targets_by}
use Rattle.reach.proofs.Cases.{yes_or_no, not_both}
use Rattle.reach.proofs.IsAmong.{among_test}
use Rattle.reach.proofs.Lasting.{Lasting, held_plain}
use Rattle.reach.proofs.Line.{Line}
use Rattle.reach.proofs.NoteAlike.{SameOpen}

-- p lies inside and is traced
abbrev pub TracedIn : Tracer → List ℕ → ℕ → Type 0
TracedIn G m p = (p < G.size) × IsTraced (get_or m p 0)

-- `ahead` is what the worklist has ahead, the rest of its round and then what was pushed; `seen` what it visited
pub record Abreast (G : Tracer) (seen ahead : List ℕ) (g : Graph) (m : List ℕ) : Type 0 where
  pub lasting : Lasting G m
  pub line : Line G m (fresh G.size ahead g.instrs)
  pub same_open : SameOpen G.size m (note G.size ahead g.instrs)
  pub long : length g.instrs ≡ G.size
  pub table : (q : ℕ) → (get_or g.instrs q 0 ≡ untouched) ⊎ (get_or g.instrs q 0 ≡ traced)
  pub contained : (q : ℕ) → q < G.size → IsTraced (get_or g.instrs q 0) ↔ IsTraced (get_or m q 0)
  pub jumps : (p q : ℕ) → Among q (g.jump_to p) ↔ (TracedIn G m p × Among q (held G m p))
  pub visits : (q : ℕ) → Among q seen ↔ TracedIn G m q

module _ (G : Tracer) (T : ByTraced G) (seen ahead : List ℕ) (g : Graph) (m : List ℕ) (S : Abreast G seen ahead g m) (p : ℕ) (h : p < G.size) where
  to_marks : G.exempt g.instrs p ≡ true → G.exempt m p ≡ true
  to_marks = T.still g.instrs m p h (λ q k t. (S.contained q k).0 t)

  to_graph : G.exempt m p ≡ true → G.exempt g.instrs p ≡ true
  to_graph = T.still m g.instrs p h (λ q k t. (S.contained q k).1 t)

  -- a position under the exception was arrived at from two before
  arrived : G.exempt m p ≡ true → arrived_from g p (p - 2) ≡ true
  arrived e = (among_test p (g.jump_to (p - 2))).1 ((S.jumps (p - 2) p).1 ((inside, b.0), had b.0))
    where
      b : IsTraced (get_or m (p - 2) 0) × Among p (G.ways (p - 2))
      b = T.before m p h e

      inside : p - 2 < G.size
      inside = omega arith

      had : IsTraced (get_or m (p - 2) 0) → Among p (held G m (p - 2))
      had (inl x) = rw (held_plain G m (p - 2) x) b.1
      had (inr x) = absurd (not_both (S.lasting.still (p - 2) inside x) (T.never m m p e))

  pub targets_same : targets_by G g p ≡ targets G m p
  unfolding targets_by targets
  targets_same = by (yes_or_no (G.exempt m p)) (yes_or_no (G.exempt g.instrs p))
    where
      by : (G.exempt m p ≡ true) ⊎ (G.exempt m p ≡ false) → (G.exempt g.instrs p ≡ true) ⊎ (G.exempt g.instrs p ≡ false)
          → cond (G.exempt g.instrs p && arrived_from g p (p - 2)) [] (G.ways p) ≡ cond (G.exempt m p) [] (G.ways p)
      by (inl e) (inl f) = rw (e, f, arrived e)
      by (inl e) (inr f) = absurd (not_both (to_graph e) f)
      by (inr e) (inl f) = absurd (not_both (to_marks f) e)
      by (inr e) (inr f) = rw (e, f)
