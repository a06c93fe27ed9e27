-- The queue after its first was taken up: the rest, and what that one found. Assumes nothing.
use Prim.Native.Nat.{ℕ, ◌<◌, ◌≤◌}
use native.Mathlib.Omega.{arith}
use mathlib.Core.Path.{◌≡◌, refl, sym, ◌∙◌}
use mathlib.Core.Logic.{⊎_elim}
use mathlib.Core.List.Memᴰ
use mathlib.Core.List.{List, ◌∷◌, ◌++◌, Memᴰ as Among}
use lib.ListN.{length, get_or}
use Rattle.reach.specs.Mark.{waiting}
use Rattle.reach.specs.Tracer.{Tracer, took, found}
use Rattle.reach.proofs.Mark.{waits_not}
use Rattle.reach.proofs.Took.{mark_traced, Moved, itself, kept, called, moved}
use Rattle.reach.proofs.Found.{found_called, called_found, found_once}
use Rattle.reach.proofs.Once.{once_append}
use Rattle.reach.proofs.Line.{Line}

module _ (G : Tracer) (m : List ℕ) (p : ℕ) (queue : List ℕ) (l : G.size ≤ length m) (L : Line G m (p ∷ queue)) where
  h : p < G.size
  h = L.inside p (Among.head refl)

  at : (q : ℕ) → Moved G m p q
  at q = moved G m p q l h

  old_waits : (q : ℕ) → Among q queue → Moved G m p q → get_or (took G m p) q 0 ≡ waiting
  old_waits q i (itself e x) = absurd (L.once.0 (Memᴰ.cast (sym e) i))
  old_waits q i (kept ne f x) = x ∙ L.waits q (Among.tail i)
  old_waits q i (called ne j o x) = x

  new_waits : (q : ℕ) → Among q (found G m p) → Moved G m p q → get_or (took G m p) q 0 ≡ waiting
  new_waits q i (itself e x) = absurd ((found_called G m p l h q i).0 e)
  new_waits q i (kept ne f x) = let c = found_called G m p l h q i in absurd (f c.1 c.2)
  new_waits q i (called ne j o x) = x

  listed : (q : ℕ) → q < G.size → get_or (took G m p) q 0 ≡ waiting → Moved G m p q → Among q (queue ++ found G m p)
  listed q k w (itself e x) = absurd (waits_not (sym x ∙ w) (mark_traced G m p))
  listed q k w (kept ne f x) = Memᴰ.append_left (found G m p) (⊎_elim (λ e. absurd (ne e)) (λ j. j) (Memᴰ.cases_cons (L.all q k (sym x ∙ w))))
  listed q k w (called ne j o x) = Memᴰ.append_right queue (called_found G m p l h q ne j o)

  pub line_next : Line G (took G m p) (queue ++ found G m p)
  line_next = record {
    inside = λ q i. ⊎_elim (λ j. L.inside q (Among.tail j)) (λ j. (found_called G m p l h q j).2.inside) (Memᴰ.append_cases queue i);
    waits = λ q i. ⊎_elim (λ j. old_waits q j (at q)) (λ j. new_waits q j (at q)) (Memᴰ.append_cases queue i);
    all = λ q k w. listed q k w (at q);
    once = once_append queue (found G m p) L.once.1 (found_once G m p l h)
        (λ q i j. omega (arith, L.waits q (Among.tail i), (found_called G m p l h q j).2.clear));
  }
