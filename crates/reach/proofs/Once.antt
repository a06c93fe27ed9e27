-- Lists in which no position stands twice. Assumes nothing.
use Prim.Native.Nat.{ℕ}
use mathlib.Core.Path.{refl}
use mathlib.Core.Logic.{⊎_elim}
use mathlib.Core.List.Memᴰ
use mathlib.Core.List.{List, [], ◌∷◌, ◌++◌, Memᴰ as Among}
use Rattle.reach.specs.Takes.{Once}

pub once_append : (a b : List ℕ) → Once a → Once b → ((q : ℕ) → Among q a → Among q b → ⊥) → Once (a ++ b)
once_append [] b u v apart = v
once_append (x ∷ a) b u v apart = (
  λ i. ⊎_elim (λ j. u.0 j) (λ j. apart x (Among.head refl) j) (Memᴰ.append_cases a i),
  once_append a b u.1 v (λ q i j. apart q (Among.tail i) j),
)
