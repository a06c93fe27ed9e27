-- What holds of the marks whatever is taken up, and that it holds at the start. Assumes nothing.
use Prim.Native.Nat.{ℕ, ◌<◌}
use native.Mathlib.Omega.{arith}
use mathlib.Core.Bool.{true}
use mathlib.Core.Path.{◌≡◌}
use mathlib.Core.Logic.{◌≢◌}
use mathlib.Core.List.{List, Memᴰ as Among}
use lib.ListN.{length, get_or}
use Rattle.reach.specs.Mark.{waiting, IsTraced}
use Rattle.reach.specs.Note.{Open, note}
use Rattle.reach.specs.Tracer.{Tracer, mark}
use Rattle.reach.specs.Takes.{Base}
use Rattle.reach.specs.Reach.{Reach, entry}
use Rattle.reach.specs.ClaimsBetween.{Within}
use Rattle.reach.proofs.Note.{length_note}
use Rattle.reach.proofs.NoteAt.{Noticed, as_before, newly, noticed}
use Rattle.reach.proofs.Start.{start_untraced}

-- why q has its mark: it is the base's; it was reached and waits; it was reached, its instruction fits, and it was taken up
pub data Why (G : Tracer) (follow : ℕ → List ℕ) (base entries m : List ℕ) (q : ℕ) : Type 0 where
  of_base : get_or m q 0 ≡ get_or base q 0 → Why G follow base entries m q
  waits : get_or m q 0 ≡ waiting → Reach G follow base entries q → Why G follow base entries m q
  done : (at : List ℕ) → get_or m q 0 ≡ mark G at q → Reach G follow base entries q → G.fits q ≡ true → Why G follow base entries m q

-- each mark has its reason, and what the entries and the traced positions lead to is no longer untouched
pub record Sound (G : Tracer) (lo hi : ℕ → List ℕ) (base entries m : List ℕ) : Type 0 where
  pub long : length m ≡ length base
  pub why : (q : ℕ) → Why G hi base entries m q
  pub begun : (q : ℕ) → Among q entries → Open G.size base q → get_or m q 0 ≢ 0
  pub closed : (p q : ℕ) → p < G.size → IsTraced (get_or m p 0) → Among q (lo p) → Open G.size base q → get_or m q 0 ≢ 0

module _ (G : Tracer) (lo hi : ℕ → List ℕ) (base entries : List ℕ) (W : Within G lo hi) (B : Base G base) where
  pub start_sound : Sound G lo hi base entries (note G.size entries base)
  start_sound = record {
    long = length_note G.size entries base;
    why = λ q. reason q (at q);
    begun = λ q i o. set_out q i o (at q);
    closed = λ p q h t i o. absurd (start_untraced G entries base B p h t);
  }
    where
      at : (q : ℕ) → Noticed G.size entries base q
      at q = noticed G.size entries base q B.long

      reason : (q : ℕ) → Noticed G.size entries base q → Why G hi base entries (note G.size entries base) q
      reason q (as_before f e) = of_base e
      reason q (newly i o e) = waits e (entry i o)

      set_out : (q : ℕ) → Among q entries → Open G.size base q → Noticed G.size entries base q → get_or (note G.size entries base) q 0 ≢ 0
      set_out q i o (as_before f e) z = f i o
      set_out q i o (newly j u e) z = omega arith
