-- The table at the start: no position inside is traced. Assumes nothing.
use Prim.Native.Nat.{ℕ, ◌<◌, ◌≤◌}
use native.Mathlib.Omega.{arith}
use mathlib.Core.Bool.{true, false}
use mathlib.Core.Path.{◌≡◌, subst}
use mathlib.Core.Logic.{◌⊎◌, inl, inr}
use mathlib.Core.List.{List}
use lib.ListN.{length, get_or, take}
use Rattle.reach.specs.Mark.{IsTraced, traced_mark, count}
use Rattle.reach.specs.Note.{note}
use Rattle.reach.specs.Tracer.{Tracer}
use Rattle.reach.specs.Takes.{Base}
use Rattle.reach.proofs.Cases.{yes_or_no}
use Rattle.reach.proofs.Mark.{waits_not, traced_test}
use Rattle.reach.proofs.Count.{count_none}
use Rattle.reach.proofs.Note.{length_note}
use Rattle.reach.proofs.NoteAt.{Noticed, as_before, newly, noticed}

module _ (G : Tracer) (entries base : List ℕ) (B : Base G base) where
  pub start_long : G.size ≤ length (note G.size entries base)
  start_long = omega (arith, length_note G.size entries base, B.long)

  pub start_untraced : (q : ℕ) → q < G.size → IsTraced (get_or (note G.size entries base) q 0) → ⊥
  start_untraced q h t = by (noticed G.size entries base q B.long)
    where
      by : Noticed G.size entries base q → ⊥
      by (as_before f e) = B.none_live q h (inr (subst IsTraced e t))
      by (newly i o e) = waits_not e t

  pub start_count : count traced_mark (take G.size (note G.size entries base)) ≡ 0
  start_count = count_none traced_mark G.size start (λ q h. by q h (yes_or_no (traced_mark (get_or start q 0)))) start_long
    where
      start : List ℕ
      start = note G.size entries base

      by : (q : ℕ) → q < G.size → (traced_mark (get_or start q 0) ≡ true) ⊎ (traced_mark (get_or start q 0) ≡ false) → traced_mark (get_or start q 0) ≡ false
      by q h (inl e) = absurd (start_untraced q h ((traced_test (get_or start q 0)).0 e))
      by q h (inr e) = e
