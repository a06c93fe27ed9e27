-- One mark set: what is read afterwards, and what is open afterwards. Assumes nothing.
use Prim.Native.Nat.{ℕ, ◌<◌, ◌≤◌}
use native.Mathlib.Omega.{arith}
use mathlib.Core.Path.{◌≡◌, sym, ◌∙◌}
use mathlib.Core.Logic.{◌⊎◌, inl, inr, ◌≢◌}
use mathlib.Core.List.{List}
use lib.ListN.{length, get_or, set}
use lib.Seq.{get_or-set_same, get_or-set_other}
use Rattle.reach.specs.Mark.{waiting}
use Rattle.reach.specs.Note.{Open}
use Rattle.reach.proofs.Cases.{eq_or_ne}

pub set_here : (m : List ℕ) (p v q : ℕ) → q ≡ p → p < length m → get_or (set m p v) q 0 ≡ v
set_here m p v q e h = rw e (get_or-set_same m p v 0 h)

module _ (n : ℕ) (m : List ℕ) (p v q : ℕ) where
  -- another position stays open
  pub open_set : q ≢ p → Open n m q → Open n (set m p v) q
  open_set ne o = record { inside = o.inside; clear = get_or-set_other m p q v 0 ne ∙ o.clear }

  -- and what is open was so before, and is another
  pub set_open : v ≢ 0 → p < length m → Open n (set m p v) q → (q ≢ p) × Open n m q
  set_open nz h o = by (eq_or_ne q p)
    where
      by : (q ≡ p) ⊎ (q ≢ p) → (q ≢ p) × Open n m q
      by (inl e) = absurd (nz (sym (set_here m p v q e h) ∙ o.clear))
      by (inr ne) = (ne, record { inside = o.inside; clear = sym (get_or-set_other m p q v 0 ne) ∙ o.clear })

-- so where it was noted
pub noted_open_before : (n : ℕ) (m : List ℕ) (t q : ℕ) → n ≤ length m → Open n m t → Open n (set m t waiting) q → (q ≢ t) × Open n m q
noted_open_before n m t q l o = set_open n m t waiting q (λ z. omega arith) (omega (arith, o.inside))
