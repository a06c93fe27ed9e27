-- The line of a refusal put part by part, and what is put laid over a room's beginning.
-- Assumes nothing.
use mathlib.Core.Path.{◌≡◌, refl, ap, ◌∙◌}
use mathlib.Core.List.{List, [], ◌∷◌, ◌++◌}
use Prim.Native.Nat.{ℕ, ◌+◌, ◌≤◌}
use native.Mathlib.Omega.{arith}
use lib.ListN.{length, set, drop}
use lib.Seq.{sets, sets-eq}
use Rattle.instruction.specs.Answer.{accepted}
use Rattle.instruction.proofs.Judging.{done}
use Rattle.views.proofs.Rooming.{Is, shown_as}
use Rattle.text.specs.Puts.{Puts}
use Rattle.text.proofs.Putting.{puts_then}
use Rattle.list_text.specs.Decimal.{lowest, width}
use Rattle.list_text.specs.Refusal.{number_line, value_line}
use Rattle.list_text.proofs.Decimals.{lowest_length}

-- what was put from the start on is shown
pub put_shown : (out room t : List ℕ) (k : ℕ) → length out ≡ k → k ≤ length room → t ≡ sets room 0 out → Is [] out room (accepted k) t
put_shown out room t k e h f =
    let z : 0 + length out ≡ k = omega arith in
    shown_as [] out room (done 0) k e h t (f ∙ sets-eq out room 0 (omega arith) ∙ ap (λ (j : ℕ). out ++ drop j room) z)

-- digits, and a byte
pub digits_put : (k n at r : ℕ) (o m : List ℕ) → m ≡ sets o at (lowest k n) → r ≡ at + k → Puts (lowest k n) at o m r
digits_put k n at r o m e f = record { next = omega (arith, f, lowest_length k n); wrote = e }

byte_at : (b at r : ℕ) (o : List ℕ) → r ≡ at + 1 → Puts (b ∷ []) at o (set o at b) r
byte_at b at r o e = record { next = e; wrote = refl }

module _ (n : ℕ) (o m : List ℕ) where
  -- `R`, tab, k digits
  head_put : (k : ℕ) → m ≡ sets o 0 (82 ∷ 9 ∷ lowest k n) → Puts (82 ∷ 9 ∷ lowest k n) 0 o m (k + 2)
  head_put k e = record { next = omega (arith, lowest_length k n); wrote = e }

  pub number_put : (k : ℕ) → k ≡ width n n → m ≡ sets o 0 (82 ∷ 9 ∷ lowest k n) → Puts (number_line n) 0 o (set m (k + 2) 10) (k + 3)
  unfolding number_line
  number_put k a e = rw (← a) (puts_then (head_put k e) (byte_at 10 (k + 2) (k + 3) m (omega arith)))

  module _ (v : ℕ) (p : List ℕ) where
    parts : (k j : ℕ) → m ≡ sets o 0 (82 ∷ 9 ∷ lowest k n) → p ≡ sets (set m (k + 2) 9) (k + 3) (lowest j v)
        → Puts (82 ∷ 9 ∷ lowest k n ++ 9 ∷ lowest j v ++ 10 ∷ []) 0 o (set p (k + j + 3) 10) (k + j + 4)
    parts k j e f =
        let second = puts_then (byte_at 9 (k + 2) (k + 3) m (omega arith)) (digits_put j v (k + 3) (k + j + 3) _ p f (omega arith)) in
        puts_then (puts_then (head_put k e) second) (byte_at 10 (k + j + 3) (k + j + 4) p (omega arith))

    pub value_put : (k j : ℕ) → k ≡ width n n → j ≡ width v v → m ≡ sets o 0 (82 ∷ 9 ∷ lowest k n) → p ≡ sets (set m (k + 2) 9) (k + 3) (lowest j v)
        → Puts (value_line n v) 0 o (set p (k + j + 3) 10) (k + j + 4)
    unfolding value_line
    value_put k j a b e f = rw (← a, ← b) (parts k j e f)

pub number_length : (n k : ℕ) → k ≡ width n n → length (number_line n) ≡ k + 3
number_length n k a = omega (arith, (number_put n [] _ k a refl).next)

pub value_length : (n v k j : ℕ) → k ≡ width n n → j ≡ width v v → length (value_line n v) ≡ k + j + 4
value_length n v k j a b = omega (arith, (value_put n [] _ v _ k j a b refl refl).next)
