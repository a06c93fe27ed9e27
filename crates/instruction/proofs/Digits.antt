-- A digit of a word is the number at its place.
-- Assumes nothing.
use Rattle.std.proofs.Common.{◌≡◌, ℕ, zero, suc, ◌+◌, ◌*◌, ◌/◌, ◌%◌, ◌^◌, ◌<◌, sym, ap, ◌∙◌, add-zero, mod-eq_of_lt, add_comm, mul-zero, mul-suc, div-one, arith, pow_pos, pow-add}
use native.Mathlib.Nat.{pow-zero, div-div-eq-div-mul, mul-add-div, div-eq_of_lt, mul-add-mod_self_left}
use Rattle.instruction.specs.Tables.{digits_from}

-- digits of b bits
module _ (b : ℕ) where
  lowest : (a r : ℕ) → a < 2 ^ b → (a + 2 ^ b * r) / 2 ^ (b * 0) % 2 ^ b ≡ a
  lowest a r h =
      ap (λ (x : ℕ). (a + 2 ^ b * r) / x % 2 ^ b) (ap (λ (n : ℕ). 2 ^ n) (mul-zero b) ∙ pow-zero 2)
      ∙ ap (λ (x : ℕ). x % 2 ^ b) (div-one (a + 2 ^ b * r) ∙ add_comm a (2 ^ b * r))
      ∙ mul-add-mod_self_left (2 ^ b) r a
      ∙ mod-eq_of_lt h

  without : (a r : ℕ) → a < 2 ^ b → (a + 2 ^ b * r) / 2 ^ b ≡ r
  without a r h =
      ap (λ (x : ℕ). x / 2 ^ b) (add_comm a (2 ^ b * r)) ∙ mul-add-div (pow_pos b) r a ∙ ap (λ (x : ℕ). r + x) (div-eq_of_lt h) ∙ add-zero r

  further : (a r i : ℕ) → a < 2 ^ b → (a + 2 ^ b * r) / 2 ^ (b * suc i) % 2 ^ b ≡ r / 2 ^ (b * i) % 2 ^ b
  further a r i h =
      ap (λ (x : ℕ). (a + 2 ^ b * r) / x % 2 ^ b) (ap (λ (n : ℕ). 2 ^ n) (mul-suc b i ∙ add_comm (b * i) b) ∙ pow-add 2 b (b * i))
      ∙ ap (λ (x : ℕ). x % 2 ^ b) (sym (div-div-eq-div-mul (a + 2 ^ b * r) (2 ^ b) (2 ^ (b * i))))
      ∙ ap (λ (x : ℕ). x / 2 ^ (b * i) % 2 ^ b) (without a r h)

  pub digit : (f : ℕ → ℕ) (n k i : ℕ) → ((j : ℕ) → j < k + n → f j < 2 ^ b) → i < n → digits_from (2 ^ b) f n k / 2 ^ (b * i) % 2 ^ b ≡ f (k + i)
  digit f zero k i small h = absurd (omega arith)
  digit f (suc n) k zero small h = lowest (f k) (digits_from (2 ^ b) f n (suc k)) (small k (omega arith)) ∙ ap f (sym (add-zero k))
  digit f (suc n) k (suc i) small h =
      let e : suc k + i ≡ k + suc i = omega arith in
      further (f k) (digits_from (2 ^ b) f n (suc k)) i (small k (omega arith))
      ∙ digit f n (suc k) i (λ j g. small j (omega arith)) (omega arith)
      ∙ ap f e
