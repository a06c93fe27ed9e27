-- Bits of one word set at once: as if they were set one after another.
-- Assumes nothing.
use mathlib.Core.Path.{◌≡◌, refl, sym, ap, subst, ◌∙◌}
use mathlib.Core.Bool.{Bool, ◌&&◌, ◌||◌, or-false}
use mathlib.Core.List.{List}
use Prim.Native.Nat.{ℕ, zero, suc, ◌+◌, ◌-◌, ◌/◌, ◌%◌, ◌<◌, ◌≤◌}
use native.Mathlib.Omega.{arith}
use lib.Dec.{eqb, leb}
use borrow.Author.Tests.{lt-ltb}
use lib.ListN.{length, get_or, set, length-set}
use lib.Seq.{get_or-set_same, set-set}
use Rattle.map.specs.Bits.{one, between, digits, with_ones}
use Rattle.map.specs.Packed.{with_code, covered}
use Rattle.map.proofs.Digits.{one_digits, digits_same}
use Rattle.map.proofs.Packing.{or_assoc, begins, begins_none}

-- a stretch of one bit
single : (a i : ℕ) → between a (a + 1) i ≡ eqb i a
single a i =
    sym (begins a 0 i (eqb i a) refl) ∙ ap (λ (b : Bool). eqb i a || b) (begins_none (suc a) i) ∙ or-false (eqb i a)

-- one bit, and those behind it
joined : (w a k : ℕ) → with_ones (with_ones w a (a + 1)) (suc a) (suc a + k) ≡ with_ones w a (a + suc k)
unfolding with_ones
joined w a k =
    digits_same
    (λ (i : ℕ). one (digits (λ (j : ℕ). one w j || between a (a + 1) j) 64 0) i || between (suc a) (suc a + k) i)
    (λ (i : ℕ). one w i || between a (a + suc k) i) 64 0
    (λ i g h. let e : 0 + i ≡ i = omega arith in
    ap (λ (b : Bool). b || between (suc a) (suc a + k) i)
    (one_digits (λ (j : ℕ). one w j || between a (a + 1) j) 64 0 i (omega arith) ∙ ap (λ (j : ℕ). one w j || between a (a + 1) j) e)
    ∙ or_assoc (one w i) (between a (a + 1) i) (between (suc a) (suc a + k) i)
    ∙ ap (λ (b : Bool). one w i || b) (ap (λ (b : Bool). b || between (suc a) (suc a + k) i) (single a i) ∙ begins a k i (eqb i a) refl))

pub in_word : (k : ℕ) (ws : List ℕ) (q : ℕ) → q % 64 + suc k ≤ 64 → q / 64 < length ws
    → covered ws (suc k) q ≡ set ws (q / 64) (with_ones (get_or ws (q / 64) 0) (q % 64) (q % 64 + suc k))
unfolding covered with_code
in_word zero ws q h l = refl
in_word (suc k) ws q h l =
    let j : suc q / 64 ≡ q / 64 = omega arith in
    let m : suc q % 64 ≡ suc (q % 64) = omega arith in
    let x = with_ones (get_or ws (q / 64) 0) (q % 64) (q % 64 + 1) in
    in_word k (with_code ws q) (suc q) (omega arith) (subst (λ (n : ℕ). suc q / 64 < n) (sym (length-set ws (q / 64) x)) (omega arith))
    ∙ ap (λ (i : ℕ). set (with_code ws q) i (with_ones (get_or (with_code ws q) i 0) (suc q % 64) (suc q % 64 + suc k))) j
    ∙ ap (λ (a : ℕ). set (with_code ws q) (q / 64) (with_ones (get_or (with_code ws q) (q / 64) 0) a (a + suc k))) m
    ∙ ap (λ (w : ℕ). set (with_code ws q) (q / 64) (with_ones w (suc (q % 64)) (suc (q % 64) + suc k))) (get_or-set_same ws (q / 64) x 0 l)
    ∙ set-set ws (q / 64) x _
    ∙ ap (set ws (q / 64)) (joined (get_or ws (q / 64) 0) (q % 64) (suc k))

split : (k r : ℕ) (ws : List ℕ) (p : ℕ) → covered ws (k + r) p ≡ covered (covered ws k p) r (p + k)
unfolding covered
split zero r ws p =
    ap (λ (i : ℕ). covered ws i p) (let e : 0 + r ≡ r = omega arith in e) ∙ ap (covered ws r) (let e : p ≡ p + 0 = omega arith in e)
split (suc k) r ws p =
    ap (λ (i : ℕ). covered ws i p) (let e : suc k + r ≡ suc (k + r) = omega arith in e) ∙ split k r (with_code ws p) (suc p)
    ∙ ap (covered (covered (with_code ws p) k (suc p)) r) (let e : suc p + k ≡ p + suc k = omega arith in e)

-- those that stand in one word
pub covered_one : (k : ℕ) (ws : List ℕ) (p : ℕ) → 0 < k → p % 64 + k ≤ 64 → p / 64 < length ws → (w : ℕ)
    → w ≡ with_ones (get_or ws (p / 64) 0) (p % 64) (p % 64 + k) → set ws (p / 64) w ≡ covered ws k p
covered_one zero ws p a h l w e = absurd (omega arith)
covered_one (suc k) ws p a h l w e = ap (set ws (p / 64)) e ∙ sym (in_word k ws p h l)

-- a word ends after 64 bits
clipped : (w a e : ℕ) → 64 ≤ e → with_ones w a e ≡ with_ones w a 64
unfolding with_ones
clipped w a e h =
    digits_same (λ (i : ℕ). one w i || between a e i) (λ (i : ℕ). one w i || between a 64 i) 64 0
    (λ i l k. ap (λ (b : Bool). one w i || (leb a i && b)) (lt-ltb i e (omega arith) ∙ sym (lt-ltb i 64 (omega arith))))

-- those that reach into the next
module _ (ws : List ℕ) (p k : ℕ) (h : 64 < p % 64 + k) (m : k ≤ 64) (l : p / 64 + 1 < length ws) (w : ℕ)
    (e : w ≡ with_ones (get_or ws (p / 64) 0) (p % 64) (p % 64 + k)) where
  abbrev here : ℕ
  here = 64 - p % 64

  abbrev over : ℕ
  over = p % 64 + k - 64

  abbrev begun : List ℕ
  begun = set ws (p / 64) w

  first : begun ≡ covered ws here p
  first =
      covered_one here ws p (omega arith) (omega arith) (omega arith) w
      (e ∙ clipped (get_or ws (p / 64) 0) (p % 64) (p % 64 + k) (omega arith)
      ∙ ap (with_ones (get_or ws (p / 64) 0) (p % 64)) (let g : 64 ≡ p % 64 + here = omega arith in g))

  pub covered_two : (v : ℕ) → v ≡ with_ones (get_or begun (p / 64 + 1) 0) 0 (0 + over) → set begun (p / 64 + 1) v ≡ covered ws k p
  covered_two v f =
      let j : p / 64 + 1 ≡ (p + here) / 64 = omega arith in
      let z : 0 ≡ (p + here) % 64 = omega arith in
      ap (λ (i : ℕ). set begun i v) j
      ∙ covered_one over begun (p + here) (omega arith) (omega arith)
      (subst (λ (n : ℕ). (p + here) / 64 < n) (sym (length-set ws (p / 64) w)) (omega arith)) v
      (f ∙ ap (λ (i : ℕ). with_ones (get_or begun i 0) 0 (0 + over)) j ∙ ap (λ (i : ℕ). with_ones (get_or begun ((p + here) / 64) 0) i (i + over)) z)
      ∙ ap (λ (v : List ℕ). covered v over (p + here)) first
      ∙ sym (split here over ws p)
      ∙ ap (λ (i : ℕ). covered ws i p) (let g : here + over ≡ k = omega arith in g)
