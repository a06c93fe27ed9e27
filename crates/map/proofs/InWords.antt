-- The positions of a map and the bits of its words.
-- Assumes nothing.
use mathlib.Core.Path.{◌≡◌, sym, ap, ap₂, ◌∙◌}
use mathlib.Core.Bool.{Bool, true, false, not, ◌&&◌}
use mathlib.Core.List.{List}
use Prim.Native.Nat.{ℕ, ◌+◌, ◌*◌, ◌-◌, ◌/◌, ◌%◌, ◌^◌, ◌<◌, ◌≤◌}
use native.Mathlib.Omega.{arith}
use lib.Count.{ones}
use lib.Dec.{ltb, leb}
use lib.ListN.{get_or}
use borrow.Author.Tests.{lt-ltb, le-ltb, le-leb, lt-leb, leb-true}
use Rattle.instruction.proofs.Ands.{not_second, first_alone, first_part, second_part}
use Rattle.map.specs.Bits.{one, between, count_in, ones_between, first_zero}
use Rattle.map.proofs.Digits.{digits_all, ones_digits}
use Rattle.map.specs.Words.{code_at, data_at}
use Rattle.map.proofs.Runs.{count_add, count_none, count_moved, first_in_lem, first_before, first_hit}

module _ (ws : List ℕ) where
  -- bit i of word j
  pub bit_at : (j i : ℕ) → i < 64 → code_at ws (64 * j + i) ≡ one (get_or ws j 0) i
  unfolding code_at
  bit_at j i h =
      ap₂ (λ (x y : ℕ). one (get_or ws x 0) y) (let e : (64 * j + i) / 64 ≡ j = omega arith in e) (let e : (64 * j + i) % 64 ≡ i = omega arith in e)

  module _ (j : ℕ) where
    abbrev w : ℕ
    w = get_or ws j 0

    -- a stretch of bits is one of positions
    pub in_word : (a e : ℕ) → a ≤ e → e ≤ 64 → ones_between w a e ≡ count_in (code_at ws) (e - a) (64 * j + a)
    unfolding ones_between
    in_word a e h k =
        ap (λ (n : ℕ). count_in f n 0) (let g : 64 ≡ a + (e - a + (64 - e)) = omega arith in g)
        ∙ count_add f a (e - a + (64 - e)) 0
        ∙ ap₂ (λ (x y : ℕ). x + y) (count_none f a 0 before) (count_add f (e - a) (64 - e) (0 + a))
        ∙ ap₂ (λ (x y : ℕ). 0 + (x + y)) (count_moved f (code_at ws) (e - a) (0 + a) (64 * j + a) inside) (count_none f (64 - e) (0 + a + (e - a)) past)
        ∙ (let g : 0 + (count_in (code_at ws) (e - a) (64 * j + a) + 0) ≡ count_in (code_at ws) (e - a) (64 * j + a) = omega arith in g)
      where
        f : ℕ → Bool
        f i = one w i && between a e i

        before : (i : ℕ) → 0 ≤ i → i < 0 + a → f i ≡ false
        before i l m = not_second (one w i) (between a e i) (ap (λ (b : Bool). b && ltb i e) (lt-leb a i (omega arith)))

        past : (i : ℕ) → 0 + a + (e - a) ≤ i → i < 0 + a + (e - a) + (64 - e) → f i ≡ false
        past i l m = not_second (one w i) (between a e i) (not_second (leb a i) (ltb i e) (le-ltb i e (omega arith)))

        inside : (i : ℕ) → i < e - a → f (0 + a + i) ≡ code_at ws (64 * j + a + i)
        inside i l =
            first_alone (one w (0 + a + i)) (between a e (0 + a + i))
            (ap₂ (λ (b c : Bool). b && c) (le-leb a (0 + a + i) (omega arith)) (lt-ltb (0 + a + i) e (omega arith)))
            ∙ sym (bit_at j (0 + a + i) (omega arith))
            ∙ ap (code_at ws) (let g : 64 * j + (0 + a + i) ≡ 64 * j + a + i = omega arith in g)

    pub whole_word : w < 2 ^ 64 → ones w ≡ count_in (code_at ws) 64 (64 * j)
    whole_word h =
        ap ones (sym (digits_all w 64 h)) ∙ ones_digits (one w) 64 0
        ∙ count_moved (one w) (code_at ws) 64 0 (64 * j) (λ i l. ap (one w) (let g : 0 + i ≡ i = omega arith in g) ∙ sym (bit_at j i l))

  -- ---- the first zero of the word of q, from its bit on

  module _ (q : ℕ) where
    abbrev base : ℕ
    base = q / 64 * 64

    abbrev zero_bit : ℕ
    zero_bit = first_zero (get_or ws (q / 64) 0) (q % 64)

    at_word : (i : ℕ) → base ≤ i → i < base + 64 → code_at ws i ≡ one (get_or ws (q / 64) 0) (i - base)
    at_word i l h =
        ap (code_at ws) (let e : i ≡ 64 * (q / 64) + (i - base) = omega arith in e) ∙ bit_at (q / 64) (i - base) (omega arith)

    pub zero_le : zero_bit ≤ 64
    unfolding first_zero
    zero_le = (first_in_lem _ 64 0).1

    -- no position before it is data
    pub quiet : (i : ℕ) → q ≤ i → i < base + zero_bit → data_at ws i ≡ false
    unfolding first_zero
    quiet i l h =
        let z = zero_le in
        ap not (at_word i (omega arith) (omega arith))
        ∙ sym (ap (λ (b : Bool). b && not (one (get_or ws (q / 64) 0) (i - base))) (le-leb (q % 64) (i - base) (omega arith)))
        ∙ first_before (λ (k : ℕ). leb (q % 64) k && not (one (get_or ws (q / 64) 0) k)) 64 0 (i - base) (omega arith) (omega arith)

    -- it is, where there is one
    hits : zero_bit < 64 → (leb (q % 64) zero_bit && not (one (get_or ws (q / 64) 0) zero_bit)) ≡ true
    unfolding first_zero
    hits h = first_hit (λ (k : ℕ). leb (q % 64) k && not (one (get_or ws (q / 64) 0) k)) 64 0 (omega arith)

    pub hit_from : zero_bit < 64 → q ≤ base + zero_bit
    hit_from h = let k = leb-true (q % 64) zero_bit (first_part (leb (q % 64) zero_bit) (not (one (get_or ws (q / 64) 0) zero_bit)) (hits h)) in omega arith

    pub hit_data : zero_bit < 64 → data_at ws (base + zero_bit) ≡ true
    hit_data h =
        ap not (at_word (base + zero_bit) (omega arith) (omega arith)
        ∙ ap (one (get_or ws (q / 64) 0)) (let e : base + zero_bit - base ≡ zero_bit = omega arith in e))
        ∙ second_part (leb (q % 64) zero_bit) (not (one (get_or ws (q / 64) 0) zero_bit)) (hits h)
