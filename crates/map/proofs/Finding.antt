-- The search for the first data byte, word by word.
-- Assumes nothing.
use mathlib.Core.Path.{◌≡◌, refl, ap, subst, ◌∙◌}
use mathlib.Core.Bool.{Bool, true, false, not}
use mathlib.Core.List.{List}
use Prim.Native.Nat.{ℕ, min, ◌+◌, ◌*◌, ◌-◌, ◌/◌, ◌%◌, ◌<◌, ◌≤◌}
use native.Mathlib.Omega.{arith}
use lib.Dec.{ltb}
use lib.ListN.{get_or}
use borrow.Author.Tests.{lt-ltb, ltb-true, ltb-false}
use Rattle.map.specs.Bits.{one, first_in, first_zero}
use Rattle.map.proofs.Stretches.{ones_one}
use Rattle.map.specs.Words.{code_at, data_at, Full}
use Rattle.map.proofs.Runs.{first_is, first_none}
use Rattle.map.proofs.InWords.{bit_at, zero_le, quiet, hit_from, hit_data}

-- ---- words of ones alone

module _ (ws : List ℕ) (to q : ℕ) where
  -- a word more
  pub full_next : (j : ℕ) → Full ws to q (j * 64) → j < to / 64 → get_or ws j 0 ≡ 0xFFFFFFFFFFFFFFFF → Full ws to q ((j + 1) * 64)
  full_next j s h e = record { from = omega (arith, s.from); near = omega arith; code = λ i l k. by i l k (ltb i (j * 64)) refl }
    where
      by : (i : ℕ) → q ≤ i → i < (j + 1) * 64 → (b : Bool) → ltb i (j * 64) ≡ b → code_at ws i ≡ true
      by i l k true t = s.code i l (ltb-true i (j * 64) t)
      by i l k false t =
          let g : j * 64 ≤ i = ltb-false i (j * 64) t in
          ap (code_at ws) (let f : i ≡ 64 * j + (i - j * 64) = omega arith in f)
          ∙ bit_at ws j (i - j * 64) (omega arith)
          ∙ ap (λ (w : ℕ). one w (i - j * 64)) e
          ∙ ones_one 64 (i - j * 64)
          ∙ lt-ltb (i - j * 64) 64 (omega arith)

-- ---- the first data byte

module _ (ws : List ℕ) (from to : ℕ) where
  -- no position from `from` on and before q is data
  pub NoData : ℕ → Type 0
  NoData q = (i : ℕ) → from ≤ i → i < q → data_at ws i ≡ false

  pub none_yet : NoData from
  unfolding NoData
  none_yet i l h = absurd (omega arith)

  abbrev Is : ℕ → Type 0
  Is r = r ≡ first_in (data_at ws) (to - from) from

  pub all_code : from ≤ to → (q : ℕ) → to ≤ q → NoData q → Is to
  unfolding NoData
  all_code l q h N =
      (let e : to ≡ from + (to - from) = omega arith in e) ∙ first_none (data_at ws) (to - from) from (λ i m k. N i m (omega arith))

  module _ (l : from ≤ to) (q : ℕ) (f : from ≤ q) (N : NoData q) (z : ℕ) (e : z ≡ first_zero (get_or ws (q / 64) 0) (q % 64)) where
    -- none before the first zero of the word
    pub none_before : NoData (q / 64 * 64 + z)
    unfolding NoData
    none_before i m h = by (ltb i q) refl
      where
        by : (b : Bool) → ltb i q ≡ b → data_at ws i ≡ false
        by true t = N i m (ltb-true i q t)
        by false t = quiet ws q i (ltb-false i q t) (omega arith)

    found : z < 64 → q / 64 * 64 + z < to → Is (q / 64 * 64 + z)
    unfolding NoData
    found h k =
        let g = hit_from ws q (omega arith) in
        first_is (data_at ws) (to - from) from (q / 64 * 64 + z) (omega arith) (omega arith) none_before (rw e (hit_data ws q (omega arith)))

    past_to : to ≤ q / 64 * 64 + z → Is to
    past_to h = all_code l (q / 64 * 64 + z) h none_before

    -- the first of both
    pub found_or_to : z < 64 → Is (min to (q / 64 * 64 + z))
    found_or_to h = by (ltb (q / 64 * 64 + z) to) refl
      where
        by : (b : Bool) → ltb (q / 64 * 64 + z) to ≡ b → Is (min to (q / 64 * 64 + z))
        by true t =
            let k = ltb-true (q / 64 * 64 + z) to t in
            let e : q / 64 * 64 + z ≡ min to (q / 64 * 64 + z) = omega arith in subst Is e (found h k)
        by false t =
            let k = ltb-false (q / 64 * 64 + z) to t in
            let e : to ≡ min to (q / 64 * 64 + z) = omega arith in subst Is e (past_to k)

    -- none in the word, nor in what was skipped after it
    pub none_skipped : 64 ≤ z → (r : ℕ) → Full ws to (q / 64 * 64 + 64) r → NoData r
    unfolding NoData
    none_skipped h r s i m j = let k = zero_le ws q in by (ltb i (q / 64 * 64 + 64)) refl
      where
        by : (b : Bool) → ltb i (q / 64 * 64 + 64) ≡ b → data_at ws i ≡ false
        by true t = let l = ltb-true i (q / 64 * 64 + 64) t in none_before i m (omega arith)
        by false t = ap not (s.code i (ltb-false i (q / 64 * 64 + 64) t) j)
