-- The table of `I` lines: a bit cleared, and the marks that the table tells.
-- Assumes nothing.
use mathlib.Core.Path.{◌≡◌, refl, sym, ap, ap₂, ◌∙◌}
use mathlib.Core.Bool.{Bool, true, false, cond, not, ◌&&◌, ◌||◌}
use mathlib.Core.List.{List}
use Prim.Native.Nat.{ℕ, ◌+◌, ◌-◌, ◌/◌, ◌%◌, ◌^◌, ◌≤◌, ◌<◌}
use Prim.Native.Char.{code}
use native.Mathlib.Omega.{arith}
use borrow.Author.Tests.{le-leb, lt-leb, lt-ltb, le-ltb, eqb-true, eqb-false, eq-eqb, ne_eqb, ltb-true, ltb-false}
use lib.Dec.{eqb, ltb, leb}
use lib.ListN.{length, get_or, set, replicate, length-map, length-set, length-replicate, get_or-replicate}
use lib.Seq.{get_or-set_same, get_or-set_other, ext_get_or}
use Rattle.instruction.proofs.Ands.{not_second}
use Rattle.map.specs.Bits.{one, between, with_ones}
use Rattle.map.specs.Words.{code_at, data_at}
use Rattle.map.proofs.Digits.{one_digits, digits_same, digits_all, not_digits}
use Rattle.map.proofs.Stretches.{ones_one}
use Rattle.views.specs.Positions.{up_from}
use Rattle.views.proofs.Ups.{up_length, up_at}
use Rattle.read_back.specs.Noted.{with_zeros, with_noted, noted_by, marks_in}
use Rattle.read_back.specs.Sheet.{marked_by}
use Rattle.read_back.specs.declared.place.Record.{Record}

-- ---- one word

not_or : (a b : Bool) → not (not a || b) ≡ (a && not b)
not_or true b = refl
not_or false b = refl

one_not : (w i : ℕ) → w < 2 ^ 64 → i < 64 → one (2 ^ 64 - 1 - w) i ≡ not (one w i)
one_not w i h k =
    ap (λ (x : ℕ). one (2 ^ 64 - 1 - x) i) (sym (digits_all w 64 h))
    ∙ ap (λ (x : ℕ). one x i) (not_digits (one w) 64 0)
    ∙ one_digits (λ (j : ℕ). not (one w j)) 64 0 i k
    ∙ ap (λ (j : ℕ). not (one w j)) (let e : 0 + i ≡ i = omega arith in e)

-- bits cleared by setting them in the word turned over
pub zeros_by : (w a e : ℕ) → w < 2 ^ 64 → 2 ^ 64 - 1 - with_ones (2 ^ 64 - 1 - w) a e ≡ with_zeros w a e
unfolding with_ones with_zeros
zeros_by w a e h =
    not_digits (λ (i : ℕ). one (2 ^ 64 - 1 - w) i || between a e i) 64 0
    ∙ digits_same _ _ 64 0 (λ i l k. ap (λ (b : Bool). not (b || between a e i)) (one_not w i h (omega arith)) ∙ not_or (one w i) (between a e i))

-- ---- one bit of the table

-- the bit of q in its word
own : (q i : ℕ) → i / 64 ≡ q / 64 → between (q % 64) (q % 64 + 1) (i % 64) ≡ eqb i q
own q i w = by (eqb i q) refl (ltb (i % 64) (q % 64)) refl
  where
    by : (t : Bool) → eqb i q ≡ t → (u : Bool) → ltb (i % 64) (q % 64) ≡ u → between (q % 64) (q % 64 + 1) (i % 64) ≡ t
    by true e u f =
        let d : i ≡ q = eqb-true i q e in
        ap₂ (λ (a b : Bool). a && b) (le-leb (q % 64) (i % 64) (omega arith)) (lt-ltb (i % 64) (q % 64 + 1) (omega arith))
    by false e true f = ap (λ (a : Bool). a && ltb (i % 64) (q % 64 + 1)) (lt-leb (q % 64) (i % 64) (ltb-true (i % 64) (q % 64) f))
    by false e false f =
        let g : q % 64 ≤ i % 64 = ltb-false (i % 64) (q % 64) f in
        let d : i ≡ q → ⊥ = eqb-false i q e in
        ap (λ (a : Bool). leb (q % 64) (i % 64) && a) (le-ltb (i % 64) (q % 64 + 1) (omega arith)) ∙ not_second (leb (q % 64) (i % 64)) false refl

and_true : (b : Bool) → (b && true) ≡ b
and_true true = refl
and_true false = refl

noted_at : (ws : List ℕ) (q i : ℕ) → q / 64 < length ws → code_at (with_noted q ws) i ≡ (code_at ws i && not (eqb i q))
unfolding code_at with_noted with_zeros
noted_at ws q i h = by (eqb (i / 64) (q / 64)) refl
  where
    word : ℕ
    word = with_zeros (get_or ws (q / 64) 0) (q % 64) (q % 64 + 1)

    by : (b : Bool) → eqb (i / 64) (q / 64) ≡ b → one (get_or (set ws (q / 64) word) (i / 64) 0) (i % 64) ≡ (one (get_or ws (i / 64) 0) (i % 64) && not (eqb i q))
    by true e =
        let d : i / 64 ≡ q / 64 = eqb-true (i / 64) (q / 64) e in
        ap (λ (j : ℕ). one (get_or (set ws (q / 64) word) j 0) (i % 64)) d
        ∙ ap (λ (w : ℕ). one w (i % 64)) (get_or-set_same ws (q / 64) word 0 h)
        ∙ one_digits _ 64 0 (i % 64) (omega arith)
        ∙ ap (λ (j : ℕ). one (get_or ws (q / 64) 0) j && not (between (q % 64) (q % 64 + 1) j)) (let f : 0 + i % 64 ≡ i % 64 = omega arith in f)
        ∙ ap₂ (λ (j : ℕ) (b : Bool). one (get_or ws j 0) (i % 64) && not b) (sym d) (own q i d)
    by false e =
        let d : i / 64 ≡ q / 64 → ⊥ = eqb-false (i / 64) (q / 64) e in
        ap (λ (w : ℕ). one w (i % 64)) (get_or-set_other ws (q / 64) (i / 64) word 0 d)
        ∙ sym (ap (λ (b : Bool). one (get_or ws (i / 64) 0) (i % 64) && not b) (ne_eqb i q (λ f. d (ap (λ (k : ℕ). k / 64) f))) ∙ and_true _)

-- ---- the marks

pub marks_length : (ws : List ℕ) (n : ℕ) → length (marks_in ws n) ≡ n
unfolding marks_in
marks_length ws n = length-map (up_from n 0) _ ∙ up_length n 0

pub marks_at : (ws : List ℕ) (n i : ℕ) → i < n → get_or (marks_in ws n) i 0 ≡ cond (data_at ws i) 2 0
unfolding marks_in
marks_at ws n i h = up_at (λ (q : ℕ). cond (data_at ws q) 2 0) n 0 i h ∙ ap (λ (q : ℕ). cond (data_at ws q) 2 0) (let e : 0 + i ≡ i = omega arith in e)

-- no position is noted at first
pub marks_none : (n : ℕ) → n ≤ 65536 → marks_in (replicate 1024 0xFFFFFFFFFFFFFFFF) n ≡ replicate n 0
unfolding code_at
marks_none n h =
    ext_get_or 0 _ _ (marks_length _ n ∙ sym (length-replicate {A = ℕ} n 0))
    (λ i l. let k : i < n = omega (arith, l, marks_length (replicate 1024 0xFFFFFFFFFFFFFFFF) n) in
    marks_at _ n i k
    ∙ ap (λ (w : ℕ). cond (not (one w (i % 64))) 2 0) (get_or-replicate 1024 (i / 64) 0xFFFFFFFFFFFFFFFF 0 (omega arith))
    ∙ ap (λ (b : Bool). cond (not b) 2 0) (ones_one 64 (i % 64) ∙ lt-ltb (i % 64) 64 (omega arith))
    ∙ sym (get_or-replicate n i 0 0 k))

module _ (ws : List ℕ) (n q : ℕ) (w : length ws ≡ 1024) (h : q < 65536) where
  marked_at : (i : ℕ) → i < n → (b : Bool) → eqb i q ≡ b → cond (not (code_at ws i && not b)) 2 0 ≡ get_or (set (marks_in ws n) q 2) i 0
  marked_at i k true e =
      let d : i ≡ q = eqb-true i q e in
      ap (λ (b : Bool). cond (not b) 2 0) (not_second (code_at ws i) false refl)
      ∙ sym (ap (λ (j : ℕ). get_or (set (marks_in ws n) q 2) j 0) d ∙ get_or-set_same (marks_in ws n) q 2 0 (omega (arith, marks_length ws n)))
  marked_at i k false e =
      ap (λ (b : Bool). cond (not b) 2 0) (and_true (code_at ws i))
      ∙ sym (get_or-set_other (marks_in ws n) q i 2 0 (eqb-false i q e) ∙ marks_at ws n i k)

  marks_more : marks_in (with_noted q ws) n ≡ set (marks_in ws n) q 2
  marks_more =
      ext_get_or 0 _ _ (marks_length _ n ∙ sym (length-set (marks_in ws n) q 2 ∙ marks_length ws n))
      (λ i l. let k : i < n = omega (arith, l, marks_length (with_noted q ws) n) in
      marks_at _ n i k ∙ ap (λ (b : Bool). cond (not b) 2 0) (noted_at ws q i (omega (arith, w))) ∙ marked_at i k (eqb i q) refl)

-- a line more
module _ (r : Record) (ws : List ℕ) where
  pub noted_marks : (n : ℕ) → length ws ≡ 1024 → r.position < 65536 → marks_in (noted_by r ws) n ≡ marked_by r (marks_in ws n)
  noted_marks n w h = by (eqb r.letter (code "I"))
    where
      by : (b : Bool) → marks_in (cond b (with_noted r.position ws) ws) n ≡ cond b (set (marks_in ws n) r.position 2) (marks_in ws n)
      by true = marks_more ws n r.position w h
      by false = refl

  pub noted_wide : length (noted_by r ws) ≡ length ws
  unfolding with_noted
  noted_wide = by (eqb r.letter (code "I"))
    where
      by : (b : Bool) → length (cond b (with_noted r.position ws) ws) ≡ length ws
      by true = length-set ws (r.position / 64) _
      by false = refl

  -- as it is written
  pub noted : r.letter ≡ code "I" → (x : ℕ) → get_or ws (r.position / 64) 0 < 2 ^ 64
      → x ≡ with_ones (2 ^ 64 - 1 - get_or ws (r.position / 64) 0) (r.position % 64) (r.position % 64 + 1)
      → set ws (r.position / 64) (2 ^ 64 - 1 - x) ≡ noted_by r ws
  unfolding with_noted
  noted e x h f = rw (eq-eqb r.letter (code "I") e, f, zeros_by (get_or ws (r.position / 64) 0) (r.position % 64) (r.position % 64 + 1) h)

  pub unnoted : (r.letter ≡ code "I" → ⊥) → ws ≡ noted_by r ws
  unnoted n = rw (ne_eqb r.letter (code "I") n)
