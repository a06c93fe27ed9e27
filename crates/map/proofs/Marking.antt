-- The map in one pass upward: after the positions before p, the bytes of the traced instructions among them are set.
-- Assumes nothing.
use mathlib.Core.Path.{◌≡◌, refl, sym, ap, ap₂, subst, ◌∙◌}
use mathlib.Core.Bool.{Bool, true, false, cond, not, ◌&&◌, ◌||◌, or-false}
use mathlib.Core.List.{List, ◌++◌}
use Prim.Native.Nat.{ℕ, zero, suc, ◌+◌, ◌*◌, ◌<◌, ◌≤◌}
use native.Mathlib.Omega.{arith}
use lib.Dec.{eqb, ltb}
use lib.ListN.{length, get_or, drop, replicate, length-map, length-append, length-replicate, get_or-replicate, get_or-eq_default}
use lib.Seq.{ext_get_or, drop_at}
use borrow.Author.Tests.{lt-ltb, ltb-false}
use Rattle.targets.specs.At.{size_here}
use Rattle.instruction.proofs.Ands.{not_second}
use Rattle.reach.specs.Mark.{traced_mark}
use Rattle.map.specs.Bits.{bit, digits, between}
use Rattle.map.proofs.Digits.{digits_moved}
use Rattle.map.specs.Words.{words_for}
use Rattle.views.specs.Mask.{covers, masked, mask_of}
use Rattle.views.specs.Positions.{up_from, some}
use Rattle.views.proofs.Masking.{mask_length}
use Rattle.views.proofs.Ups.{up_length, up_at, some_snoc, some_none}
use Rattle.map.specs.Packed.{masked_at, word_of, packed, covered}
use Rattle.map.proofs.Packing.{inside, map_by, map_length, map_at, map_same, stretch_more, covered_append}

-- ---- the packing of a mask

module _ (mask : List ℕ) where
  past : (q : ℕ) → masked_at mask q ≡ inside (length mask) (masked_at mask) q
  unfolding inside
  past q = by (ltb q (length mask)) refl
    where
      by : (b : Bool) → ltb q (length mask) ≡ b → masked_at mask q ≡ (b && masked_at mask q)
      by true e = refl
      by false e = ap (λ (x : ℕ). not (eqb x 0)) (get_or-eq_default mask 0 {n = q} (ltb-false q (length mask) e))

  pub packed_by : packed mask ≡ map_by (length mask) (masked_at mask)
  unfolding packed word_of map_by
  packed_by =
      ext_get_or 0 (packed mask) (map_by (length mask) (masked_at mask))
      (length-map (up_from k 0) (word_of mask) ∙ sym (length-map (up_from k 0) (λ (j : ℕ). digits (inside (length mask) (masked_at mask)) 64 (64 * j))))
      (λ j h. let l : j < k = subst (λ (x : ℕ). j < x) (length-map (up_from k 0) (word_of mask) ∙ up_length k 0) h in
      up_at (word_of mask) k 0 j l
      ∙ digits_moved (masked_at mask) (inside (length mask) (masked_at mask)) 64 (64 * (0 + j)) (64 * (0 + j)) (λ i b. past (64 * (0 + j) + i))
      ∙ sym (up_at (λ (i : ℕ). digits (inside (length mask) (masked_at mask)) 64 (64 * i)) k 0 j l))
    where
      k : ℕ
      k = words_for (length mask)

-- ---- one pass

digits_none : (f : ℕ → Bool) (k p : ℕ) → ((i : ℕ) → f i ≡ false) → digits f k p ≡ 0
unfolding digits
digits_none f zero p h = refl
digits_none f (suc k) p h = ap₂ (λ (x : ℕ) (b : Bool). x * 2 + bit b) (digits_none f k (suc p) h) (h p)

bit_back : (b : Bool) → not (eqb (bit b) 0) ≡ b
bit_back true = refl
bit_back false = refl

module _ (image m : List ℕ) where
  abbrev n : ℕ
  n = length image

  -- b is a byte of a traced instruction before p
  abbrev before : ℕ → ℕ → Bool
  before p b = some (covers image m b) (up_from p 0)

  pub Marked : ℕ → List ℕ
  Marked p = map_by n (before p)

  pub marked_length : (p : ℕ) → length (Marked p) ≡ words_for n
  unfolding Marked
  marked_length p = map_length n (before p)

  nothing : (q : ℕ) → inside n (before 0) q ≡ false
  unfolding inside
  nothing q = ap (λ (b : Bool). ltb q n && b) (sym (some_none (covers image m q))) ∙ not_second (ltb q n) false refl

  pub marked_start : replicate (words_for n) 0 ≡ Marked 0
  unfolding Marked
  marked_start =
      ext_get_or 0 (replicate (words_for n) 0) (map_by n (before 0)) (length-replicate (words_for n) 0 ∙ sym (map_length n (before 0)))
      (λ j h. let k : j < words_for n = subst (λ (x : ℕ). j < x) (length-replicate (words_for n) 0) h in
      get_or-replicate (words_for n) j 0 0 k ∙ sym (map_at n (before 0) j k ∙ digits_none (inside n (before 0)) 64 (64 * j) nothing))

  -- the words, once so many of them are cleared
  pub begun : (k : ℕ) (ws lent : List ℕ) → k ≡ words_for n → ws ≡ replicate k 0 ++ drop k lent → (ws ≡ Marked 0 ++ drop k ws) × (drop k ws ≡ drop k lent)
  begun k ws lent e f = (f ∙ ap₂ (λ (xs ys : List ℕ). xs ++ ys) (ap (λ (i : ℕ). replicate i 0) e ∙ marked_start) (sym rest), rest)
    where
      rest : drop k ws ≡ drop k lent
      rest = ap (drop k) f ∙ drop_at (replicate k 0) (drop k lent) k (length-replicate k 0)

  -- one position more
  joins : (p : ℕ) → p < n → (t : Bool) → traced_mark (get_or m p 0) ≡ t → (b : ℕ) → before (p + 1) b ≡ (before p b || (t && between p (p + size_here image p) b))
  joins p h t e b =
      some_snoc (covers image m b) p 0
      ∙ ap (λ (q : ℕ). before p b || covers image m b q) (let g : 0 + p ≡ p = omega arith in g)
      ∙ ap (λ (c : Bool). before p b || (c && between p (p + size_here image p) b)) (ap₂ (λ (x y : Bool). x && y) (lt-ltb p n h) e)

  next : (p : ℕ) → p < n → (t : Bool) → traced_mark (get_or m p 0) ≡ t → (t ≡ true → p + size_here image p ≤ n)
      → cond t (covered (map_by n (before p)) (size_here image p) p) (map_by n (before p)) ≡ map_by n (before (p + 1))
  next p h true e f =
      stretch_more n (before p) (size_here image p) p (f refl)
      ∙ map_same n (λ (b : ℕ). before p b || between p (p + size_here image p) b) (before (p + 1)) (λ b l. sym (joins p h true e b))
  next p h false e f = map_same n (before p) (before (p + 1)) (λ b l. sym (joins p h false e b ∙ or-false (before p b)))

  apart : (t : Bool) (rest : List ℕ) (p : ℕ) → (t ≡ true → p + size_here image p ≤ n)
      → cond t (covered (map_by n (before p) ++ rest) (size_here image p) p) (map_by n (before p) ++ rest)
      ≡ cond t (covered (map_by n (before p)) (size_here image p) p) (map_by n (before p)) ++ rest
  apart true rest p f =
      covered_append (map_by n (before p)) rest (size_here image p) p (let l = map_length n (before p) in let g = f refl in omega arith)
  apart false rest p f = refl

  -- the same with the rest of the words
  pub marked_next : (p : ℕ) → p < n → (traced_mark (get_or m p 0) ≡ true → p + size_here image p ≤ n) → (ws rest : List ℕ) → ws ≡ Marked p ++ rest
      → cond (traced_mark (get_or m p 0)) (covered ws (size_here image p) p) ws ≡ Marked (p + 1) ++ rest
  unfolding Marked
  marked_next p h f ws rest e =
      ap (λ (v : List ℕ). cond (traced_mark (get_or m p 0)) (covered v (size_here image p) p) v) e
      ∙ apart (traced_mark (get_or m p 0)) rest p f
      ∙ ap (λ (v : List ℕ). v ++ rest) (next p h (traced_mark (get_or m p 0)) refl f)

  pub same_size : (p : ℕ) (ws vs rest : List ℕ) → ws ≡ Marked p ++ rest → vs ≡ Marked (p + 1) ++ rest → length vs ≡ length ws
  same_size p ws vs rest e f =
      ap length f ∙ length-append (Marked (p + 1)) rest ∙ ap (λ (k : ℕ). k + length rest) (marked_length (p + 1) ∙ sym (marked_length p))
      ∙ sym (ap length e ∙ length-append (Marked p) rest)

  -- what the mask says of an image byte
  pub mask_at : (b : ℕ) → b < n → masked_at (mask_of image m) b ≡ masked image m b
  unfolding mask_of
  mask_at b h =
      ap (λ (x : ℕ). not (eqb x 0)) (up_at (λ (c : ℕ). bit (masked image m c)) n 0 b h
      ∙ ap (λ (c : ℕ). bit (masked image m c)) (let e : 0 + b ≡ b = omega arith in e))
      ∙ bit_back (masked image m b)

  pub packed_mask : packed (mask_of image m) ≡ map_by n (masked image m)
  packed_mask =
      packed_by (mask_of image m) ∙ ap (λ (k : ℕ). map_by k (masked_at (mask_of image m))) (mask_length image m)
      ∙ map_same n (masked_at (mask_of image m)) (masked image m) mask_at

  pub packed_length : length (packed (mask_of image m)) ≡ words_for n
  packed_length = ap length packed_mask ∙ map_length n (masked image m)

  pub marked_all : Marked n ≡ packed (mask_of image m)
  unfolding Marked masked
  marked_all = sym packed_mask
