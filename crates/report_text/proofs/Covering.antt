-- How many traced instructions have a byte: counted upward, of those that begin before p only these matter that have p or the byte after it.
-- Assumes nothing.
use mathlib.Core.Path.{◌≡◌, refl, sym, ap, ap₂, ◌∙◌}
use mathlib.Core.Bool.{Bool, true, false, cond, ◌&&◌}
use mathlib.Core.List.{List}
use Prim.Native.Nat.{ℕ, ◌+◌, ◌<◌, ◌≤◌}
use native.Mathlib.Nat.{zero-add}
use native.Mathlib.Omega.{arith}
use lib.Dec.{ltb, leb}
use lib.ListN.{length, get_or}
use mir.Val.{bool_byte}
use borrow.Author.Tests.{lt-ltb, le-ltb, ltb-true, ltb-false, le-leb, lt-leb}
use Rattle.instruction.proofs.Ands.{not_first, not_second}
use Rattle.reach.specs.Mark.{traced_mark, count}
use Rattle.targets.specs.At.{size_here}
use Rattle.targets.proofs.Within.{Small, size_short}
use Rattle.views.specs.Positions.{up_from, positions, traced_at}
use Rattle.views.specs.Mask.{under, covers, masked, mask_of}
use Rattle.report_text.specs.Figures.{code_bytes, is_shared, shared_bytes}
use Rattle.report_text.proofs.Counts.{count_bits, count_kept, count_some, count_none, count_snoc, count_front, count_most}

-- two ways to say more than so many
more : (d k : ℕ) → ltb d k ≡ leb (d + 1) k
more d k = by (ltb d k) refl
  where
    by : (t : Bool) → ltb d k ≡ t → t ≡ leb (d + 1) k
    by true e = sym (le-leb (d + 1) k (let h = ltb-true d k e in omega arith))
    by false e = sym (lt-leb (d + 1) k (let h = ltb-false d k e in omega arith))

module _ (image m : List ℕ) where
  -- how many of the first k positions are traced with b as a byte of their instruction
  abbrev pub over : ℕ → ℕ → ℕ
  over k b = count (covers image m b) (up_from k 0)

  -- how many bytes are counted at p
  abbrev pub size_in : ℕ → ℕ
  size_in p = cond (traced_mark (get_or m p 0)) (size_here image p) 0

  pub untraced_size : (p : ℕ) → traced_mark (get_or m p 0) ≡ false → 0 ≡ size_in p
  untraced_size p e = rw e

  pub traced_size : (p : ℕ) → traced_mark (get_or m p 0) ≡ true → size_here image p ≡ size_in p
  traced_size p e = rw e

  -- the bytes of the instruction at p
  has : (p d : ℕ) → p < length image → covers image m (p + d) p ≡ ltb d (size_in p)
  has p d h = rw (lt-ltb p (length image) h, le-leb p (p + d) (omega arith)) (by (traced_mark (get_or m p 0)))
    where
      shift : (t : Bool) → ltb d (size_here image p) ≡ t → ltb (p + d) (p + size_here image p) ≡ t
      shift true e = lt-ltb (p + d) (p + size_here image p) (let g = ltb-true d (size_here image p) e in omega arith)
      shift false e = le-ltb (p + d) (p + size_here image p) (let g = ltb-false d (size_here image p) e in omega arith)

      by : (t : Bool) → (t && ltb (p + d) (p + size_here image p)) ≡ ltb d (cond t (size_here image p) 0)
      by true = shift (ltb d (size_here image p)) refl
      by false = sym (le-ltb d 0 (omega arith))

  -- a byte before p or three after it is none of its bytes
  not_before : (b p : ℕ) → b < p → covers image m b p ≡ false
  not_before b p h = not_second (traced_at image m p) (under image b p) (not_first (leb p b) (ltb b (p + size_here image p)) (lt-leb p b h))

  not_after : Small image → (b p : ℕ) → p + 3 ≤ b → covers image m b p ≡ false
  not_after s b p h =
      not_second (traced_at image m p) (under image b p)
      (not_second (leb p b) (ltb b (p + size_here image p)) (le-ltb b (p + size_here image p) (let k = (size_short image p s).1 in omega arith)))

  over_next : (p d : ℕ) → p < length image → over (p + 1) (p + d) ≡ over p (p + d) + bool_byte (ltb d (size_in p))
  over_next p d h = count_snoc (covers image m (p + d)) p ∙ ap (λ (t : Bool). over p (p + d) + bool_byte t) (has p d h)

  over_all : (p : ℕ) → p < length image → over (length image) p ≡ over (p + 1) p
  over_all p h = count_front (covers image m p) (p + 1) (length image) (omega arith) (λ q k. not_before p q (omega arith))

  masked_over : (b : ℕ) → masked image m b ≡ leb 1 (over (length image) b)
  unfolding masked
  masked_over b = count_some (covers image m b) (positions image)

  shared_over : (b : ℕ) → is_shared image m b ≡ leb 2 (over (length image) b)
  unfolding is_shared
  shared_over b = ap (leb 2) (count_kept (covers image m b) (positions image))

  -- what is counted before p
  pub record Counted (p code shared here next : ℕ) : Type 0 where
    pub inside : p ≤ length image
    pub code_is : code ≡ count (masked image m) (up_from p 0)
    pub shared_is : shared ≡ count (is_shared image m) (up_from p 0)
    pub here_is : here ≡ over p p
    pub next_is : next ≡ over p (p + 1)

  pub counted_start : Counted 0 0 0 0 0
  unfolding count up_from
  counted_start = record { inside = omega arith; code_is = refl; shared_is = refl; here_is = refl; next_is = refl }

  module _ {p code shared here next : ℕ} (C : Counted p code shared here next) where
    pub most : (code ≤ p) × (shared ≤ p) × (here ≤ p) × (next ≤ p)
    most =
        let a = count_most (masked image m) p 0 in
        let b = count_most (is_shared image m) p 0 in
        let c = count_most (covers image m p) p 0 in
        let d = count_most (covers image m (p + 1)) p 0 in
        (omega (arith, C.code_is), omega (arith, C.shared_is), omega (arith, C.here_is), omega (arith, C.next_is))

    module _ (s : Small image) (h : p < length image) (size : ℕ) (e : size ≡ size_in p) where
      abbrev covering : ℕ
      covering = here + bool_byte (ltb 0 size)

      covering_is : covering ≡ over (length image) p
      covering_is =
          ap₂ (λ (x y : ℕ). x + bool_byte (ltb 0 y)) C.here_is e
          ∙ (let z : p ≡ p + 0 = omega arith in
          ap (λ (b : ℕ). over p b + bool_byte (ltb 0 (size_in p))) z ∙ sym (over_next p 0 h) ∙ ap (over (p + 1)) (sym z))
          ∙ sym (over_all p h)

      at_least : (d : ℕ) → ltb d covering ≡ leb (d + 1) (over (length image) p)
      at_least d = ap (ltb d) covering_is ∙ more d (over (length image) p)

      pub counted_next :
          Counted (p + 1) (code + bool_byte (ltb 0 covering)) (shared + bool_byte (ltb 1 covering)) (next + bool_byte (ltb 1 size)) (bool_byte (ltb 2 size))
      counted_next =
          record {
            inside = omega arith;
            code_is =
                ap₂ (λ (x : ℕ) (t : Bool). x + bool_byte t) C.code_is (at_least 0 ∙ sym (masked_over p)) ∙ sym (count_snoc (masked image m) p);
            shared_is =
                ap₂ (λ (x : ℕ) (t : Bool). x + bool_byte t) C.shared_is (at_least 1 ∙ sym (shared_over p)) ∙ sym (count_snoc (is_shared image m) p);
            here_is = ap₂ (λ (x y : ℕ). x + bool_byte (ltb 1 y)) C.next_is e ∙ sym (over_next p 1 h);
            next_is =
                ap (λ (y : ℕ). bool_byte (ltb 2 y)) e ∙ sym (zero-add (bool_byte (ltb 2 (size_in p))))
                ∙ ap (λ (x : ℕ). x + bool_byte (ltb 2 (size_in p))) (sym (count_none (covers image m (p + 2)) p 0 (λ q g k. not_after s (p + 2) q (omega arith))))
                ∙ sym (over_next p 2 h) ∙ ap (over (p + 1)) (let z : p + 2 ≡ p + 1 + 1 = omega arith in z);
          }

  pub counted_end : {p code shared here next : ℕ} → Counted p code shared here next → length image ≤ p
      → (code ≡ code_bytes image m) × (shared ≡ shared_bytes image m)
  unfolding code_bytes shared_bytes mask_of
  counted_end {p = p} C h =
      let e : p ≡ length image = let k = C.inside in omega arith in (
        C.code_is ∙ ap (λ (k : ℕ). count (masked image m) (up_from k 0)) e ∙ sym (count_bits (masked image m) (positions image)),
        C.shared_is ∙ ap (λ (k : ℕ). count (is_shared image m) (up_from k 0)) e,
      )
