-- Bytes in hex, written pair by pair: each byte b as f b.
-- Assumes nothing.
use mathlib.Core.Path.{◌≡◌, refl, sym, ap, subst, ◌∙◌}
use mathlib.Core.Bool.{Bool, true, false}
use mathlib.Core.List.{List, [], ◌∷◌, map}
use Prim.Native.Nat.{ℕ, suc, ◌+◌, ◌-◌, ◌*◌, ◌/◌, ◌≤◌, ◌<◌}
use native.Mathlib.Numerals.{add-one}
use native.Mathlib.Omega.{arith}
use lib.Dec.{ltb}
use lib.ListN.{length, get_or, set, drop, length-set}
use lib.Seq.{sets, set_out}
use borrow.Author.Tests.{ltb-true, ltb-false}
use Rattle.text.specs.Bytes.{bytes_of}
use Rattle.text.specs.Hex.{digit_of}
use Rattle.text.proofs.Pairs.{pair_next, pair_end}

-- past the end nothing is written
pub sets_past : (room : List ℕ) (n : ℕ) (bs : List ℕ) → length room ≤ n → sets room n bs ≡ room
sets_past room n [] h = refl
sets_past room n (b ∷ bs) h = ap (λ (l : List ℕ). sets l (suc n) bs) (set_out room n b h) ∙ sets_past room (suc n) bs (omega arith)

pub as_they_are : (bs : List ℕ) → map (λ (b : ℕ). b) bs ≡ bs
as_they_are [] = refl
as_they_are (b ∷ bs) = ap (λ (l : List ℕ). b ∷ l) (as_they_are bs)

module _ (f : ℕ → ℕ) where
  -- what remains of the digits, written from here, is all of them written
  pub record Putting (digits room₀ : List ℕ) (at : ℕ) (room : List ℕ) (i n : ℕ) : Type 0 where
    pub ahead : 1 ≤ i
    pub same : length room ≡ length room₀
    pub rest : sets room n (map f (bytes_of (drop (i - 1) digits))) ≡ sets room₀ at (map f (bytes_of digits))

  module _ (digits room₀ : List ℕ) (at : ℕ) where
    pub put_start : Putting digits room₀ at room₀ 1 at
    put_start = record { ahead = omega arith; same = refl; rest = refl }

    module _ (room : List ℕ) (i n : ℕ) (p : Putting digits room₀ at room i n) where
      pub put_next : i < length digits → (x : ℕ) → x ≡ f (digit_of (get_or digits (i - 1) 0) * 16 + digit_of (get_or digits i 0))
          → Putting digits room₀ at (set room n x) (i + 2) (n + 1)
      put_next k x e =
          let c = pair_next digits i p.ahead k in
          record {
            ahead = omega arith;
            same = length-set room n x ∙ p.same;
            rest = rw (add-one, e) (sym (ap (λ (bs : List ℕ). sets room n (map f bs)) c) ∙ p.rest);
          }

      pub put_end : length digits ≤ i → room ≡ sets room₀ at (map f (bytes_of digits))
      put_end k = sym (ap (λ (bs : List ℕ). sets room n (map f bs)) (pair_end digits i p.ahead k)) ∙ p.rest

      -- the room is full
      pub put_full : length room ≤ n → room ≡ sets room₀ at (map f (bytes_of digits))
      put_full k = sym (sets_past room n (map f (bytes_of (drop (i - 1) digits))) k) ∙ p.rest

    -- by the number of bytes written so far
    pub put_none : Putting digits room₀ at room₀ (2 * 0 + 1) (at + 0)
    put_none = let a : at ≡ at + 0 = omega arith in subst (λ (m : ℕ). Putting digits room₀ at room₀ 1 m) a put_start

    module _ (room : List ℕ) (i : ℕ) (p : Putting digits room₀ at room (2 * i + 1) (at + i)) where
      pub put_byte : 2 * i + 1 < length digits → (x : ℕ) → x ≡ f (digit_of (get_or digits (2 * i) 0) * 16 + digit_of (get_or digits (2 * i + 1) 0))
          → Putting digits room₀ at (set room (at + i) x) (2 * (i + 1) + 1) (at + (i + 1))
      put_byte k x e =
          let a : 2 * i ≡ 2 * i + 1 - 1 = omega arith in
          let b : 2 * i + 1 + 2 ≡ 2 * (i + 1) + 1 = omega arith in
          let c : at + i + 1 ≡ at + (i + 1) = omega arith in
          let n = put_next room (2 * i + 1) (at + i) p k x (e ∙ ap (λ (j : ℕ). f (digit_of (get_or digits j 0) * 16 + digit_of (get_or digits (2 * i + 1) 0))) a) in
          subst (λ (m : ℕ). Putting digits room₀ at (set room (at + i) x) (2 * (i + 1) + 1) m) c
          (subst (λ (j : ℕ). Putting digits room₀ at (set room (at + i) x) j (at + i + 1)) b n)

      -- as many as there are, or as there is room for
      pub put_all : (n : ℕ) → i ≤ n → n ≤ i → (n < length digits / 2 → length room₀ ≤ at + n) → n ≤ length digits / 2
          → room ≡ sets room₀ at (map f (bytes_of digits))
      put_all n h k full few = by (ltb n (length digits / 2)) refl
        where
          by : (t : Bool) → ltb n (length digits / 2) ≡ t → room ≡ sets room₀ at (map f (bytes_of digits))
          by true e =
              let l = full (ltb-true n (length digits / 2) e) in
              put_full room (2 * i + 1) (at + i) p (omega (arith, p.same, l))
          by false e =
              let l = ltb-false n (length digits / 2) e in
              put_end room (2 * i + 1) (at + i) p (omega (arith, l))
