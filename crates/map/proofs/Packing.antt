-- A map by its positions: which bits it has, and one more of them.
-- Assumes nothing.
use mathlib.Core.Path.{◌≡◌, refl, sym, ap, ap₂, subst, ◌∙◌}
use mathlib.Core.Bool.{Bool, true, false, ◌&&◌, ◌||◌, or-false}
use mathlib.Core.List.{List, ◌++◌, map}
use Prim.Native.Nat.{ℕ, zero, suc, ◌+◌, ◌*◌, ◌/◌, ◌%◌, ◌<◌, ◌≤◌}
use native.Mathlib.Omega.{arith}
use lib.Dec.{eqb, ltb, leb}
use lib.ListN.{length, get_or, set, length-map, length-set, get_or-append}
use lib.Seq.{get_or-set_same, get_or-set_other, ext_get_or, set-append_left}
use borrow.Author.Tests.{lt-ltb, le-ltb, le-leb, lt-leb, ne_eqb, eqb-true, eqb-false, ltb-true, ltb-false, leb-true, leb-false}
use Rattle.instruction.proofs.Ands.{not_second}
use Rattle.map.specs.Bits.{one, between, digits, with_ones}
use Rattle.map.proofs.Digits.{one_digits, digits_moved}
use Rattle.map.specs.Words.{words_for}
use Rattle.views.specs.Positions.{up_from}
use Rattle.views.proofs.Ups.{up_length, up_at}
use Rattle.map.specs.Packed.{with_code, covered}

or_and : (a b : Bool) → ((a && b) || false) ≡ (a && (b || false))
or_and true b = refl
or_and false b = refl

pub or_assoc : (a b c : Bool) → ((a || b) || c) ≡ (a || (b || c))
or_assoc true b c = refl
or_assoc false b c = refl

-- a stretch is its first position and the rest
pub begins : (p k i : ℕ) (t : Bool) → eqb i p ≡ t → (t || between (suc p) (suc p + k) i) ≡ between p (p + suc k) i
begins p k i true e =
    let d : i ≡ p = eqb-true i p e in
    sym (ap₂ (λ (a b : Bool). a && b) (le-leb p i (omega arith)) (lt-ltb i (p + suc k) (omega arith)))
begins p k i false e = ap₂ (λ (a b : Bool). a && b) (by (leb p i) refl) (ap (ltb i) (let g : suc p + k ≡ p + suc k = omega arith in g))
  where
    by : (b : Bool) → leb p i ≡ b → leb (suc p) i ≡ b
    by true g = le-leb (suc p) i (let l = leb-true p i g in let d : i ≡ p → ⊥ = eqb-false i p e in omega arith)
    by false g = lt-leb (suc p) i (let l = leb-false p i g in omega arith)

pub begins_none : (p i : ℕ) → between p (p + 0) i ≡ false
begins_none p i = by (leb p i) refl
  where
    by : (b : Bool) → leb p i ≡ b → (b && ltb i (p + 0)) ≡ false
    by true e = le-ltb i (p + 0) (let g = leb-true p i e in omega arith)
    by false e = refl

-- inside an image of n bytes, and passing the test
unfoldable pub inside : ℕ → (ℕ → Bool) → ℕ → Bool
inside n f q = ltb q n && f q

-- the map of n positions with 1 at those that pass a test
unfoldable pub map_by : ℕ → (ℕ → Bool) → List ℕ
map_by n f = map (λ (j : ℕ). digits (inside n f) 64 (64 * j)) (up_from (words_for n) 0)

module _ (n : ℕ) where
  pub map_length : (f : ℕ → Bool) → length (map_by n f) ≡ words_for n
  unfolding map_by
  map_length f = length-map (up_from (words_for n) 0) (λ (j : ℕ). digits (inside n f) 64 (64 * j)) ∙ up_length (words_for n) 0

  pub map_at : (f : ℕ → Bool) (j : ℕ) → j < words_for n → get_or (map_by n f) j 0 ≡ digits (inside n f) 64 (64 * j)
  unfolding map_by
  map_at f j h =
      up_at (λ (i : ℕ). digits (inside n f) 64 (64 * i)) (words_for n) 0 j h
      ∙ ap (λ (i : ℕ). digits (inside n f) 64 (64 * i)) (let e : 0 + j ≡ j = omega arith in e)

  inside_same : (f g : ℕ → Bool) → ((q : ℕ) → q < n → f q ≡ g q) → (q : ℕ) → inside n f q ≡ inside n g q
  unfolding inside
  inside_same f g e q = by (ltb q n) refl
    where
      by : (b : Bool) → ltb q n ≡ b → (b && f q) ≡ (b && g q)
      by true t = e q (ltb-true q n t)
      by false t = refl

  -- the same bits, the same map
  pub map_same : (f g : ℕ → Bool) → ((q : ℕ) → q < n → f q ≡ g q) → map_by n f ≡ map_by n g
  map_same f g e =
      ext_get_or 0 (map_by n f) (map_by n g) (map_length f ∙ sym (map_length g))
      (λ j h. let k : j < words_for n = subst (λ (x : ℕ). j < x) (map_length f) h in
      map_at f j k ∙ digits_moved (inside n f) (inside n g) 64 (64 * j) (64 * j) (λ i l. inside_same f g e (64 * j + i)) ∙ sym (map_at g j k))

  -- ---- one more bit

  module _ (f : ℕ → Bool) (q : ℕ) (h : q < n) where
    abbrev more : ℕ → Bool
    more i = f i || eqb i q

    -- at each position, by whether it is q
    joined : (i : ℕ) (t : Bool) → eqb i q ≡ t → (inside n f i || t) ≡ inside n more i
    unfolding inside
    joined i true e = rw (e, lt-ltb i n (let d : i ≡ q = eqb-true i q e in omega arith))
    joined i false e = rw e (or_and (ltb i n) (f i))

    other : (i : ℕ) → (i ≡ q → ⊥) → inside n f i ≡ inside n more i
    other i d = sym (or-false (inside n f i)) ∙ joined i false (ne_eqb i q d)

    -- the bit of q in its word
    own : (i : ℕ) → i < 64 → between (q % 64) (q % 64 + 1) i ≡ eqb (64 * (q / 64) + i) q
    own i l = by (eqb (64 * (q / 64) + i) q) refl
      where
        by : (t : Bool) → eqb (64 * (q / 64) + i) q ≡ t → between (q % 64) (q % 64 + 1) i ≡ t
        by true e =
            let d : 64 * (q / 64) + i ≡ q = eqb-true (64 * (q / 64) + i) q e in
            ap₂ (λ (a b : Bool). a && b) (le-leb (q % 64) i (omega arith)) (lt-ltb i (q % 64 + 1) (omega arith))
        by false e =
            let d : 64 * (q / 64) + i ≡ q → ⊥ = eqb-false (64 * (q / 64) + i) q e in
            side (ltb i (q % 64)) refl d
          where
            side : (b : Bool) → ltb i (q % 64) ≡ b → (64 * (q / 64) + i ≡ q → ⊥) → between (q % 64) (q % 64 + 1) i ≡ false
            side true g d = ap (λ (a : Bool). a && ltb i (q % 64 + 1)) (lt-leb (q % 64) i (ltb-true i (q % 64) g))
            side false g d =
                let k : q % 64 ≤ i = ltb-false i (q % 64) g in
                ap (λ (a : Bool). leb (q % 64) i && a) (le-ltb i (q % 64 + 1) (omega arith)) ∙ not_second (leb (q % 64) i) false refl

    word : ℕ → ℕ
    word j = with_ones (digits (inside n f) 64 (64 * j)) (q % 64) (q % 64 + 1)

    own_word : word (q / 64) ≡ digits (inside n more) 64 (64 * (q / 64))
    unfolding word with_ones
    own_word =
        digits_moved (λ (i : ℕ). one (digits (inside n f) 64 (64 * (q / 64))) i || between (q % 64) (q % 64 + 1) i) (inside n more) 64 0 (64 * (q / 64))
        (λ i l. ap (λ (k : ℕ). one (digits (inside n f) 64 (64 * (q / 64))) k || between (q % 64) (q % 64 + 1) k) (let e : 0 + i ≡ i = omega arith in e)
        ∙ ap₂ (λ (a b : Bool). a || b) (one_digits (inside n f) 64 (64 * (q / 64)) i l) (own i l)
        ∙ joined (64 * (q / 64) + i) (eqb (64 * (q / 64) + i) q) refl)

    other_word : (j : ℕ) → (j ≡ q / 64 → ⊥) → digits (inside n f) 64 (64 * j) ≡ digits (inside n more) 64 (64 * j)
    other_word j d = digits_moved (inside n f) (inside n more) 64 (64 * j) (64 * j) (λ i l. other (64 * j + i) (λ e. d (omega arith)))

    at_word : (j : ℕ) → j < words_for n → (t : Bool) → eqb j (q / 64) ≡ t → get_or (with_code (map_by n f) q) j 0 ≡ digits (inside n more) 64 (64 * j)
    unfolding with_code word
    at_word j k true e =
        let d : j ≡ q / 64 = eqb-true j (q / 64) e in
        ap (λ (i : ℕ). get_or (with_code (map_by n f) q) i 0) d
        ∙ get_or-set_same (map_by n f) (q / 64) _ 0 (subst (λ (x : ℕ). q / 64 < x) (sym (map_length f)) (omega arith))
        ∙ ap (λ (w : ℕ). with_ones w (q % 64) (q % 64 + 1)) (map_at f (q / 64) (omega arith))
        ∙ own_word ∙ ap (λ (i : ℕ). digits (inside n more) 64 (64 * i)) (sym d)
    at_word j k false e =
        let d : j ≡ q / 64 → ⊥ = eqb-false j (q / 64) e in
        get_or-set_other (map_by n f) (q / 64) j _ 0 d ∙ map_at f j k ∙ other_word j d

    code_length : length (with_code (map_by n f) q) ≡ words_for n
    unfolding with_code
    code_length = length-set (map_by n f) (q / 64) _ ∙ map_length f

    pub one_more_lem : with_code (map_by n f) q ≡ map_by n more
    one_more_lem =
        ext_get_or 0 (with_code (map_by n f) q) (map_by n more) (code_length ∙ sym (map_length more))
        (λ j l. let k : j < words_for n = subst (λ (x : ℕ). j < x) code_length l in
        at_word j k (eqb j (q / 64)) refl ∙ sym (map_at more j k))

  -- a stretch of bits more
  pub stretch_more : (f : ℕ → Bool) (k p : ℕ) → p + k ≤ n → covered (map_by n f) k p ≡ map_by n (λ (i : ℕ). f i || between p (p + k) i)
  unfolding covered
  stretch_more f zero p h = map_same f (λ (i : ℕ). f i || between p (p + 0) i) (λ i l. sym (ap (λ (b : Bool). f i || b) (begins_none p i) ∙ or-false (f i)))
  stretch_more f (suc k) p h =
      ap (λ (ws : List ℕ). covered ws k (suc p)) (one_more_lem f p (omega arith))
      ∙ stretch_more (λ (i : ℕ). f i || eqb i p) k (suc p) (omega arith)
      ∙ map_same (λ (i : ℕ). (f i || eqb i p) || between (suc p) (suc p + k) i) (λ (i : ℕ). f i || between p (p + suc k) i) (λ i l. both i)
    where
      both : (i : ℕ) → ((f i || eqb i p) || between (suc p) (suc p + k) i) ≡ (f i || between p (p + suc k) i)
      both i = or_assoc (f i) (eqb i p) _ ∙ ap (λ (b : Bool). f i || b) (begins p k i (eqb i p) refl)

-- what stands past the words of a map stays
pub covered_append : (xs ys : List ℕ) (k p : ℕ) → p + k ≤ 64 * length xs → covered (xs ++ ys) k p ≡ covered xs k p ++ ys
unfolding covered with_code
covered_append xs ys zero p h = refl
covered_append xs ys (suc k) p h =
    ap (λ (ws : List ℕ). covered ws k (suc p))
    (ap (λ (w : ℕ). set (xs ++ ys) (p / 64) (with_ones w (p % 64) (p % 64 + 1))) (get_or-append xs ys 0 (p / 64) (omega arith))
    ∙ set-append_left xs ys (p / 64) _ (omega arith))
    ∙ covered_append (with_code xs p) ys k (suc p) (let e = length-set xs (p / 64) (with_ones (get_or xs (p / 64) 0) (p % 64) (p % 64 + 1)) in omega arith)

pub covered_length : (ws : List ℕ) (k p : ℕ) → length (covered ws k p) ≡ length ws
unfolding covered with_code
covered_length ws zero p = refl
covered_length ws (suc k) p = covered_length (with_code ws p) k (suc p) ∙ length-set ws (p / 64) _
