-- Bytes and where they end, for the cells of the definition: from the last line's position on, a cell is listed where it stands before the end.
-- Assumes nothing.
use mathlib.Core.Path.{◌≡◌, refl, sym, ap, ap₂, subst, ◌∙◌}
use mathlib.Core.Bool.{Bool, true, false, cond, ◌&&◌, ◌||◌}
use mathlib.Core.List.{List, [], ◌∷◌, map}
use Prim.Native.Nat.{ℕ, zero, suc, ◌+◌, ◌-◌, ◌≤◌, ◌<◌}
use Prim.Native.Char.{code}
use native.Mathlib.Omega.{arith}
use borrow.Author.Tests.{le-ltb, le-leb, lt-leb, ltb-true, ltb-false, eqb-true, eqb-false, eq-eqb, ne_eqb}
use lib.Dec.{eqb, ltb, leb}
use lib.ListN.{length, get_or, set, replicate, length-map}
use lib.Seq.{sets, length-sets, get_or-set_same, get_or-set_other}
use Rattle.instruction.proofs.Ands.{first_part, second_part}
use Rattle.instruction.proofs.Sign.{never}
use Rattle.instruction.specs.declared.mode.Mode.{Mode}
use Rattle.read_back.specs.Line.{letter_on, position_on, is_start, by_letter, is_line, record_of}
use Rattle.read_back.specs.Order.{rank_of, start, follows, place_after}
use Rattle.read_back.specs.Read.{is_good}
use Rattle.read_back.specs.Sheet.{fits, listed_on, agree, reach}
use Rattle.read_back.specs.Turn.{agree_to, far_of, later_of}
use Rattle.read_back.specs.declared.place.Place.{Place}
use Rattle.read_back.specs.declared.place.Record.{Record}

-- ---- the bytes of cells

abbrev pub bytes_in : List ℕ → List ℕ
bytes_in cells = map (λ (c : ℕ). c - 1) cells

pub bytes_at_lem : (cells : List ℕ) (i : ℕ) → get_or (bytes_in cells) i 0 ≡ get_or cells i 0 - 1
bytes_at_lem [] i = refl
bytes_at_lem (c ∷ cells) zero = refl
bytes_at_lem (c ∷ cells) (suc i) = bytes_at_lem cells i

bytes_set : (cells : List ℕ) (i b : ℕ) → bytes_in (set cells i (suc b)) ≡ set (bytes_in cells) i b
bytes_set [] i b = refl
bytes_set (c ∷ cells) zero b = ap (λ (x : ℕ). x ∷ bytes_in cells) (let e : suc b - 1 ≡ b = omega arith in e)
bytes_set (c ∷ cells) (suc i) b = ap (λ (l : List ℕ). (c - 1) ∷ l) (bytes_set cells i b)

bytes_sets : (bs cells : List ℕ) (p : ℕ) → bytes_in (sets cells p (map suc bs)) ≡ sets (bytes_in cells) p bs
bytes_sets [] cells p = refl
bytes_sets (b ∷ bs) cells p = bytes_sets bs (set cells p (suc b)) (suc p) ∙ ap (λ (l : List ℕ). sets l (suc p) bs) (bytes_set cells p b)

-- ---- which cells are listed after a line

set_some : (l : List ℕ) (p b i : ℕ) → 1 ≤ get_or l i 0 → 1 ≤ get_or (set l p (suc b)) i 0
set_some [] p b i h = h
set_some (x ∷ l) zero b zero h = omega arith
set_some (x ∷ l) zero b (suc i) h = h
set_some (x ∷ l) (suc p) b zero h = h
set_some (x ∷ l) (suc p) b (suc i) h = set_some l p b i h

sets_some : (bs l : List ℕ) (p i : ℕ) → 1 ≤ get_or l i 0 → 1 ≤ get_or (sets l p (map suc bs)) i 0
sets_some [] l p i h = h
sets_some (b ∷ bs) l p i h = sets_some bs (set l p (suc b)) (suc p) i (set_some l p b i h)

sets_new : (bs l : List ℕ) (p i : ℕ) → p ≤ i → i < p + length bs → i < length l → 1 ≤ get_or (sets l p (map suc bs)) i 0
sets_new [] l p i h k m = absurd (omega arith)
sets_new (b ∷ bs) l p i h k m =
    by (eqb i p) refl (λ n. sets_new bs (set l p (suc b)) (suc p) i n (omega arith) (omega (arith, m, length-sets l p (suc b ∷ []))))
  where
    by : (t : Bool) → eqb i p ≡ t → (suc p ≤ i → 1 ≤ get_or (sets (set l p (suc b)) (suc p) (map suc bs)) i 0)
        → 1 ≤ get_or (sets (set l p (suc b)) (suc p) (map suc bs)) i 0
    by true e rest =
        let d : i ≡ p = eqb-true i p e in
        sets_some bs (set l p (suc b)) (suc p) i (omega (arith, ap (λ (j : ℕ). get_or (set l p (suc b)) j 0) d, get_or-set_same l p (suc b) 0 (omega arith)))
    by false e rest =
        let d : i ≡ p → ⊥ = eqb-false i p e in
        rest (omega arith)

sets_past : (vs l : List ℕ) (p i : ℕ) → p + length vs ≤ i → get_or (sets l p vs) i 0 ≡ get_or l i 0
sets_past [] l p i h = refl
sets_past (v ∷ vs) l p i h = sets_past vs (set l p v) (suc p) i (omega arith) ∙ get_or-set_other l p i v 0 (λ e. omega arith)

-- ---- how far bytes reach

far_past : (p : ℕ) (bs : List ℕ) (i : ℕ) → p ≤ i → far_of p bs ≤ i → p + length bs ≤ i
far_past p [] i h k = omega arith
far_past p (b ∷ bs) i h k = k

far_before : (p : ℕ) (bs : List ℕ) (i : ℕ) → i < far_of p bs → i < p + length bs
far_before p [] i h = absurd (omega arith)
far_before p (b ∷ bs) i h = h

pub reach_far : (n p : ℕ) (bs : List ℕ) → reach n p bs ≡ ltb n (far_of p bs)
reach_far n p [] = sym (le-ltb n 0 (omega arith))
reach_far n p (b ∷ bs) = refl

later_is : (a b i : ℕ) → (later_of a b ≤ i → (a ≤ i) × (b ≤ i)) × (i < later_of a b → (b ≤ i) → i < a)
later_is a b i = by (ltb a b) refl
  where
    by : (t : Bool) → ltb a b ≡ t → (cond t b a ≤ i → (a ≤ i) × (b ≤ i)) × (i < cond t b a → (b ≤ i) → i < a)
    by true e = let l = ltb-true a b e in (λ h. (omega arith, h), λ h k. absurd (omega arith))
    by false e = let l = ltb-false a b e in (λ h. (h, omega arith), λ h k. h)

later_most : (a b n : ℕ) → a ≤ n → b ≤ n → later_of a b ≤ n
later_most a b n h k = by (ltb a b)
  where
    by : (t : Bool) → cond t b a ≤ n
    by true = k
    by false = h

-- ---- what the image says of the cells

pub record Kept (place : Place) (cells image : List ℕ) (end : ℕ) : Type 0 where
  pub is : image ≡ bytes_in cells
  pub some : (i : ℕ) → place.last ≤ i → i < end → 1 ≤ get_or cells i 0
  pub none : (i : ℕ) → place.last ≤ i → end ≤ i → get_or cells i 0 ≡ 0
  pub inside : end ≤ length image
  pub first : rank_of place.letter ≡ 0 → place.last ≡ 0

-- before the first line
pub kept_none : (n : ℕ) (image : List ℕ) → image ≡ replicate n 0 → Kept start (replicate n 0) image 0
kept_none n image e = record {
  is = e ∙ sym (zeros n);
  some = λ i h l. absurd (omega arith);
  none = λ i h l. nothing n i;
  inside = omega arith;
  first = λ z. refl;
}
  where
    zeros : (n : ℕ) → bytes_in (replicate n 0) ≡ replicate n 0
    zeros zero = refl
    zeros (suc n) = ap (λ (l : List ℕ). 0 ∷ l) (zeros n)

    nothing : (n i : ℕ) → get_or {A = ℕ} (replicate n 0) i 0 ≡ 0
    nothing zero i = refl
    nothing (suc n) zero = refl
    nothing (suc n) (suc i) = nothing n i

-- a cell tells its byte
one_less : (c b : ℕ) → 1 ≤ c → eqb c (suc b) ≡ eqb (c - 1) b
one_less c b h = by (eqb (c - 1) b) refl
  where
    by : (t : Bool) → eqb (c - 1) b ≡ t → eqb c (suc b) ≡ t
    by true e = eq-eqb c (suc b) (omega (arith, eqb-true (c - 1) b e))
    by false e = ne_eqb c (suc b) (λ f. eqb-false (c - 1) b e (omega arith))

module _ {place : Place} {cells image : List ℕ} {end : ℕ} (k : Kept place cells image end) where
  fits_is : (p b : ℕ) → place.last ≤ p → (leb end p || eqb (get_or image p 0) b) ≡ fits (get_or cells p 0) b
  fits_is p b h = by (ltb p end) refl
    where
      byte : get_or image p 0 ≡ get_or cells p 0 - 1
      byte = ap (λ (l : List ℕ). get_or l p 0) k.is ∙ bytes_at_lem cells p

      by : (t : Bool) → ltb p end ≡ t → (leb end p || eqb (get_or image p 0) b) ≡ fits (get_or cells p 0) b
      by true e =
          let l = ltb-true p end e in
          let s = k.some p h l in
          rw (lt-leb end p l, byte, ne_eqb (get_or cells p 0) 0 (λ z. omega arith)) (sym (one_less (get_or cells p 0) b s))
      by false e = let l = ltb-false p end e in rw (le-leb end p l, k.none p h l)

  pub agrees_is : (p : ℕ) (bs : List ℕ) → place.last ≤ p → agree_to end image p bs ≡ agree cells p bs
  unfolding agree_to agree
  agrees_is p [] h = refl
  agrees_is p (b ∷ bs) h = ap₂ (λ (x y : Bool). x && y) (fits_is p b h) (agrees_is (suc p) bs (omega arith))

  -- ---- a good line

  pub not_before : (r : Record) → follows place r ≡ true → place.last ≤ r.position
  unfolding follows
  not_before r e = by (eqb (rank_of place.letter) 0) refl (ltb place.last r.position) refl (eqb place.last r.position) refl e
    where
      by : (x : Bool) → eqb (rank_of place.letter) 0 ≡ x → (y : Bool) → ltb place.last r.position ≡ y → (z : Bool) → eqb place.last r.position ≡ z
          → (x || (y || (z && (ltb (rank_of place.letter) (rank_of r.letter) && ltb (rank_of r.letter) 5)))) ≡ true → place.last ≤ r.position
      by true f y g z h e = omega (arith, k.first (eqb-true (rank_of place.letter) 0 f))
      by false f true g z h e = omega (arith, ltb-true place.last r.position g)
      by false f false g true h e = omega (arith, eqb-true place.last r.position h)
      by false f false g false h e = absurd (never (sym e))

  module _ (mode : Mode) (l : List ℕ) (g : is_good mode place l ≡ true) where
    pub from : place.last ≤ position_on l
    unfolding record_of
    from = not_before (record_of l) (second_part (is_line mode l) (follows place (record_of l)) g)

    -- it has a letter of lines
    ranked : rank_of (letter_on l) ≡ 0 → ⊥
    unfolding is_line
    ranked z =
        by (eqb (letter_on l) (code "L")) (eqb (letter_on l) (code "O")) (eqb (letter_on l) (code "A")) (eqb (letter_on l) (code "I"))
        (eqb (letter_on l) (code "D")) _ _ _ _ _ z
        (second_part (is_start l) (by_letter mode (letter_on l) l) (first_part (is_line mode l) (follows place (record_of l)) g))
      where
        by : (a b c d e : Bool) (u v w x y : Bool) → ◌≡◌ {A = ℕ} (cond a 1 (cond b 2 (cond c 3 (cond d 4 (cond e 5 0))))) 0
            → cond a u (cond b v (cond c w (cond d x (cond e y false)))) ≡ true → ⊥
        by true b c d e u v w x y z q = omega arith
        by false true c d e u v w x y z q = omega arith
        by false false true d e u v w x y z q = omega arith
        by false false false true e u v w x y z q = omega arith
        by false false false false true u v w x y z q = omega arith
        by false false false false false u v w x y z q = never (sym q)

    pub kept_on : (n : ℕ) → length image ≡ n → reach n (position_on l) (listed_on l) ≡ false → (new : List ℕ) → new ≡ sets image (position_on l) (listed_on l)
        → (e : ℕ) → e ≡ later_of end (far_of (position_on l) (listed_on l))
        → Kept (place_after place (length l) (record_of l)) (sets cells (position_on l) (map suc (listed_on l))) new e
    unfolding place_after record_of
    kept_on n m r new q e f =
        let p : ℕ = position_on l in
        let bs : List ℕ = listed_on l in
        let far : far_of p bs ≤ n = ltb-false n (far_of p bs) (sym (reach_far n p bs) ∙ r) in
        let long : length cells ≡ n = sym (length-map cells _) ∙ ap length (sym k.is) ∙ m in
        record {
          is = q ∙ ap (λ (x : List ℕ). sets x p bs) k.is ∙ sym (bytes_sets bs cells p);
          some = λ i h g. some_on i h (subst (λ (x : ℕ). i < x) f g) (ltb i (far_of p bs)) refl far long;
          none = λ i h g.
              let t = (later_is end (far_of p bs) i).0 (subst (λ (x : ℕ). x ≤ i) f g) in
              sets_past (map suc bs) cells p i (omega (arith, length-map bs suc, far_past p bs i h t.1)) ∙ k.none i (omega (arith, from)) t.0;
          inside = omega (arith, f, later_most end (far_of p bs) n (omega (arith, k.inside)) far, ap length q, length-sets image p bs);
          first = λ z. absurd (ranked z);
        }
      where
        some_on : (i : ℕ) → position_on l ≤ i → i < later_of end (far_of (position_on l) (listed_on l)) → (t : Bool) → ltb i (far_of (position_on l) (listed_on l)) ≡ t
            → far_of (position_on l) (listed_on l) ≤ n → length cells ≡ n → 1 ≤ get_or (sets cells (position_on l) (map suc (listed_on l))) i 0
        some_on i h g true e far long =
            let a = ltb-true i (far_of (position_on l) (listed_on l)) e in
            sets_new (listed_on l) cells (position_on l) i h (far_before (position_on l) (listed_on l) i a) (omega arith)
        some_on i h g false e far long =
            sets_some (listed_on l) cells (position_on l) i
            (k.some i (omega (arith, from)) ((later_is end (far_of (position_on l) (listed_on l)) i).1 g (ltb-false i (far_of (position_on l) (listed_on l)) e)))
