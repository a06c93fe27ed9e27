-- Damage at a position: each test of the code is one of the definition.
-- Assumes nothing.
use mathlib.Core.Path.{◌≡◌, refl, sym, ap, ◌∙◌}
use mathlib.Core.Bool.{Bool, true, false, not, ◌&&◌, ◌||◌}
use mathlib.Core.List.{List}
use Prim.Native.Nat.{ℕ, ◌+◌, ◌<◌, ◌≤◌}
use native.Mathlib.Omega.{arith}
use lib.Dec.{leb, ltb, eqb}
use lib.ListN.{length, get_or}
use borrow.Author.Tests.{leb-true, leb-false, lt-ltb, le-ltb, le-leb, eq-eqb, ne_eqb, not-false}
use Rattle.targets.specs.At.{size_here, fits_here}
use Rattle.instruction.proofs.Ands.{not_first}
use Rattle.marks.proofs.Jmpf.{jmpf_by_byte}
use Rattle.targets.proofs.Within.{Small, size_short}
use Rattle.reach.specs.Mark.{flash, traced_mark}
use Rattle.marks.specs.Refusals.{damaged}
use Rattle.views.specs.Positions.{up_from, some}
use Rattle.views.specs.View.{off_jmpf, misplaced, damaged_here, wrong_at}
use Rattle.views.proofs.Ups.{none_some}
use Rattle.views.proofs.Ors.{or_first, or_second, or_rest, or_start}

-- not at most is above
above : (a b : ℕ) → ltb b a ≡ not (leb a b)
above a b = by (leb a b) refl
  where
    by : (t : Bool) → leb a b ≡ t → ltb b a ≡ not t
    by true e = le-ltb b a (leb-true a b e)
    by false e = lt-ltb b a (leb-false a b e)

module _ (image : List ℕ) (p : ℕ) where
  pub three_left : Small image → p + 3 ≤ length image → false ≡ not (fits_here image p)
  unfolding fits_here
  three_left b h = ap not (sym (le-leb (p + size_here image p) (length image) (omega (arith, (size_short image p b).1))))

  pub cut_off_lem : (s : ℕ) → s ≡ size_here image p → ltb (length image) (p + s) ≡ not (fits_here image p)
  unfolding fits_here
  cut_off_lem s e = ap (λ (k : ℕ). ltb (length image) (p + k)) e ∙ above (p + size_here image p) (length image)

  module _ (v : ℕ) where
    pub no_flash : (v ≡ flash → ⊥) → false ≡ off_jmpf image v p
    unfolding off_jmpf
    no_flash e = sym (not_first (eqb v flash) _ (ne_eqb v flash e))

    pub by_byte : v ≡ flash → get_or image p 0 < 256 → not (eqb (get_or image p 0) 0x21) ≡ off_jmpf image v p
    unfolding off_jmpf
    by_byte e b = rw (eq-eqb v flash e) (ap not (sym (jmpf_by_byte (get_or image p 0) b)))

    pub off : off_jmpf image v p ≡ true → true ≡ misplaced image v p
    unfolding misplaced
    off e = sym (or_second (traced_mark v && not (fits_here image p)) (off_jmpf image v p) e)

    pub on : off_jmpf image v p ≡ false → traced_mark v ≡ true → not (fits_here image p) ≡ misplaced image v p
    unfolding misplaced
    on e t = sym (or_start _ _ e ∙ ap (λ (b : Bool). b && not (fits_here image p)) t)

    pub untraced : off_jmpf image v p ≡ false → traced_mark v ≡ false → false ≡ misplaced image v p
    unfolding misplaced
    untraced e t = sym (or_start _ _ e ∙ ap (λ (b : Bool). b && not (fits_here image p)) t)

  module _ (m : List ℕ) where
    pub over : damaged (get_or m p 0) ≡ true → true ≡ damaged_here image m p
    unfolding damaged_here
    over e = sym (or_first (damaged (get_or m p 0)) (misplaced image (get_or m p 0) p) e)

    pub not_over : damaged (get_or m p 0) ≡ false → misplaced image (get_or m p 0) p ≡ damaged_here image m p
    unfolding damaged_here
    not_over e = sym (or_rest (damaged (get_or m p 0)) (misplaced image (get_or m p 0) p) e)

-- before the last two positions the end cuts nothing off, and what is damaged is wrong by itself
by_itself : (image m : List ℕ) → Small image → (p : ℕ) → p + 3 ≤ length image → wrong_at image m p ≡ false → damaged_here image m p ≡ false
unfolding damaged_here misplaced off_jmpf
by_itself image m b p h w =
    rw (jmpf_by_byte (get_or image p 0) (b p)) (fits (traced_mark (get_or m p 0)) (fits_here image p) (sym_not (three_left image p b h)) w)
  where
    sym_not : false ≡ not (fits_here image p) → fits_here image p ≡ true
    sym_not e = not-false (fits_here image p) (sym e)

    fits : (t f : Bool) → f ≡ true → wrong_at image m p ≡ false
        → (damaged (get_or m p 0) || ((t && not f) || (eqb (get_or m p 0) flash && not (eqb (get_or image p 0) 0x21)))) ≡ false
    fits true f e w = rw e w
    fits false f e w = w

-- none of the first n positions is wrong, so none is damaged
pub right : (image m : List ℕ) → Small image → (p : ℕ) → p + 3 ≤ length image → {n : ℕ} → some (wrong_at image m) (up_from n 0) ≡ false → p < n
    → damaged_here image m p ≡ false
right image m b p h {n} e k = by_itself image m b p h (none_some (wrong_at image m) n 0 p (omega arith) (omega arith) e)
