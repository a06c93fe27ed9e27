-- How a sheet stands where the walk has come to a position: what is behind is right, and so is what traced instructions list ahead.
-- Assumes nothing.
use mathlib.Core.Path.{◌≡◌, refl, sym, ap, ◌∙◌}
use mathlib.Core.Bool.{Bool, true, false}
use mathlib.Core.List.{List, map}
use Prim.Native.Nat.{ℕ, zero, suc, ◌+◌, ◌-◌, ◌<◌, ◌≤◌}
use native.Mathlib.Omega.{arith}
use lib.Dec.{eqb, leb}
use lib.ListN.{length, get_or, take, replicate, length-replicate, length-map, get_or-map}
use lib.Seq.{ext_get_or}
use borrow.Author.Tests.{eqb-true, eqb-false, leb-true, leb-false}
use Rattle.instruction.proofs.Sign.{never}
use Rattle.targets.specs.At.{size_here}
use Rattle.views.specs.Positions.{traced_at}
use Rattle.views.proofs.TracedAt.{by_mark}
use Rattle.read_back.specs.Sheet.{Sheet, empty_sheet, image_on}
use Rattle.read_back_laws.specs.ClaimsBack.{told}
use Rattle.read_back_laws.proofs.Cells.{Sound, Right, Lays, empty}
use Rattle.read_back_laws.proofs.Tells.{told_to, told_start, told_end, told_untouched}

none_at : (n q : ℕ) → ◌≡◌ {A = ℕ} (get_or (replicate n 0) q 0) 0
none_at zero q = refl
none_at (suc n) zero = refl
none_at (suc n) (suc q) = none_at n q

module _ (image m : List ℕ) where
  -- before p, of which the next s positions are passed over
  pub record Stand (p s : ℕ) (sheet : Sheet) : Type 0 where
    pub sound : Sound image sheet.cells
    pub right : (q : ℕ) → q < p + s → Right image sheet.cells q
    pub under : (a q : ℕ) → traced_at image m a ≡ true → a < p → a ≤ q → q < a + size_here image a → Right image sheet.cells q
    pub tells : sheet.marks ≡ told_to (length image) m p
    pub free : (i : ℕ) → i < s → traced_at image m (p + i) ≡ false

  -- before the first line
  pub stand_start : Stand 0 0 (empty_sheet (length image))
  stand_start = record {
    sound = record { size = length-replicate (length image) 0; each = λ q. empty (none_at (length image) q) };
    right = λ q h. absurd (omega arith);
    under = λ a q t h. absurd (omega arith);
    tells = told_start (length image) m;
    free = λ i h. absurd (omega arith);
  }

  -- at the end
  pub stand_end : (p s : ℕ) (sheet : Sheet) → p ≡ length image → Stand p s sheet → (image_on sheet ≡ image) × (sheet.marks ≡ map told (take (length image) m))
  stand_end p s sheet e S =
      let d : length (image_on sheet) ≡ length image = length-map sheet.cells (λ (c : ℕ). c - 1) ∙ S.sound.size in (
        ext_get_or 0 (image_on sheet) image d (λ q h. get_or-map (λ (c : ℕ). c - 1) sheet.cells q 0 ∙ S.right q (omega arith)),
        S.tells ∙ ap (told_to (length image) m) e ∙ told_end (length image) m,
      )

  -- a position that is passed over
  pub stand_over : (p s : ℕ) (sheet : Sheet) → length image ≤ length m → p < length image → Stand p (suc s) sheet → Stand (suc p) s sheet
  stand_over p s sheet long h S = record {
    sound = S.sound;
    right = λ q i. S.right q (omega arith);
    under = λ a q t i j l. S.under a q t (let d : a ≡ p → ⊥ = λ e. never (sym t ∙ ap (traced_at image m) e ∙ untraced) in omega arith) j l;
    tells = S.tells ∙ told_untouched (length image) m long p h (by_mark image m p h ∙ untraced);
    free = λ i j. ap (traced_at image m) (let d : suc p + i ≡ p + suc i = omega arith in d) ∙ S.free (suc i) (omega arith);
  }
    where
      untraced : traced_at image m p ≡ false
      untraced = ap (traced_at image m) (let d : p ≡ p + 0 = omega arith in d) ∙ S.free 0 (omega arith)

  -- one position on, with the k bytes from p on stored
  pub stand_next : (p s k : ℕ) (sheet after : Sheet) → Stand p 0 sheet → Lays image sheet.cells after.cells p k → s < k
      → (traced_at image m p ≡ true → size_here image p ≤ k) → after.marks ≡ told_to (length image) m (suc p)
      → ((i : ℕ) → i < s → traced_at image m (suc p + i) ≡ false) → Stand (suc p) s after
  stand_next p s k sheet after S L h z e f = record {
    sound = L.sound;
    right = λ q i. behind q i (leb p q) refl;
    under = λ a q t i j l. listed a q t i j l (eqb a p) refl;
    tells = e;
    free = f;
  }
    where
      behind : (q : ℕ) → q < suc p + s → (t : Bool) → leb p q ≡ t → Right image after.cells q
      behind q i true d = let g : p ≤ q = leb-true p q d in L.fills q g (omega arith)
      behind q i false d = let g : q < p = leb-false p q d in L.keeps q (S.right q (omega arith))

      listed : (a q : ℕ) → traced_at image m a ≡ true → a < suc p → a ≤ q → q < a + size_here image a → (b : Bool) → eqb a p ≡ b → Right image after.cells q
      listed a q t i j l true d =
          let g : a ≡ p = eqb-true a p d in
          let w : size_here image p ≤ k = z (ap (traced_at image m) (sym g) ∙ t) in
          let v : size_here image a ≡ size_here image p = ap (size_here image) g in
          L.fills q (omega arith) (omega arith)
      listed a q t i j l false d = let g : a ≡ p → ⊥ = eqb-false a p d in L.keeps q (S.under a q t (omega arith) j l)
