-- The cells of a sheet: bytes of the image that are stored where they stand contradict nothing, and no cell that was right is spoiled.
-- Assumes nothing.
use mathlib.Core.Path.{◌≡◌, refl, ap, ◌∙◌}
use mathlib.Core.Bool.{Bool, true, false, ◌||◌}
use mathlib.Core.List.{List, [], ◌∷◌, map}
use Prim.Native.Nat.{ℕ, zero, suc, ◌+◌, ◌-◌, ◌<◌, ◌≤◌}
use native.Mathlib.Omega.{arith}
use lib.Dec.{eqb}
use lib.ListN.{length, get_or, set, take, drop, length-set}
use lib.Seq.{sets, drop-cons, get_or-set_same, get_or-set_other}
use borrow.Author.Tests.{eq-eqb, eqb-true, eqb-false, le-ltb}
use Rattle.instruction.specs.Bytes.{Bytes}
use Rattle.views.proofs.Ors.{or_second}
use Rattle.read_back.specs.Sheet.{agree, reach}
use Rattle.read_back_laws.proofs.Digits.{Small}

-- a cell of the byte b: nothing is listed, or b is
pub data Cell (c b : ℕ) : Type 0 where
  empty : c ≡ 0 → Cell c b
  full : c ≡ suc b → Cell c b

-- a cell after a store: as it was, or b is listed
data Stored (d c b : ℕ) : Type 0 where
  kept : d ≡ c → Stored d c b
  new : d ≡ suc b → Stored d c b

stored_cell : {d c b : ℕ} → Stored d c b → Cell c b → Cell d b
stored_cell (kept e) (empty f) = empty (e ∙ f)
stored_cell (kept e) (full f) = full (e ∙ f)
stored_cell (new e) c = full e

stored_right : {d c b : ℕ} → Stored d c b → c - 1 ≡ b → d - 1 ≡ b
stored_right (kept e) h = omega arith
stored_right (new e) h = omega arith

module _ (image : List ℕ) where
  -- these bytes stand in the image from p on
  abbrev pub Part : ℕ → List ℕ → Type 0
  Part p [] = Unit {0}
  Part p (b ∷ bs) = (b ≡ get_or image p 0) × Part (suc p) bs

  pub part_of : (k p : ℕ) → p + k ≤ length image → Part p (take k (drop p image))
  part_of zero p h = tt
  part_of (suc k) p h = rw (drop-cons image p 0 (omega arith)) (refl, part_of k (suc p) (omega arith))

  pub part_small : Bytes image → (bs : List ℕ) (p : ℕ) → Part p bs → Small bs
  part_small B [] p P = tt
  part_small B (b ∷ bs) p P = (rw P.0 (B p), part_small B bs (suc p) P.1)

  pub part_inside : (bs : List ℕ) (p : ℕ) → p + length bs ≤ length image → reach (length image) p bs ≡ false
  part_inside [] p h = refl
  part_inside (b ∷ bs) p h = le-ltb (length image) (p + suc (length bs)) h

  -- cells of the image
  pub record Sound (cells : List ℕ) : Type 0 where
    pub size : length cells ≡ length image
    pub each : (q : ℕ) → Cell (get_or cells q 0) (get_or image q 0)

  -- the byte that is read off a cell
  abbrev pub Right : List ℕ → ℕ → Type 0
  Right cells q = get_or cells q 0 - 1 ≡ get_or image q 0

  agrees : {c b : ℕ} → Cell c b → (eqb c 0 || eqb c (suc b)) ≡ true
  agrees {c} {b} (empty e) = rw (eq-eqb c 0 e)
  agrees {c} {b} (full e) = or_second (eqb c 0) (eqb c (suc b)) (eq-eqb c (suc b) e)

  pub part_agrees : (bs : List ℕ) (p : ℕ) (cells : List ℕ) → Sound cells → Part p bs → agree cells p bs ≡ true
  unfolding agree
  part_agrees [] p cells S P = refl
  part_agrees (b ∷ bs) p cells S P = rw (P.0, agrees (S.each p)) (part_agrees bs (suc p) cells S P.1)

  -- one store
  module _ (cells : List ℕ) (S : Sound cells) (p b : ℕ) (h : p < length image) (e : b ≡ get_or image p 0) where
    abbrev next : List ℕ
    next = set cells p (suc b)

    same : get_or next p 0 ≡ suc b
    same = get_or-set_same cells p (suc b) 0 (rw S.size h)

    stored : (q : ℕ) → Stored (get_or next q 0) (get_or cells q 0) (get_or image q 0)
    stored q = by (eqb q p) refl
      where
        by : (t : Bool) → eqb q p ≡ t → Stored (get_or next q 0) (get_or cells q 0) (get_or image q 0)
        by true f = let g : q ≡ p = eqb-true q p f in rw g (new (same ∙ ap suc e))
        by false f = kept (get_or-set_other cells p q (suc b) 0 (eqb-false q p f))

    next_sound : Sound next
    next_sound = record { size = length-set cells p (suc b) ∙ S.size; each = λ q. stored_cell (stored q) (S.each q) }

    next_keeps : (q : ℕ) → Right cells q → Right next q
    next_keeps q r = stored_right (stored q) r

    next_right : Right next p
    next_right = omega (arith, same, e)

  -- k stores from p on
  pub record Lays (cells after : List ℕ) (p k : ℕ) : Type 0 where
    pub sound : Sound after
    pub keeps : (q : ℕ) → Right cells q → Right after q
    pub fills : (q : ℕ) → p ≤ q → q < p + k → Right after q

  pub lays : (bs : List ℕ) (p : ℕ) (cells : List ℕ) → Sound cells → Part p bs → p + length bs ≤ length image
      → Lays cells (sets cells p (map suc bs)) p (length bs)
  lays [] p cells S P h = record { sound = S; keeps = λ q r. r; fills = λ q i j. absurd (omega arith) }
  lays (b ∷ bs) p cells S P h =
      let g : p < length image = omega arith in
      let L = lays bs (suc p) (set cells p (suc b)) (next_sound cells S p b g P.0) P.1 (omega arith) in
      record {
        sound = L.sound;
        keeps = λ q r. L.keeps q (next_keeps cells S p b g P.0 q r);
        fills = λ q i j. by L g q i j (eqb q p) refl;
      }
    where
      by : Lays (set cells p (suc b)) (sets (set cells p (suc b)) (suc p) (map suc bs)) (suc p) (length bs) → p < length image
          → (q : ℕ) → p ≤ q → q < p + suc (length bs) → (t : Bool) → eqb q p ≡ t → Right (sets (set cells p (suc b)) (suc p) (map suc bs)) q
      by L g q i j true f = let d : q ≡ p = eqb-true q p f in rw d (L.keeps p (next_right cells S p b g P.0))
      by L g q i j false f = let d : q ≡ p → ⊥ = eqb-false q p f in L.fills q (omega arith) (omega arith)
