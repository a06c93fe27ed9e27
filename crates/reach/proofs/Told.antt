-- Final marks told inside the image alone, so that tables which are alike there need not be told apart. Assumes nothing.
use Prim.Native.Nat.{ℕ, ◌<◌, ◌≤◌}
use native.Mathlib.Omega.{arith}
use mathlib.Core.Bool.{Bool, true, false}
use mathlib.Core.Path.{◌≡◌, refl, sym, subst, ◌∙◌}
use mathlib.Core.Logic.{◌⊎◌, inl, inr, ⊎_elim, ◌↔◌}
use mathlib.Core.List.{List}
use lib.ListN.{length, get_or, replicate}
use Rattle.reach.specs.Mark.{waiting, traced, flash, IsTraced}
use Rattle.reach.specs.Note.{Open}
use Rattle.reach.specs.Pins.{pin, table}
use Rattle.reach.specs.Takes.{Base}
use Rattle.reach.specs.Tracer.{Tracer}
use Rattle.reach.specs.Reach.{Reach, entry, target}
use Rattle.reach.specs.ClaimsOrder.{Final}
use Rattle.reach.proofs.Cases.{eq_or_ne, yes_or_no, Decided}
use Rattle.reach.proofs.Table.{table_base, table_like}

-- the same marks in the first n positions
abbrev pub SameIn : ℕ → List ℕ → List ℕ → Type 0
SameIn n m m' = (q : ℕ) → q < n → get_or m q 0 ≡ get_or m' q 0

pub record Told (G : Tracer) (base entries m : List ℕ) : Type 0 where
  pub two : (q : ℕ) → q < G.size → (get_or m q 0 ≡ traced) ↔ (Reach G G.ways base entries q × (G.fits q ≡ true))
  pub one : (q : ℕ) → q < G.size → (get_or m q 0 ≡ waiting) ↔ (Reach G G.ways base entries q × (G.fits q ≡ false))
  pub others : (q : ℕ) → q < G.size → (Reach G G.ways base entries q → ⊥) → get_or m q 0 ≡ get_or base q 0
  pub no_flash : (q : ℕ) → q < G.size → get_or m q 0 ≡ flash → ⊥

-- final marks have no 3: what is reached has 1 or 2, and the base none
pub told : {G : Tracer} {base entries m : List ℕ} → Base G base → Final G base entries m → Told G base entries m
told {G} {base} {entries} {m} B F = record {
  two = F.two;
  one = F.one;
  others = λ q h n. F.others q n;
  no_flash = λ q h e. B.none_live q h (inr (inr (sym (F.others q (λ r. unreached q h e r (yes_or_no (G.fits q)))) ∙ e)));
}
  where
    unreached : (q : ℕ) → q < G.size → get_or m q 0 ≡ flash → Reach G G.ways base entries q → (G.fits q ≡ true) ⊎ (G.fits q ≡ false) → ⊥
    unreached q h e r (inl f) = let x : get_or m q 0 ≡ 2 = (F.two q h).1 (r, f) in omega arith
    unreached q h e r (inr f) = let x : get_or m q 0 ≡ 1 = (F.one q h).1 (r, f) in omega arith

pub traced_is : {G : Tracer} {base entries m : List ℕ} → Told G base entries m → (q : ℕ) → q < G.size
    → IsTraced (get_or m q 0) ↔ (Reach G G.ways base entries q × (G.fits q ≡ true))
traced_is T q h = (⊎_elim (λ e. (T.two q h).0 e) (λ e. absurd (T.no_flash q h e)), λ w. inl ((T.two q h).1 w))

-- ---- bases that are alike inside the image

-- what is reached over one is reached over the other
pub reach_like : {G : Tracer} {follow : ℕ → List ℕ} {base base' entries : List ℕ} → SameIn G.size base base'
    → {q : ℕ} → Reach G follow base entries q → Reach G follow base' entries q
reach_like {G} {follow} {base} {base'} s = go
  where
    open_too : {q : ℕ} → Open G.size base q → Open G.size base' q
    open_too {q} o = record { inside = o.inside; clear = sym (s q o.inside) ∙ o.clear }

    go : {entries : List ℕ} {q : ℕ} → Reach G follow base entries q → Reach G follow base' entries q
    go (entry i o) = entry i (open_too o)
    go (target r f i o) = target (go r) f i (open_too o)

pub told_like : {G : Tracer} {base base' entries m : List ℕ} → SameIn G.size base base' → Told G base entries m → Told G base' entries m
told_like {G} {base} {base'} {entries} {m} s T = record {
  two = λ q h. (λ e. let w = (T.two q h).0 e in (there w.0, w.1), λ w. (T.two q h).1 (back w.0, w.1));
  one = λ q h. (λ e. let w = (T.one q h).0 e in (there w.0, w.1), λ w. (T.one q h).1 (back w.0, w.1));
  others = λ q h n. T.others q h (λ r. n (there r)) ∙ s q h;
  no_flash = T.no_flash;
}
  where
    there : {q : ℕ} → Reach G G.ways base entries q → Reach G G.ways base' entries q
    there = reach_like s

    back : {q : ℕ} → Reach G G.ways base' entries q → Reach G G.ways base entries q
    back = reach_like (λ q h. sym (s q h))

-- nothing but the pins: the lent marks are not in the way
abbrev pub bare : ℕ → List ℕ → List ℕ
bare n pins = pin n pins (replicate n 0)

pub table_told : (G : Tracer) (pins lent entries m : List ℕ) → G.size ≤ length lent → Final G (table G.size pins lent) entries m
    → Told G (bare G.size pins) entries m
table_told G pins lent entries m l F =
    told_like (λ q h. table_like G.size pins lent q l h) (told (table_base G pins lent l) F)

-- ---- marks told alike are the same inside the image

pub told_same : {G : Tracer} {base entries m m' : List ℕ} → Told G base entries m → Told G base entries m' → SameIn G.size m m'
told_same {G} {base} {entries} {m} {m'} T T' q h =
    by (eq_or_ne (get_or m q 0) traced) (eq_or_ne (get_or m q 0) waiting) (yes_or_no (G.fits q))
  where
    off : (Reach G G.ways base entries q → ⊥) → get_or m q 0 ≡ get_or m' q 0
    off n = T.others q h n ∙ sym (T'.others q h n)

    by : Decided (get_or m q 0 ≡ traced) → Decided (get_or m q 0 ≡ waiting) → (G.fits q ≡ true) ⊎ (G.fits q ≡ false) → get_or m q 0 ≡ get_or m' q 0
    by (inl e) w f = e ∙ sym ((T'.two q h).1 ((T.two q h).0 e))
    by (inr n2) (inl e) f = e ∙ sym ((T'.one q h).1 ((T.one q h).0 e))
    by (inr n2) (inr n1) (inl f) = off (λ r. n2 ((T.two q h).1 (r, f)))
    by (inr n2) (inr n1) (inr f) = off (λ r. n1 ((T.one q h).1 (r, f)))
