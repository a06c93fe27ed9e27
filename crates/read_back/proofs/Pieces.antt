-- A line and its fields: the first, and then a tab and a field for each other.
-- Assumes nothing.
use mathlib.Core.Path.{◌≡◌, refl, ap, ap₂}
use mathlib.Core.Bool.{Bool, true, false}
use mathlib.Core.List.{List, [], ◌∷◌, ◌++◌}
use Prim.Native.Nat.{ℕ}
use borrow.Author.Tests.{eqb-true}
use lib.Dec.{eqb}
use Rattle.text.specs.Cut.{before, cut, fields}

-- a tab and the field, for each field
abbrev pub tabbed : List (List ℕ) → List ℕ
tabbed [] = []
tabbed (f ∷ fs) = 9 ∷ f ++ tabbed fs

-- no byte is a tab
abbrev pub NoTab : List ℕ → Type 0
NoTab [] = Unit {0}
NoTab (b ∷ l) = (eqb b 9 ≡ false) × NoTab l

abbrev pub NoTabs : List (List ℕ) → Type 0
NoTabs [] = Unit {0}
NoTabs (f ∷ fs) = NoTab f × NoTabs fs

-- a field before a text that begins with a tab, or is none
first_cut : (t : List ℕ) (fs : List (List ℕ)) → cut 9 ([] ∷ []) t ≡ [] ∷ fs → (f : List ℕ) → NoTab f → cut 9 ([] ∷ []) (f ++ t) ≡ f ∷ fs
unfolding cut
first_cut t fs e [] n = e
first_cut t fs e (b ∷ f) n = rw n.0 (ap (before b) (first_cut t fs e f n.1))

tabbed_cut : (fs : List (List ℕ)) → NoTabs fs → cut 9 ([] ∷ []) (tabbed fs) ≡ [] ∷ fs
unfolding cut
tabbed_cut [] n = refl
tabbed_cut (f ∷ fs) n = ap (λ (ps : List (List ℕ)). [] ∷ ps) (first_cut (tabbed fs) fs (tabbed_cut fs n.1) f n.0)

-- the fields of a line that is put together of them
pub fields_are : (b : ℕ) (f : List ℕ) (fs : List (List ℕ)) → NoTab (b ∷ f) → NoTabs fs → fields (b ∷ f ++ tabbed fs) ≡ (b ∷ f) ∷ fs
fields_are b f fs n ns = first_cut (tabbed fs) fs (tabbed_cut fs ns) (b ∷ f) n

pub fields_after : (fs : List (List ℕ)) (f : List ℕ) → NoTabs (f ∷ fs) → fields (9 ∷ f ++ tabbed fs) ≡ [] ∷ f ∷ fs
fields_after fs f n = tabbed_cut (f ∷ fs) n

-- every line is
pub data Fielded (line : List ℕ) : Type 0 where
  fielded : (f : List ℕ) (fs : List (List ℕ)) → line ≡ f ++ tabbed fs → NoTab f → NoTabs fs → Fielded line

pub fielded_of : (line : List ℕ) → Fielded line
fielded_of [] = fielded [] [] refl tt tt
fielded_of (b ∷ t) = by (eqb b 9) refl (fielded_of t)
  where
    by : (x : Bool) → eqb b 9 ≡ x → Fielded t → Fielded (b ∷ t)
    by true e (fielded f fs w n ns) = fielded [] (f ∷ fs) (ap₂ (λ (x : ℕ) (l : List ℕ). x ∷ l) (eqb-true b 9 e) w) tt (n, ns)
    by false e (fielded f fs w n ns) = fielded (b ∷ f) fs (ap (λ (l : List ℕ). b ∷ l) w) (e, n) ns
