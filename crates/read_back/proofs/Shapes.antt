-- A line with no letter alone or no position of four digits is bad, by the places of its bytes and by its fields.
-- Assumes nothing.
use mathlib.Core.Path.{◌≡◌, refl, ap, ◌∙◌}
use mathlib.Core.Bool.{Bool, true, false, cond, ◌&&◌}
use mathlib.Core.List.{List, [], ◌∷◌, ◌++◌}
use Prim.Native.Nat.{ℕ, ◌<◌}
use Prim.Native.Char.{code}
use native.Mathlib.Omega.{arith}
use borrow.Author.Tests.{ne_eqb, lt-leb}
use lib.Dec.{eqb, leb}
use lib.ListN.{length, get_or, length-append}
use Rattle.instruction.proofs.Ands.{not_first, not_second}
use Rattle.instruction.specs.declared.mode.Mode.{Mode}
use Rattle.text.specs.Cut.{fields}
use Rattle.text.specs.Four.{is_four}
use Rattle.read_back.specs.Line.{letter_on, is_start, by_letter, is_line}
use Rattle.read_back.specs.Offsets.{is_start_at, by_letter_at, is_line_at}
use Rattle.read_back.proofs.Pieces.{tabbed, NoTab, NoTabs, fields_are, fields_after}
use Rattle.read_back.proofs.Rests.{tab_among, not_four, places_off, not_code}

-- a letter alone and four digits, of these fields
abbrev pub starts : List (List ℕ) → Bool
starts fs = eqb (length (get_or fs 0 [])) 1 && is_four (get_or fs 1 [])

unstarted : (mode : Mode) (line : List ℕ) (fs : List (List ℕ)) → fields line ≡ fs → starts fs ≡ false → is_line mode line ≡ false
unfolding is_line is_start
unstarted mode line fs e h = not_first (starts (fields line)) (by_letter mode (letter_on line) line) (ap starts e ∙ h)

-- fewer than four digits
few_digits : (c : ℕ) (g : List ℕ) (gs : List (List ℕ)) → length g < 4 → is_start_at (c ∷ 9 ∷ g ++ tabbed gs) ≡ false
unfolding is_start_at
few_digits c g [] h = rw (lt-leb 6 (length (c ∷ 9 ∷ g ++ [])) (omega (arith, length-append g [])))
few_digits c g (k ∷ ks) h = not_second (leb 6 (length (c ∷ 9 ∷ g ++ tabbed (k ∷ ks)))) _ (tab_among 4 g (k ++ tabbed ks) h)

-- more than four
either : (b x y : Bool) → x ≡ false → y ≡ false → cond b x y ≡ false
either true x y e f = e
either false x y e f = f

more_digits : (mode : Mode) (c a b d e x : ℕ) (r : List ℕ) → eqb x 9 ≡ false → by_letter_at mode c (c ∷ 9 ∷ a ∷ b ∷ d ∷ e ∷ x ∷ r) ≡ false
more_digits mode c a b d e x r n =
    let found = not_second (leb 1 (length (x ∷ r))) _ (places_off x r n) in
    either (eqb c (code "L")) _ _ (ne_eqb (length (x ∷ r)) 0 (λ e. omega arith))
    (either (eqb c (code "O")) _ _ found
    (either (eqb c (code "A")) _ _ found
    (either (eqb c (code "I")) _ _ (not_code mode _ _ c 9 a b d e x r n) (either (eqb c (code "D")) _ _ (not_first (eqb x 9) _ n) refl))))

-- a line of these fields: a letter and a position, or it is bad either way
pub data Shape (mode : Mode) : List ℕ → List (List ℕ) → Type 0 where
  lined : (c a b d e : ℕ) (gs : List (List ℕ)) → Shape mode (c ∷ []) ((a ∷ b ∷ d ∷ e ∷ []) ∷ gs)
  other : {f : List ℕ} {fs : List (List ℕ)} → is_line mode (f ++ tabbed fs) ≡ false → is_line_at mode (f ++ tabbed fs) ≡ false → Shape mode f fs

short : (mode : Mode) (c : ℕ) (g : List ℕ) (gs : List (List ℕ)) → NoTab (c ∷ []) → NoTabs (g ∷ gs) → length g < 4 → Shape mode (c ∷ []) (g ∷ gs)
unfolding is_line_at
short mode c g gs n ns h =
    other (unstarted mode _ _ (fields_are c [] (g ∷ gs) n ns) (not_four g (λ e. omega arith)))
    (not_first (is_start_at (c ∷ 9 ∷ g ++ tabbed gs)) _ (few_digits c g gs h))

pub shape : (mode : Mode) (f : List ℕ) (fs : List (List ℕ)) → NoTab f → NoTabs fs → Shape mode f fs
unfolding is_line is_start is_line_at is_start_at
shape mode [] [] n ns = other refl refl
shape mode [] (g ∷ gs) n ns = other (unstarted mode (9 ∷ g ++ tabbed gs) _ (fields_after gs g ns) refl) (not_second (is_start_at (9 ∷ g ++ tabbed gs)) false refl)
shape mode (c ∷ []) [] n ns = other (unstarted mode (c ∷ []) _ (fields_are c [] [] n ns) (not_four [] (λ e. omega arith))) refl
shape mode (c ∷ []) ([] ∷ gs) n ns = short mode c [] gs n ns (omega arith)
shape mode (c ∷ []) ((a ∷ []) ∷ gs) n ns = short mode c (a ∷ []) gs n ns (omega arith)
shape mode (c ∷ []) ((a ∷ b ∷ []) ∷ gs) n ns = short mode c (a ∷ b ∷ []) gs n ns (omega arith)
shape mode (c ∷ []) ((a ∷ b ∷ d ∷ []) ∷ gs) n ns = short mode c (a ∷ b ∷ d ∷ []) gs n ns (omega arith)
shape mode (c ∷ []) ((a ∷ b ∷ d ∷ e ∷ []) ∷ gs) n ns = lined c a b d e gs
shape mode (c ∷ []) ((a ∷ b ∷ d ∷ e ∷ x ∷ g) ∷ gs) n ns =
    other (unstarted mode (c ∷ 9 ∷ a ∷ b ∷ d ∷ e ∷ x ∷ g ++ tabbed gs) _ (fields_are c [] ((a ∷ b ∷ d ∷ e ∷ x ∷ g) ∷ gs) n ns)
    (not_four (a ∷ b ∷ d ∷ e ∷ x ∷ g) (λ q. omega arith)))
    (not_second (is_start_at (c ∷ 9 ∷ a ∷ b ∷ d ∷ e ∷ x ∷ g ++ tabbed gs)) _ (more_digits mode c a b d e x (g ++ tabbed gs) ns.0.1.1.1.1.0))
shape mode (c ∷ k ∷ f) fs n ns =
    other (unstarted mode (c ∷ k ∷ f ++ tabbed fs) _ (fields_are c (k ∷ f) fs n ns)
    (not_first (eqb (length (c ∷ k ∷ f)) 1) _ (ne_eqb (length (c ∷ k ∷ f)) 1 (λ e. omega arith))))
    (not_first _ _ (not_second (leb 6 (length (c ∷ k ∷ f ++ tabbed fs))) _ (not_first (eqb k 9) _ n.1.0)))
