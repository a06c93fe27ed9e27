-- Who had a position among its targets by its name: of the mark 2 and of a first byte that names an address, it is to be asked.
-- Assumes nothing.
use mathlib.Core.Path.{◌≡◌, refl, sym, ap, ◌∙◌}
use mathlib.Core.Bool.{Bool, true, false, cond, not, ◌&&◌}
use mathlib.Core.List.{List}
use Prim.Native.Nat.{ℕ, ◌<◌, ◌≤◌}
use native.Mathlib.Omega.{arith}
use lib.Dec.{eqb, ltb}
use lib.ListN.{length, get_or}
use borrow.Author.Tests.{eqb-true, eqb-false, ne_eqb}
use Rattle.instruction.proofs.Ands.{not_first, not_second, first_alone, first_part}
use Rattle.instruction.proofs.Sign.{never}
use Rattle.instruction.specs.Flow.{flow_of}
use Rattle.instruction.specs.declared.mode.Mode.{Mode}
use Rattle.targets.specs.At.{form_here}
use Rattle.targets.specs.Ways.{is_whole, name_of, is_naming}
use Rattle.targets.proofs.Openings.{names}
use Rattle.targets.proofs.Within.{Small}
use Rattle.reach.specs.Mark.{traced, flash, traced_mark}
use Rattle.views.proofs.Ors.{or_rest}
use Rattle.views.proofs.TracedAt.{by_mark}
use Rattle.arrivals.specs.Index.{names_it, names_held}
use Rattle.arrivals.specs.Search.{may_name}
use Rattle.arrivals.proofs.Namers.{untraced_name, traced_name, by_name}

module _ (mode : Mode) (image m : List ℕ) (p q : ℕ) (inside : p < length image) where
  -- of a mark that is not 2
  unmarked_not : length image ≤ 65536 → (get_or m q 0 ≡ traced → ⊥) → false ≡ names_held mode image m p q
  unfolding names_held traced_mark
  unmarked_not h d = by (eqb (get_or m q 0) flash) refl
    where
      by : (t : Bool) → eqb (get_or m q 0) flash ≡ t → false ≡ (names_it mode image m p q && not t)
      by true e = sym (not_second (names_it mode image m p q) false refl)
      by false e =
          let u = untraced_name mode image m q (not_second (ltb q (length image)) _ (or_rest _ _ (ne_eqb (get_or m q 0) traced d) ∙ e)) in
          sym (not_first _ true (by_name mode image m p q inside ∙ ap (eqb p) (sym u) ∙ ne_eqb p 65536 (λ z. omega arith)))

  -- of the mark 2
  marked_names : q < length image → get_or m q 0 ≡ traced → (r : ℕ) → r ≡ name_of mode image q → eqb p r ≡ names_held mode image m p q
  unfolding names_held traced_mark
  marked_names h d r e =
      let t = sym (by_mark image m q h) ∙ ap traced_mark d in
      let a = ap (eqb p) (e ∙ traced_name mode image m q t) ∙ sym (by_name mode image m p q inside) in
      a ∙ sym (first_alone (names_it mode image m p q) _ (ap (λ (v : ℕ). not (eqb v flash)) d))

module _ (mode : Mode) (image m : List ℕ) (B : Small image) (fits : length image ≤ 65536) (p q : ℕ) (inside : p < length image) where
  abbrev H : Bool
  H = names_held mode image m p q

  unnamed : is_naming (flow_of (form_here image q)) ≡ false → name_of mode image q ≡ 65536
  unfolding name_of
  unnamed e = rw (← names mode image q B (flow_of (form_here image q)) refl false e) (by (is_whole image q))
    where
      by : (t : Bool) → ◌≡◌ {A = ℕ} (cond t 65536 65536) 65536
      by true = refl
      by false = refl

  -- only of one that is traced and names an address
  pub may_name_lem : q < length image → may_name image m q ≡ false → H ≡ false
  unfolding may_name
  may_name_lem h e = by (eqb (get_or m q 0) traced) refl (is_naming (flow_of (form_here image q))) refl e
    where
      by : (t : Bool) → eqb (get_or m q 0) traced ≡ t → (s : Bool) → is_naming (flow_of (form_here image q)) ≡ s → (t && s) ≡ false → H ≡ false
      by false d s g i = sym (unmarked_not mode image m p q inside fits (eqb-false (get_or m q 0) traced d))
      by true d false g i =
          sym (marked_names mode image m p q inside h (eqb-true (get_or m q 0) traced d) 65536 (sym (unnamed g))) ∙ ne_eqb p 65536 (λ z. omega arith)
      by true d true g i = absurd (never i)

  -- of such a one what it names is to be asked
  pub by_its_name : q < length image → may_name image m q ≡ true → (r : ℕ) → r ≡ name_of mode image q → eqb p r ≡ H
  unfolding may_name
  by_its_name h e r g = marked_names mode image m p q inside h (eqb-true (get_or m q 0) traced (first_part (eqb (get_or m q 0) traced) _ e)) r g
