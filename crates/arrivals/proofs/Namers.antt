-- Who names a position: what the code asks, and why the last position of an image names nothing.
-- Assumes nothing.
use mathlib.Core.Path.{◌≡◌, refl, sym, ◌∙◌}
use mathlib.Core.Bool.{Bool, true, false, cond, ◌&&◌}
use mathlib.Core.List.{List}
use Prim.Native.Nat.{ℕ, ◌+◌, ◌<◌, ◌≤◌}
use native.Mathlib.Omega.{arith}
use lib.Dec.{eqb, ltb, leb}
use lib.ListN.{length}
use borrow.Author.Tests.{lt-ltb, le-ltb, ltb-true, leb-true, eqb-true}
use Rattle.instruction.proofs.Ands.{not_first, first_part, second_part}
use Rattle.instruction.proofs.Shapes.{at_each}
use Rattle.instruction.specs.Flow.{stops, jumps, branches, among, flow_of}
use Rattle.instruction.specs.Forms.{Form, forms, form_at, size_of}
use Rattle.instruction.specs.Pattern.{pattern, pattern_bytes, onto, bits_given, next_bracket}
use Rattle.instruction.specs.declared.flow.Flow.{Flow}
use Rattle.instruction.specs.declared.flow.Flow.TheVariants.{Stop, Next, Jump, Branch}
use Rattle.instruction.specs.declared.mode.Mode.{Mode}
use Rattle.targets.specs.At.{form_here, size_here, fits_here, instr_here, name_here, named_by, place_of}
use Rattle.targets.specs.Targets.{address_in}
use Rattle.targets.specs.Ways.{is_whole, name_of}
use Rattle.targets.proofs.Openings.{names_by_flow}
use Rattle.targets.proofs.Within.{Small, form_here_lem}
use Rattle.views.specs.Positions.{traced_at}
use Rattle.arrivals.specs.Index.{name_at, names_it}

-- ---- what the code asks

module _ (mode : Mode) (image m : List ℕ) (q : ℕ) where
  pub untraced_name : traced_at image m q ≡ false → 65536 ≡ name_at mode image m q
  unfolding name_at
  untraced_name e = rw e

  pub traced_name : traced_at image m q ≡ true → name_of mode image q ≡ name_at mode image m q
  unfolding name_at
  traced_name e = rw e

module _ (mode : Mode) (image m : List ℕ) (p q : ℕ) where
  pub outside_not : length image ≤ p → names_it mode image m p q ≡ false
  unfolding names_it
  outside_not h = not_first (ltb p (length image)) _ (le-ltb p (length image) h)

  pub by_name : p < length image → names_it mode image m p q ≡ eqb p (name_at mode image m q)
  unfolding names_it
  by_name h = rw (lt-ltb p (length image) h)

  pub name_inside : names_it mode image m p q ≡ true → (p < length image) × (p ≡ name_at mode image m q)
  unfolding names_it
  name_inside e =
      (ltb-true p (length image) (first_part (ltb p (length image)) _ e), eqb-true p (name_at mode image m q) (second_part (ltb p (length image)) _ e))

-- ---- a jump, a branch or a call has at least two bytes

-- the size of a form that names a target
if_names : Flow → ℕ → ℕ
if_names Stop s = 2
if_names Next s = 2
if_names Jump s = s
if_names Branch s = s

naming_long : (k : ℕ) → k < 70 → leb 2 (if_names (flow_of k) (size_of (form_at k))) ≡ true
unfolding forms flow_of stops jumps branches if_names pattern pattern_bytes onto bits_given next_bracket
naming_long =
    at_each
    (λ (w : Form). leb 2 (if_names (cond (among stops w.name) Stop (cond (among jumps w.name) Jump (cond (among branches w.name) Branch Next)))
    (size_of w)))
    (λ (w : Form). true) refl

long_by : (f : Flow) (t p s : ℕ) → p < 65536 → p ≡ named_by f t → leb 2 (if_names f s) ≡ true → 2 ≤ s
unfolding if_names
long_by Stop t p s h e g = absurd (omega arith)
long_by Next t p s h e g = absurd (omega arith)
long_by Jump t p s h e g = leb-true 2 s g
long_by Branch t p s h e g = leb-true 2 s g

module _ (mode : Mode) (image m : List ℕ) (B : Small image) (p q : ℕ) where
  -- what a name says of the position that has it
  traced_by : p < 65536 → (t w : Bool) → traced_at image m q ≡ t → is_whole image q ≡ w → p ≡ cond t (cond w (name_here mode image q) 65536) 65536
      → (t ≡ true) × (w ≡ true)
  traced_by h true true f g e = (refl, refl)
  traced_by h true false f g e = absurd (omega arith)
  traced_by h false w f g e = absurd (omega arith)

  named_from_lem : p < 65536 → p ≡ name_at mode image m q → (traced_at image m q ≡ true) × (is_whole image q ≡ true) × (p ≡ name_here mode image q)
  unfolding name_at name_of
  named_from_lem h e =
      let x = traced_by h (traced_at image m q) (is_whole image q) refl refl e in
      (x.0, x.1, e ∙ rw (x.0, x.1))

  pub namer_traced : length image ≤ 65536 → names_it mode image m p q ≡ true → traced_at image m q ≡ true
  namer_traced h e = let x = name_inside mode image m p q e in (named_from_lem (omega (arith, x.0)) x.1).0

  pub namer_early : length image ≤ 65536 → names_it mode image m p q ≡ true → q + 1 < length image
  unfolding fits_here
  namer_early h e =
      let x = name_inside mode image m p q e in
      let small : p < 65536 = omega (arith, x.0) in
      let y = named_from_lem small x.1 in
      let f : Flow = flow_of (form_here image q) in
      let t : ℕ = place_of (address_in mode (q + size_here image q) (instr_here image q)) in
      let s : 2 ≤ size_here image q =
      long_by f t p (size_here image q) small (y.2 ∙ sym (names_by_flow mode image q B f refl)) (naming_long (form_here image q) (form_here_lem image q B)) in
      let w : q + size_here image q ≤ length image =
      leb-true (q + size_here image q) (length image) (second_part (ltb q (length image) && leb (length image) 65536) _ y.1) in
      omega (arith, s, w)
