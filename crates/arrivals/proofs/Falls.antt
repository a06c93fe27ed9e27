-- Control that goes on to the position behind: from where it can come, and who arrives besides.
-- Assumes nothing.
use mathlib.Core.Path.{◌≡◌, refl, sym, ap, ◌∙◌}
use mathlib.Core.Bool.{Bool, true, false, cond, not, ◌&&◌, ◌||◌}
use mathlib.Core.List.{List, [], map}
use Prim.Native.Nat.{ℕ, ◌+◌, ◌-◌, ◌%◌, ◌<◌, ◌≤◌}
use native.Mathlib.Omega.{arith}
use lib.Dec.{eqb, ltb, leb}
use Rattle.std.proofs.Common.{Option, Some, None, MatchOption}
use Rattle.std.specs.Option.{unwrap_or}
use lib.IntN.{ℤ, pos}
use lib.ListN.{length, get_or}
use borrow.Author.Tests.{lt-ltb, ltb-true, ltb-false, leb-true, eqb-true, eqb-false, ne_eqb, lt-leb}
use Rattle.instruction.proofs.Ands.{not_first, not_second, first_alone, first_part, second_part}
use Rattle.instruction.specs.Flow.{flow_of}
use Rattle.instruction.specs.declared.flow.Flow.{Flow}
use Rattle.instruction.specs.declared.flow.Flow.TheVariants.{Stop, Next, Jump, Branch}
use Rattle.instruction.specs.declared.mode.Mode.{Mode}
use Rattle.instruction.specs.declared.mode.Mode.TheVariants.{Unwrapped, Wrapping}
use Rattle.targets.specs.At.{form_here, size_here, fits_here, instr_here, place_of, ways_here, name_here, named_by}
use Rattle.targets.specs.Targets.{in_mode, address_in, by_flow}
use Rattle.targets.specs.Ways.{is_whole, goes_on, falls_to, name_of}
use Rattle.targets.proofs.Openings.{goes, names_by_flow}
use Rattle.targets.proofs.Within.{Small, size_short}
use Rattle.reach.specs.Mark.{flash}
use Rattle.reach.specs.Tracer.{held}
use Rattle.views.specs.Positions.{some, traced_at}
use Rattle.views.proofs.Ors.{or_start, or_rest}
use Rattle.views.proofs.TracedAt.{traced_inside}
use Rattle.arrivals.specs.Arrivals.{held_at, arrives}
use Rattle.arrivals.specs.Index.{name_at, names_it, names_held, is_held, falls_from, next_fall}
use Rattle.arrivals.proofs.Lowest.{low_here, low_over, low_none}

-- ---- what the code asks

module _ (mode : Mode) (image m : List ℕ) (p q : ℕ) where
  pub unheld_falls : (traced_at image m q && is_held m q) ≡ false → false ≡ falls_from mode image m p q
  unfolding falls_from
  unheld_falls e = sym (not_first _ (falls_to mode image q p) e)

  pub held_falls : (traced_at image m q && is_held m q) ≡ true → falls_to mode image q p ≡ falls_from mode image m p q
  unfolding falls_from
  held_falls e = rw e

  pub past_limit : 65536 < length image → falls_from mode image m p q ≡ false
  unfolding falls_from falls_to
  past_limit h =
      not_second (traced_at image m q && is_held m q) _
      (not_first (is_whole image q) _ (not_first _ (fits_here image q) (not_second (ltb q (length image)) _ (lt-leb (length image) 65536 h))))

-- ---- from where it can come

-- the position behind, in the mode: where the instruction ends, or the beginning of memory for its end
behind : (mode : Mode) (p k n : ℕ) → 0 < k → k ≤ n → n ≤ 65536 → p ≡ place_of (in_mode mode (pos k)) → cond (eqb p 0) n p ≡ k
behind Unwrapped p k n l h f e = by (eqb p 0) refl
  where
    by : (t : Bool) → eqb p 0 ≡ t → cond t n p ≡ k
    by true g = absurd (let z = eqb-true p 0 g in omega arith)
    by false g = e
behind Wrapping p k n l h f e = by (eqb p 0) refl
  where
    by : (t : Bool) → eqb p 0 ≡ t → cond t n p ≡ k
    by true g = let z = eqb-true p 0 g in let w : p ≡ k % 65536 = e in omega arith
    by false g = let z : p ≡ 0 → ⊥ = eqb-false p 0 g in let w : p ≡ k % 65536 = e in omega arith

module _ (mode : Mode) (image m : List ℕ) (B : Small image) (p q : ℕ) where
  -- within three positions before
  pub falls_near : falls_from mode image m p q ≡ true → (q < cond (eqb p 0) (length image) p) × (cond (eqb p 0) (length image) p - 3 ≤ q)
  unfolding falls_from falls_to fits_here
  falls_near e =
      let g = second_part (traced_at image m q && is_held m q) _ e in
      let w = first_part (is_whole image q) _ g in
      let f = second_part (goes_on (flow_of (form_here image q))) _ (second_part (is_whole image q) _ g) in
      let k : ℕ = q + size_here image q in
      let inside = first_part (ltb q (length image) && leb (length image) 65536) _ w in
      let s : length image ≤ 65536 = leb-true (length image) 65536 (second_part (ltb q (length image)) _ inside) in
      let h : k ≤ length image = leb-true k (length image) (second_part (ltb q (length image) && leb (length image) 65536) _ w) in
      let z = size_short image q B in
      let x : cond (eqb p 0) (length image) p ≡ k = behind mode p k (length image) (omega (arith, z.0)) h s (eqb-true p (place_of (in_mode mode (pos k))) f) in
      (omega (arith, x, z.0), omega (arith, x, z.1))

module _ (mode : Mode) (image m : List ℕ) (p q : ℕ) where
  abbrev n : ℕ
  n = length image

  pub falls_inside : falls_from mode image m p q ≡ true → q < n
  unfolding falls_from
  falls_inside e = traced_inside image m q (first_part (traced_at image m q) _ (first_part (traced_at image m q && is_held m q) _ e))

module _ (mode : Mode) (image m : List ℕ) (B : Small image) (fits : length image ≤ 65536) (p e : ℕ) where
  abbrev F : ℕ → Bool
  F = falls_from mode image m p

  -- the window before e, and past it
  pub window_start : (k q : ℕ) → e ≡ cond (eqb p 0) (length image) p → q ≡ cond (ltb k (e - 3)) (e - 3) k
      → next_fall mode image m p q ≡ next_fall mode image m p k
  window_start k q d f = by (ltb k (e - 3)) refl f
    where
      early : (r : ℕ) → r < e - 3 → (t : Bool) → F r ≡ t → F r ≡ false
      early r h true g = absurd (let z = (falls_near mode image m B p r g).1 in omega (arith, z, d, h))
      early r h false g = g

      by : (t : Bool) → ltb k (e - 3) ≡ t → q ≡ cond t (e - 3) k → next_fall mode image m p q ≡ next_fall mode image m p k
      by true g i =
          let h = ltb-true k (e - 3) g in
          low_over (length image) fits F k q (omega (arith, h, i)) (λ r a b c. early r (omega (arith, b, i)) (F r) refl)
      by false g i = ap (next_fall mode image m p) i

  pub window_end : (q : ℕ) → e ≡ cond (eqb p 0) (length image) p → e ≤ q → next_fall mode image m p q ≡ 65536
  window_end q d h = low_none (length image) fits F q (λ r a b. late r a (F r) refl)
    where
      late : (r : ℕ) → q ≤ r → (t : Bool) → F r ≡ t → F r ≡ false
      late r a true g = absurd (let z = (falls_near mode image m B p r g).0 in omega (arith, z, d, h, a))
      late r a false g = g

-- ---- who arrives: those that name p, and those that go on to it

two_ways_lem : (p : ℕ) → p < 65536 → (f : Flow) (t n : ℤ)
    → some (eqb p) (map place_of (by_flow f t n)) ≡ (eqb p (named_by f (place_of t)) || (goes_on f && eqb p (place_of n)))
unfolding some
two_ways_lem p h Stop t n = sym (ap (λ (b : Bool). b || false) (ne_eqb p 65536 (λ e. omega arith)))
two_ways_lem p h Next t n = or_start (eqb p (place_of n)) false refl ∙ sym (or_rest (eqb p 65536) _ (ne_eqb p 65536 (λ e. omega arith)))
two_ways_lem p h Jump t n = refl
two_ways_lem p h Branch t n = ap (λ (b : Bool). eqb p (place_of t) || b) (or_start (eqb p (place_of n)) false refl)

-- what the search of the window tells
module _ (mode : Mode) (image m : List ℕ) (B : Small image) (fits : length image ≤ 65536) (p e k q : ℕ)
    (d : e ≡ cond (eqb p 0) (length image) p) (f : q ≡ cond (ltb k (e - 3)) (e - 3) k) where
  abbrev falls : ℕ → Bool
  falls = falls_from mode image m p

  same_start : next_fall mode image m p q ≡ next_fall mode image m p k
  same_start = window_start mode image m B fits p e k q d f

  pub fall_found : (r : Option ℕ) → MatchOption r ((i : ℕ) → q ≤ i → i < e → falls i ≡ false)
      (λ x. (q ≤ x) × (x < e) × (falls x ≡ true) × ((i : ℕ) → q ≤ i → i < x → falls i ≡ false))
      → unwrap_or r 65536 ≡ next_fall mode image m p k
  fall_found None free = by (ltb q e) refl
    where
      by : (t : Bool) → ltb q e ≡ t → 65536 ≡ next_fall mode image m p k
      by true g =
          sym (window_end mode image m B fits p e e d (omega arith))
          ∙ low_over (length image) fits falls q e (omega (arith, ltb-true q e g)) (λ i a b c. free i a b) ∙ same_start
      by false g = sym (window_end mode image m B fits p e q d (ltb-false q e g)) ∙ same_start
  fall_found (Some x) h =
      sym (low_here falls (length image) x (falls_inside mode image m p x h.2) h.2)
      ∙ low_over (length image) fits falls q x h.0 (λ i a b c. h.3 i a b) ∙ same_start

module _ (mode : Mode) (image m : List ℕ) (B : Small image) (fits : length image ≤ 65536) (p q : ℕ) (h : p < length image) where
  abbrev going_on : Bool
  going_on = goes_on (flow_of (form_here image q)) && eqb p (place_of (in_mode mode (pos (q + size_here image q))))

  whole_ways : some (eqb p) (ways_here mode image q) ≡ (eqb p (name_here mode image q) || going_on)
  whole_ways =
      let f : Flow = flow_of (form_here image q) in
      ap (some (eqb p)) (sym (goes mode image q B f refl))
      ∙ two_ways_lem p (omega arith) f (address_in mode (q + size_here image q) (instr_here image q)) (in_mode mode (pos (q + size_here image q)))
      ∙ ap (λ (t : ℕ). eqb p t || going_on) (names_by_flow mode image q B f refl)

  outside : eqb p 65536 ≡ false
  outside = ne_eqb p 65536 (λ e. omega arith)

  pub arrives_either : arrives mode image m p q ≡ (names_held mode image m p q || falls_from mode image m p q)
  unfolding arrives held_at held names_held names_it name_at name_of falls_from falls_to some
  arrives_either = rw (lt-ltb p (length image) h) (by (traced_at image m q) (is_whole image q) (eqb (get_or m q 0) flash))
    where
      by : (t w f : Bool) → some (eqb p) (cond (t && w) (cond f [] (ways_here mode image q)) [])
          ≡ ((eqb p (cond t (cond w (name_here mode image q) 65536) 65536) && not f) || ((t && not f) && (w && going_on)))
      by true true true = sym (ap (λ (b : Bool). b || false) (not_second (eqb p (name_here mode image q)) false refl))
      by true true false = whole_ways ∙ ap (λ (b : Bool). b || going_on) (sym (first_alone (eqb p (name_here mode image q)) true refl))
      by true false true = rw outside
      by true false false = rw outside
      by false w f = rw outside
