-- Targets that the line before had: none where it is not traced or has mark 3; and the position behind it is one where control goes on.
-- Assumes nothing.
use Prim.Native.Nat.{ℕ, ◌<◌}
use mathlib.Core.Path.{◌≡◌, refl, sym, ap, ◌∙◌}
use mathlib.Core.Bool.{Bool, true, false, cond}
use mathlib.Core.List.{List, [], map}
use lib.Dec.{eqb}
use lib.IntN.{ℤ}
use lib.ListN.{length, get_or}
use Rattle.instruction.proofs.Ands.{first_part, second_part}
use Rattle.instruction.proofs.Sign.{never}
use Rattle.instruction.specs.Flow.{flow_of}
use Rattle.instruction.specs.declared.flow.Flow.{Flow}
use Rattle.instruction.specs.declared.flow.Flow.TheVariants.{Stop, Next, Jump, Branch}
use Rattle.instruction.specs.declared.mode.Mode.{Mode}
use Rattle.targets.specs.At.{form_here, place_of, ways_here}
use Rattle.targets.specs.Targets.{by_flow}
use Rattle.targets.specs.Ways.{is_whole, goes_on, falls_to, ways_of}
use Rattle.targets.proofs.Openings.{goes}
use Rattle.targets.proofs.Within.{Small}
use Rattle.reach.specs.Mark.{flash}
use Rattle.views.specs.Positions.{some, traced_at}
use Rattle.views.proofs.Ors.{or_first, or_second}
use Rattle.arrivals.specs.Arrivals.{held_at, arrives}
use Rattle.arrivals.proofs.Holding.{gone_whole, untraced_held, flash_held, traced_held}
use Rattle.arrivals.proofs.Arriving.{nowhere, by_targets}

-- where control goes on, what comes behind is among where it goes
goes_behind : (p : ℕ) (t n : ℤ) (f : Flow) → goes_on f ≡ true → eqb p (place_of n) ≡ true → some (eqb p) (map place_of (by_flow f t n)) ≡ true
unfolding some
goes_behind p t n Stop g e = absurd (never (sym g))
goes_behind p t n Next g e = or_first (eqb p (place_of n)) false e
goes_behind p t n Jump g e = absurd (never (sym g))
goes_behind p t n Branch g e = or_second (eqb p (place_of t)) _ (or_first (eqb p (place_of n)) false e)

module _ (mode : Mode) (image m : List ℕ) (q p : ℕ) (inside : p < length image) where
  pub untraced_none : traced_at image m q ≡ false → false ≡ arrives mode image m p q
  untraced_none e = nowhere p ∙ by_targets mode image m p inside q _ (untraced_held mode image q m e)

  pub flash_none : get_or m q 0 ≡ flash → false ≡ arrives mode image m p q
  flash_none e = nowhere p ∙ by_targets mode image m p inside q _ (flash_held mode image q m e)

  ways_held : traced_at image m q ≡ true → (get_or m q 0 ≡ flash → ⊥) → is_whole image q ≡ true → ways_here mode image q ≡ held_at mode image m q
  ways_held t n w =
      ap (λ (b : Bool). cond b (ways_here mode image q) []) (sym w) ∙ sym (gone_whole mode image q) ∙ traced_held mode image q m t n (ways_of mode image q) refl

  pub behind_arrives : Small image → traced_at image m q ≡ true → (get_or m q 0 ≡ flash → ⊥) → falls_to mode image q p ≡ true → true ≡ arrives mode image m p q
  unfolding falls_to
  behind_arrives s t n e =
      let g = second_part (is_whole image q) _ e in
      let f : Flow = flow_of (form_here image q) in
      sym (ap (some (eqb p)) (sym (goes mode image q s f refl)) ∙ goes_behind p _ _ f (first_part (goes_on f) _ g) (second_part (goes_on f) _ g))
      ∙ by_targets mode image m p inside q _ (ways_held t n (first_part (is_whole image q) _ e))
