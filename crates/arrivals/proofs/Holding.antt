-- The targets that a position had: each return of the code is one case of the definition.
-- Assumes nothing.
use mathlib.Core.Path.{◌≡◌, refl, ap, ◌∙◌}
use mathlib.Core.Bool.{Bool, true, false, cond, not, ◌&&◌}
use mathlib.Core.List.{List, []}
use Rattle.std.proofs.Common.{Result, Ok, Err}
use Prim.Native.Nat.{ℕ}
use lib.Dec.{eqb, ltb, leb}
use lib.ListN.{length, get_or}
use borrow.Author.Tests.{eq-eqb, ne_eqb, eqb-true, eqb-false, not-true}
use Rattle.instruction.specs.declared.answer.CutOff.{CutOff}
use Rattle.targets.specs.At.{fits_here, ways_here}
use Rattle.targets.specs.Ways.{is_whole, places_in, places_named, ways_of}
use Rattle.targets.specs.declared.place.Places.{Places}
use Rattle.targets.specs.declared.not_whole.NotWhole.{NotWhole}
use Rattle.targets.specs.declared.not_whole.NotWhole.TheVariants.{Cut, Outside}
use Rattle.instruction.proofs.Ands.{not_first, first_part, second_part}
use Rattle.instruction.proofs.Sign.{never}
use Rattle.instruction.specs.declared.mode.Mode.{Mode}
use Rattle.targets.proofs.WaysAre.{two_at_most}
use Rattle.reach.specs.Mark.{flash}
use Rattle.reach.specs.Tracer.{held}
use Rattle.views.specs.Positions.{traced_at}
use Rattle.arrivals.specs.Arrivals.{held_at}
use Rattle.arrivals.specs.Index.{is_held}

-- the positions where control goes
abbrev pub gone : Result Places NotWhole → List ℕ
gone (Ok ps) = places_in ps
gone (Err e) = []

either : (t : Bool) → ◌≡◌ {A = List ℕ} [] (cond t [] [])
either true = refl
either false = refl

module _ (mode : Mode) (image : List ℕ) (q : ℕ) where
  pub gone_whole : gone (ways_of mode image q) ≡ cond (is_whole image q) (ways_here mode image q) []
  unfolding ways_of
  gone_whole = by (ltb q (length image) && leb (length image) 65536) (fits_here image q) _
    where
      by : (b f : Bool) (c : CutOff) → gone (cond b (cond f (Ok (places_named (ways_here mode image q))) (Err (Cut c))) (Err Outside))
          ≡ cond (b && f) (ways_here mode image q) []
      by true true c = two_at_most mode image q
      by true false c = refl
      by false f c = refl

  module _ (m : List ℕ) where
    pub untraced_held : traced_at image m q ≡ false → [] ≡ held_at mode image m q
    unfolding held_at
    untraced_held e = rw (not_first (traced_at image m q) (is_whole image q) e)

    pub flash_held : get_or m q 0 ≡ flash → [] ≡ held_at mode image m q
    unfolding held_at held
    flash_held e = rw (eq-eqb (get_or m q 0) flash e) (either (traced_at image m q && is_whole image q))

    pub traced_held : traced_at image m q ≡ true → (get_or m q 0 ≡ flash → ⊥) → (w : Result Places NotWhole) → w ≡ ways_of mode image q → gone w ≡ held_at mode image m q
    unfolding held_at held
    traced_held t n w e = ap gone e ∙ gone_whole ∙ rw (t, ne_eqb (get_or m q 0) flash n)

    -- the same by both tests at once
    pub unheld : (traced_at image m q && is_held m q) ≡ false → [] ≡ held_at mode image m q
    unheld e = by (traced_at image m q) refl (eqb (get_or m q 0) flash) refl e
      where
        by : (t : Bool) → traced_at image m q ≡ t → (f : Bool) → eqb (get_or m q 0) flash ≡ f → (t && not f) ≡ false → [] ≡ held_at mode image m q
        by true d true f g = flash_held (eqb-true (get_or m q 0) flash f)
        by true d false f g = absurd (never g)
        by false d f e g = untraced_held d

    pub was_held : (traced_at image m q && is_held m q) ≡ true → (w : Result Places NotWhole) → w ≡ ways_of mode image q → gone w ≡ held_at mode image m q
    was_held h w e =
        traced_held (first_part (traced_at image m q) _ h) (eqb-false (get_or m q 0) flash (not-true _ (second_part (traced_at image m q) _ h))) w e
