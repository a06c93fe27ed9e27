-- Whether control goes on from an instruction to the position behind it, by what its first byte says.
-- Assumes nothing.
use Rattle.std.proofs.Common.{◌≡◌, ℕ, ◌+◌, Bool, true, false, ◌&&◌, eqb, ltb, leb, List, length, pos, sym, refl, ap, ◌∙◌, lt-ltb, le-leb}
use Rattle.instruction.proofs.Ands.{both}
use Rattle.instruction.specs.Flow.{flow_of}
use Rattle.instruction.specs.declared.mode.Mode.{Mode}
use Rattle.targets.specs.At.{form_here, size_here, fits_here, place_of}
use Rattle.targets.specs.Targets.{in_mode}
use Rattle.targets.specs.Ways.{is_whole, goes_on, falls_to}
use Rattle.targets.specs.declared.opening.Opening.{Opening}
use Rattle.targets.proofs.Openings.{IsWhole}

module _ (mode : Mode) (image : List ℕ) (q p : ℕ) where
  falls_by : (w g : Bool) → is_whole image q ≡ w → goes_on (flow_of (form_here image q)) ≡ g
      → (w && (g && eqb p (place_of (in_mode mode (pos (q + size_here image q)))))) ≡ falls_to mode image q p
  unfolding falls_to
  falls_by w g e f = rw (e, f) refl

  pub falls_none : is_whole image q ≡ false → false ≡ falls_to mode image q p
  falls_none e = falls_by false _ e refl

  module _ (o : Opening) (W : IsWhole image q o) where
    whole : is_whole image q ≡ true
    whole =
        both (ltb q (length image) && leb (length image) 65536) (fits_here image q)
        (both (ltb q (length image)) (leb (length image) 65536) (lt-ltb q (length image) W.inside) (le-leb (length image) 65536 W.small)) W.fits

    pub falls_not : goes_on o.flow ≡ false → false ≡ falls_to mode image q p
    falls_not e = falls_by true false whole (ap goes_on (sym W.flow) ∙ e)

    pub falls_so : goes_on o.flow ≡ true → (k : ℕ) → k ≡ place_of (in_mode mode (pos o.next)) → eqb p k ≡ falls_to mode image q p
    falls_so e k g =
        ap (eqb p) (g ∙ ap (λ (j : ℕ). place_of (in_mode mode (pos j))) W.next) ∙ falls_by true true whole (ap goes_on (sym W.flow) ∙ e)
