-- Which bytes are code in any order, and which may be: the mask of marks that lie between the two reachable sets.
-- Assumes nothing.
use mathlib.Core.Path.{◌≡◌, refl, sym, ap, ◌∙◌}
use mathlib.Core.Bool.{Bool, true, false}
use mathlib.Core.List.{List}
use mathlib.Core.Logic.{inl, inr}
use Prim.Native.Nat.{ℕ, ◌<◌}
use native.Mathlib.Omega.{arith}
use lib.ListN.{length, get_or}
use lib.Seq.{ext_get_or}
use Rattle.instruction.proofs.Sign.{never}
use Rattle.instruction.specs.declared.mode.Mode.{Mode}
use Rattle.reach.proofs.Arrived.{arrived}
use Rattle.trace_laws.specs.ClaimsBetween.{SetsAgree}
use Rattle.trace_laws.specs.ClaimsJoin.{TracedToEnd}
use Rattle.trace_laws.proofs.Ends.{between}
use Rattle.views.specs.Positions.{bit}
use Rattle.views.specs.Mask.{masked, mask_of}
use Rattle.views.proofs.Masking.{mask_length}
use Rattle.views_laws.specs.ClaimsCode.{Code, TellsCode}
use Rattle.views_laws.specs.ClaimsBetweenViews.{SurelyCode, MaskBetween, AgreedCodeBytes, AgreedSameMask}
use Rattle.views_laws.proofs.MaskedBy.{masked_under, under_masked, mask_at}

module _ (mode : Mode) (image entries pins m : List ℕ) (T : TracedToEnd mode image entries pins m) (b : ℕ) where
  -- a byte that is masked is code
  pub masked_code : masked image m b ≡ true → Code mode image entries pins b
  masked_code e =
      let U = masked_under image m b e in
      let r = (between mode image entries pins m T).traced_only U.position U.inside U.is_traced in
      record { position = U.position; reached = r.0; fits = r.1; from = U.from; to = U.to }

  -- and what is code in any order is masked
  pub surely_masked : SurelyCode mode image entries pins b → masked image m b ≡ true
  surely_masked C =
      under_masked image m b record {
        position = C.position;
        inside = (arrived C.reached).inside;
        is_traced = (between mode image entries pins m T).traced_all C.position C.reached C.fits;
        from = C.from;
        to = C.to;
      }

pub mask_between : MaskBetween
mask_between mode image entries pins m T b h = (
  λ C. mask_at image m b h ∙ ap bit (surely_masked mode image entries pins m T b C),
  λ n. mask_at image m b h ∙ ap bit (unmasked n (masked image m b) refl),
)
  where
    unmasked : (Code mode image entries pins b → ⊥) → (t : Bool) → masked image m b ≡ t → masked image m b ≡ false
    unmasked n true e = absurd (n (masked_code mode image entries pins m T b e))
    unmasked n false e = e

-- where the two sets agree, code is code in any order
sure : (mode : Mode) (image entries pins : List ℕ) → SetsAgree mode image entries pins true → (b : ℕ)
    → Code mode image entries pins b → SurelyCode mode image entries pins b
sure mode image entries pins a b C =
    record { position = C.position; reached = a C.position C.fits C.reached; fits = C.fits; from = C.from; to = C.to }

pub agreed_code_bytes : AgreedCodeBytes
agreed_code_bytes mode image entries pins m a T b h = by (masked image m b) refl
  where
    by : (t : Bool) → masked image m b ≡ t → TellsCode mode image entries pins m b
    by true e = inl (mask_at image m b h ∙ ap bit e, masked_code mode image entries pins m T b e)
    by false e =
        inr (mask_at image m b h ∙ ap bit e, λ C. never (sym (surely_masked mode image entries pins m T b (sure mode image entries pins a b C)) ∙ e))

pub agreed_same_mask : AgreedSameMask
agreed_same_mask mode image entries pins m m' a T T' =
    ext_get_or 0 (mask_of image m) (mask_of image m') (mask_length image m ∙ sym (mask_length image m'))
    (λ b l. let h : b < length image = omega (arith, mask_length image m) in
    by b (agreed_code_bytes mode image entries pins m a T b h) (agreed_code_bytes mode image entries pins m' a T' b h))
  where
    by : (b : ℕ) → TellsCode mode image entries pins m b → TellsCode mode image entries pins m' b → get_or (mask_of image m) b 0 ≡ get_or (mask_of image m') b 0
    by b (inl x) (inl y) = x.0 ∙ sym y.0
    by b (inl x) (inr y) = absurd (y.1 x.1)
    by b (inr x) (inl y) = absurd (x.1 y.1)
    by b (inr x) (inr y) = x.0 ∙ sym y.0
