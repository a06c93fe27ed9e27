-- Two tables of marks in which no step of a small image is accepted.
-- Assumes nothing.
use Prim.Native.Nat.{ℕ, zero, suc, ◌<◌}
use native.Mathlib.Omega.{arith}
use mathlib.Core.List.{List, [], ◌∷◌}
use mathlib.Core.Path.{◌≡◌, refl, sym, ap, ◌∙◌}
use lib.ListN.{get_or}
use Rattle.instruction.proofs.Sign.{never}
use Rattle.instruction.specs.Forms.{forms, form_at, form_of}
use Rattle.instruction.specs.Pattern.{pattern, pattern_bytes, onto, bits_given, next_bracket}
use Rattle.instruction.specs.declared.mode.Mode.TheVariants.{Unwrapped}
use Rattle.targets.specs.At.{fits_here}
use Rattle.trace_laws.specs.ClaimsImages.{Still}
use Rattle.trace_laws.proofs.Accepted.{went}
use Rattle.trace_laws.proofs.SampleSets.{six}

-- nothing can be taken up: no position waits but 5, which is cut off
abbrev five_waits : List ℕ
five_waits = 2 ∷ 0 ∷ 2 ∷ 0 ∷ 0 ∷ 1 ∷ []

abbrev none_waits : List ℕ
none_waits = 2 ∷ 0 ∷ 3 ∷ 0 ∷ 0 ∷ 0 ∷ []

left_five : (p : ℕ) → p < 6 → get_or five_waits p 0 ≡ 1 → p ≡ 5
left_five zero h e = absurd (let z : ◌≡◌ {A = ℕ} 2 1 = e in omega arith)
left_five (suc zero) h e = absurd (let z : ◌≡◌ {A = ℕ} 0 1 = e in omega arith)
left_five (suc (suc zero)) h e = absurd (let z : ◌≡◌ {A = ℕ} 2 1 = e in omega arith)
left_five (suc (suc (suc zero))) h e = absurd (let z : ◌≡◌ {A = ℕ} 0 1 = e in omega arith)
left_five (suc (suc (suc (suc zero)))) h e = absurd (let z : ◌≡◌ {A = ℕ} 0 1 = e in omega arith)
left_five (suc (suc (suc (suc (suc zero))))) h e = refl
left_five (suc (suc (suc (suc (suc (suc p)))))) h e = absurd (omega arith)

pub still_five : Still Unwrapped six five_waits
unfolding fits_here forms form_at form_of pattern pattern_bytes onto bits_given next_bracket
still_five p s e =
    let R = (went Unwrapped six five_waits p s e).ready in
    never (sym (ap (fits_here six) (sym (left_five p R.inside R.waits)) ∙ R.whole))

left_none : (p : ℕ) → p < 6 → get_or none_waits p 0 ≡ 1 → ⊥
left_none zero h e = let z : ◌≡◌ {A = ℕ} 2 1 = e in omega arith
left_none (suc zero) h e = let z : ◌≡◌ {A = ℕ} 0 1 = e in omega arith
left_none (suc (suc zero)) h e = let z : ◌≡◌ {A = ℕ} 3 1 = e in omega arith
left_none (suc (suc (suc zero))) h e = let z : ◌≡◌ {A = ℕ} 0 1 = e in omega arith
left_none (suc (suc (suc (suc zero)))) h e = let z : ◌≡◌ {A = ℕ} 0 1 = e in omega arith
left_none (suc (suc (suc (suc (suc zero))))) h e = let z : ◌≡◌ {A = ℕ} 0 1 = e in omega arith
left_none (suc (suc (suc (suc (suc (suc p)))))) h e = omega arith

pub still_none : Still Unwrapped six none_waits
still_none p s e = let R = (went Unwrapped six none_waits p s e).ready in left_none p R.inside R.waits
