-- The reachable sets of small images with B8 0D 21.
-- Assumes nothing.
use Prim.Native.Nat.{ℕ}
use mathlib.Core.Bool.{true}
use mathlib.Core.List.Memᴰ
use mathlib.Core.List.{List, [], ◌∷◌, ◌++◌, Memᴰ as Among}
use mathlib.Core.Logic.{◌⊎◌, inl, inr, ⊎_elim}
use mathlib.Core.Path.{◌≡◌, sym, ap, subst, ◌∙◌}
use Rattle.instruction.proofs.Sign.{never}
use Rattle.instruction.specs.Decode.{fields_in}
use Rattle.instruction.specs.Forms.{forms, form_at, form_of, form_named}
use Rattle.instruction.specs.Kinds.{kinds_of}
use Rattle.instruction.specs.Parts.{parts_of, made_of}
use Rattle.instruction.specs.Pattern.{pattern, pattern_bytes, onto, bits_given, next_bracket}
use Rattle.instruction.specs.Flow.{stops, jumps, branches, flow_of}
use Rattle.instruction.specs.declared.mode.Mode.TheVariants.{Unwrapped}
use Rattle.targets.specs.At.{fits_here, instr_here, ways_here, flash_here}
use Rattle.targets.specs.Targets.{address_of, address_in, targets_in}
use Rattle.reach.specs.Reach.{entry, target}
use Rattle.reach.proofs.Arrived.{arrived}
use Rattle.trace_laws.specs.ClaimsBetweenSamples as claims
use Rattle.trace_laws.specs.ClaimsBetween.{SetsAgree}
use Rattle.trace_laws.specs.Reachable.{unfollowed, Reachable, SurelyReachable}

-- from 2 alone the Jmpf at 2 leads nowhere
pub only_two : {q : ℕ} → SurelyReachable Unwrapped (claims.flash_to 0) (2 ∷ []) [] q → q ≡ 2
unfolding flash_here forms form_at form_of form_named pattern pattern_bytes onto bits_given next_bracket
only_two (entry i o) = Memᴰ.eq_of_singleton i
only_two (target {p = p} {q = q} r f i o) =
    absurd (Memᴰ.not-nil (subst (λ (k : ℕ). Among q (unfollowed Unwrapped (claims.flash_to 0) k)) (only_two r) i))

one_of_two : {q a b : ℕ} → Among q (a ∷ b ∷ []) → (q ≡ a) ⊎ (q ≡ b)
one_of_two i = ⊎_elim (λ e. inl e) (λ j. inr (Memᴰ.eq_of_singleton j)) (Memᴰ.cases_cons i)

-- from 0 and 2 neither leads past them
pub zero_or_two : {q : ℕ} → SurelyReachable Unwrapped (claims.flash_to 4) (0 ∷ 2 ∷ []) [] q → (q ≡ 0) ⊎ (q ≡ 2)
unfolding ways_here instr_here fields_in flash_here forms form_at form_of form_named kinds_of parts_of made_of pattern pattern_bytes onto bits_given next_bracket
    targets_in address_in address_of flow_of stops jumps branches
zero_or_two (entry i o) = one_of_two i
zero_or_two (target {p = p} {q = q} r f i o) = ⊎_elim (λ e. inr (Memᴰ.eq_of_singleton (at e))) (λ e. absurd (Memᴰ.not-nil (at e))) (zero_or_two r)
  where
    at : {k : ℕ} → p ≡ k → Among q (unfollowed Unwrapped (claims.flash_to 4) k)
    at e = subst (λ (k : ℕ). Among q (unfollowed Unwrapped (claims.flash_to 4) k)) e i

-- the larger set of the image whose last byte begins an instruction that is cut off

abbrev pub six : List ℕ
six = claims.flash_to 5 ++ (0x68 ∷ [])

zero_two_five : {q : ℕ} → Reachable Unwrapped six (0 ∷ 2 ∷ []) [] q → (q ≡ 0) ⊎ ((q ≡ 2) ⊎ (q ≡ 5))
unfolding ways_here instr_here fits_here fields_in forms form_at form_of form_named kinds_of parts_of made_of pattern pattern_bytes onto bits_given next_bracket
    targets_in address_in address_of flow_of stops jumps branches
zero_two_five (entry i o) = ⊎_elim (λ e. inl e) (λ e. inr (inl e)) (one_of_two i)
zero_two_five (target {p = p} {q = q} r f i o) = by (zero_two_five r)
  where
    at : {k : ℕ} → p ≡ k → Among q (ways_here Unwrapped six k)
    at e = subst (λ (k : ℕ). Among q (ways_here Unwrapped six k)) e i

    by : (p ≡ 0) ⊎ ((p ≡ 2) ⊎ (p ≡ 5)) → (q ≡ 0) ⊎ ((q ≡ 2) ⊎ (q ≡ 5))
    by (inl e) = inr (inl (Memᴰ.eq_of_singleton (at e)))
    by (inr (inl e)) = inr (inr (Memᴰ.eq_of_singleton (at e)))
    by (inr (inr e)) = absurd (never (sym (ap (fits_here six) (sym e) ∙ f)))

pub agree_six : SetsAgree Unwrapped six (0 ∷ 2 ∷ []) [] true
unfolding fits_here forms form_at form_of pattern pattern_bytes onto bits_given next_bracket
agree_six q f r = by (zero_two_five r)
  where
    by : (q ≡ 0) ⊎ ((q ≡ 2) ⊎ (q ≡ 5)) → SurelyReachable Unwrapped six (0 ∷ 2 ∷ []) [] q
    by (inl e) = entry (Among.head e) (arrived r)
    by (inr (inl e)) = entry (Among.tail (Among.head e)) (arrived r)
    by (inr (inr e)) = absurd (never (sym (ap (fits_here six) (sym e) ∙ f)))
