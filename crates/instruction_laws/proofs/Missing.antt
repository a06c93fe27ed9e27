-- A form has at most three bytes and one is there, so one or two are missing.
-- Assumes nothing.
use mathlib.Core.Path.{◌≡◌, sym, ap, ap₂, subst, ◌∙◌}
use mathlib.Core.Logic.{◌⊎◌, inl, inr}
use Prim.Native.Nat.{ℕ, zero, suc, ◌-◌, ◌<◌}
use native.Mathlib.Nat.{add-zero}
use native.Mathlib.Omega.{arith}
use lib.IntN.{pos}
use lib.ListN.{length, get_or, drop, length-drop}
use lib.Seq.{get_or-drop}
use borrow.Author.Tests.{eqb-false, ltb-true}
use Rattle.instruction.proofs.Judging.{other_passed, this_spoke, done}
use Rattle.instruction.specs.Decode.{cut_at, decode_answer}
use Rattle.instruction.specs.Forms.{form_at, form_of, size_of}
use Rattle.instruction.proofs.Shapes.{size_range}
use Rattle.instruction_laws.specs.Missing.{OneOrTwo, CutMissing, DecodeMissing, CutFrom}
use Rattle.instruction_laws.proofs.Matching.{one_pattern}

one_or_two : (n : ℕ) → 0 < n → n < 3 → (n ≡ 1) ⊎ (n ≡ 2)
one_or_two zero h k = absurd (omega arith)
one_or_two (suc zero) h k = inl (omega arith)
one_or_two (suc (suc zero)) h k = inr (omega arith)
one_or_two (suc (suc (suc n))) h k = absurd (omega arith)

pub cut_missing : CutMissing
unfolding cut_at
cut_missing s p b inside short = by (one_or_two (size - (length s - p)) (omega arith) (omega (arith, (size_range k form).1)))
  where
    k : ℕ
    k = form_of (get_or s p 0)

    size : ℕ
    size = size_of (form_at k)

    form : k < 70
    form = (one_pattern (get_or s p 0) b).form

    by : (size - (length s - p) ≡ 1) ⊎ (size - (length s - p) ≡ 2) → (pos (size - (length s - p)) ≡ pos 1) ⊎ (pos (size - (length s - p)) ≡ pos 2)
    by (inl e) = inl (ap pos e)
    by (inr e) = inr (ap pos e)

pub decode_missing : DecodeMissing
unfolding decode_answer
decode_missing s bytes vs e =
    let passed = other_passed _ _ _ 5 vs e (λ f. let g : ◌≡◌ {A = ℕ} 12 5 = f in omega arith) in
    let spoke = this_spoke _ _ _ 5 vs passed.1 (λ f. let g = sym (done _) ∙ f in let z : ◌≡◌ {A = ℕ} 0 1 = cc in omega arith) in
    let some : length s ≡ 0 → ⊥ = eqb-false (length s) 0 passed.0 in
    let inside : 0 < length s = omega arith in
    let short : length s < size_of (form_at (form_of (get_or s 0 0))) = ltb-true _ _ spoke.0 in
    subst OneOrTwo spoke.1 (cut_missing s 0 (bytes 0) inside (omega arith))

pub cut_from : CutFrom
unfolding cut_at
cut_from s p =
    let first : get_or (drop p s) 0 0 ≡ get_or s p 0 = get_or-drop p s 0 0 ∙ ap (λ (n : ℕ). get_or s n 0) (add-zero p) in
    let left : length (drop p s) - 0 ≡ length s - p = omega (arith, length-drop p s) in
    ap₂ (λ (b : ℕ) (n : ℕ). record { position = 0; first = b; missing = size_of (form_at (form_of b)) - n }) first left
