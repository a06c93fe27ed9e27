-- What decode answers of the bytes from a position on is what stands there.
-- Assumes nothing.
use Rattle.std.proofs.Common.{◌≡◌, ℕ, ◌+◌, ◌-◌, ◌<◌, ◌≤◌, Bool, true, false, cond, List, [], ◌∷◌, length, get_or, take, drop, pos, sym, refl, ap, ◌∙◌, add-zero, arith, length-drop, get_or-drop, take_all, le-ltb, lt-ltb, leb-false, leb-true}
use Rattle.instruction.specs.Answer.{Answer, accepted, refused}
use Rattle.instruction.specs.CutOff.{cut_values}
use Rattle.instruction.specs.declared.answer.CutOff.{CutOff}
use Rattle.instruction.specs.Decode.{decode_answer, cut_at}
use Rattle.instruction.specs.Forms.{form_of}
use Rattle.instruction.specs.declared.decode.DecodeError.TheVariants as e
use Rattle.instruction.specs.declared.instr.Instr.{Instr}
use Rattle.instruction.proofs.Decoding.{cut, cut_at_lem, found}
use Rattle.instruction_laws.proofs.Apart.{answers_apart}
use Rattle.instruction_laws.proofs.Missing.{cut_from}
use Rattle.targets.specs.Here.{here_of}
use Rattle.targets.specs.At.{form_here, size_here, fits_here, instr_here}
use Rattle.targets.specs.declared.not_whole.NotWhole.TheVariants.{Cut, Outside}
use Rattle.std.specs.Prelude.{Ok, Err}

-- a part to the end is the rest
pub to_end : (image : List ℕ) (p : ℕ) → take (length image - p) (drop p image) ≡ drop p image
to_end image p = take_all (length image - p) (drop p image) (omega (arith, length-drop p image))

module _ (image : List ℕ) (p : ℕ) where
  pub outside_here : length image ≤ p → Err Outside ≡ here_of image p
  unfolding here_of
  outside_here h = rw (le-ltb p (length image) h)

  module _ (inside : p < length image) where
    abbrev s : List ℕ
    s = drop p image

    first : get_or s 0 0 ≡ get_or image p 0
    first = get_or-drop p image 0 0 ∙ ap (λ (n : ℕ). get_or image n 0) (add-zero p)

    long : length s ≡ length image - p
    long = length-drop p image

    some : length s ≡ 0 → ⊥
    some e = omega (arith, long)

    form : form_here image p ≡ form_of (get_or s 0 0)
    form = ap form_of (sym first)

    -- the values of refusal 5 say what it tells
    told : (c : CutOff) → ◌≡◌ {A = Answer Instr} (refused 5 (cut_values c)) (refused 5 (cut_values (cut_at s 0))) → c ≡ cut_at s 0
    told c q = let g = answers_apart.decode (Err (e.Cut c)) (Err (e.Cut (cut_at s 0))) q in cc

    -- the instruction, or refusal 5
    pub answer : (t : Bool) → fits_here image p ≡ t → decode_answer s ≡ cond t (accepted (instr_here image p)) (refused 5 (cut_values (cut_at s 0)))
    unfolding fits_here instr_here
    answer true e =
        let h : p + size_here image p ≤ length image = leb-true (p + size_here image p) (length image) e in
        sym (found s some (form_here image p) form (omega (arith, long)) _ refl _ refl)
    answer false e =
        let h : length image < p + size_here image p = leb-false (p + size_here image p) (length image) e in
        sym (cut s some (form_here image p) form (omega (arith, long)))

    pub whole_here : (i : Instr) → accepted i ≡ decode_answer s → Ok i ≡ here_of image p
    unfolding here_of
    whole_here i e = rw (lt-ltb p (length image) inside) (by (fits_here image p) refl)
      where
        by : (t : Bool) → fits_here image p ≡ t → Ok i ≡ cond t (Ok (instr_here image p)) (Err (Cut (cut_at image p)))
        by true f = let g : accepted i ≡ accepted (instr_here image p) = e ∙ answer true f in cc
        by false f =
            let g : accepted i ≡ refused 5 (cut_values (cut_at s 0)) = e ∙ answer false f in
            let z : ◌≡◌ {A = ℕ} 0 1 = cc in absurd (omega arith)

    pub cut_here : (c d : CutOff) → refused 5 (cut_values c) ≡ decode_answer s → (d.position ≡ p) × (d.first ≡ c.first) × (d.missing ≡ c.missing)
        → Err (Cut d) ≡ here_of image p
    unfolding here_of cut_at
    cut_here c d e q = rw (lt-ltb p (length image) inside) (by (fits_here image p) refl)
      where
        by : (t : Bool) → fits_here image p ≡ t → Err (Cut d) ≡ cond t (Ok (instr_here image p)) (Err (Cut (cut_at image p)))
        by true f =
            let g : refused 5 (cut_values c) ≡ accepted (instr_here image p) = e ∙ answer true f in
            let z : ◌≡◌ {A = ℕ} 0 1 = cc in absurd (omega arith)
        by false f =
            let g : ◌≡◌ {A = Answer Instr} (refused 5 (cut_values c)) (refused 5 (cut_values (cut_at s 0))) = e ∙ answer false f in
            let from : c ≡ record { position = 0; first = (cut_at image p).first; missing = (cut_at image p).missing } = told c g ∙ cut_from image p in
            ap (λ (x : CutOff). Err (Cut x)) (cut_at_lem image p d q.0 (q.1 ∙ ap (λ (x : CutOff). x.first) from) (q.2 ∙ ap (λ (x : CutOff). x.missing) from))

    pub never_nothing : refused 12 (pos 0 ∷ []) ≡ decode_answer s → ⊥
    never_nothing e = by (fits_here image p) refl
      where
        by : (t : Bool) → fits_here image p ≡ t → ⊥
        by true f =
            let g : refused 12 (pos 0 ∷ []) ≡ accepted (instr_here image p) = e ∙ answer true f in
            let z : ◌≡◌ {A = ℕ} 0 1 = cc in omega arith
        by false f =
            let g : ◌≡◌ {A = Answer Instr} (refused 12 (pos 0 ∷ [])) (refused 5 (cut_values (cut_at s 0))) = e ∙ answer false f in
            let h : ◌≡◌ {A = ℕ} 12 5 = cc in omega arith
