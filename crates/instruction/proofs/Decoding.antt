-- The one answer of decode, from the tests of the code.
-- Assumes nothing.
use Rattle.std.proofs.Common.{◌≡◌, ℕ, ◌-◌, ◌<◌, ◌≤◌, List, [], ◌∷◌, length, get_or, ℤ, pos, sym, refl, ap, ◌∙◌, ap₂, arith, le-ltb, lt-ltb, eq-eqb, ne_eqb}
use Rattle.instruction.specs.Answer.{Answer, accepted, refused, on_accepted}
use Rattle.instruction.specs.CutOff.{cut_values}
use Rattle.instruction.specs.declared.decode.DecodeError.{DecodeError}
use Rattle.instruction.specs.declared.decode.DecodeError.TheVariants.{Nothing, Cut}
use Rattle.instruction.specs.Decode.{decode_refused, decode_answer, parts_answer, fields_in, cut_at}
use Rattle.instruction.specs.Forms.{form_at, form_of, size_of}
use Rattle.instruction.specs.Parts.{made_of, parts_of}
use Rattle.instruction.specs.declared.answer.CutOff.{CutOff}
use Rattle.instruction.specs.declared.instr.Instr.{Instr}
use Rattle.instruction.specs.declared.instr.Parts.{Parts}
use Rattle.instruction.proofs.Accepting.{differ}
use Rattle.instruction.proofs.Judging.{pass, stop, done}
use Rattle.instruction.proofs.Known.{known, form_small}

-- a position, its byte, and the form's size less what is left are what refusal 5 tells
pub cut_at_lem : (s : List ℕ) (p : ℕ) (d : CutOff) → d.position ≡ p → d.first ≡ get_or s p 0 → d.missing ≡ size_of (form_at (form_of (get_or s p 0))) - (length s - p)
    → d ≡ cut_at s p
unfolding cut_at
cut_at_lem s p d x y z =
    ap₂ (λ (a : ℕ) (b : ℕ). record { position = a; first = b; missing = d.missing }) x y
    ∙ ap (λ (a : ℕ). record { position = p; first = get_or s p 0; missing = a }) z

-- from the start all bytes are left
pub cut_from_start : (s : List ℕ) (d : CutOff) → d.position ≡ 0 → d.first ≡ get_or s 0 0 → d.missing ≡ size_of (form_at (form_of (get_or s 0 0))) - length s
    → d ≡ cut_at s 0
cut_from_start s d x y z =
    let all : length s ≡ length s - 0 = omega arith in
    cut_at_lem s 0 d x y (z ∙ ap (λ (n : ℕ). size_of (form_at (form_of (get_or s 0 0))) - n) all)

module _ (s : List ℕ) where
  pub nothing : length s ≡ 0 → refused 12 (pos 0 ∷ []) ≡ decode_answer s
  unfolding decode_answer
  nothing e = sym (stop _ _ _ (eq-eqb (length s) 0 e))

  module _ (some : length s ≡ 0 → ⊥) (k : ℕ) (form : k ≡ form_of (get_or s 0 0)) where
    pub cut : length s < size_of (form_at k) → refused 5 (cut_values (cut_at s 0)) ≡ decode_answer s
    unfolding decode_answer
    cut h = sym (pass _ _ _ (ne_eqb (length s) 0 some) ∙ stop _ _ _ (rw (← form) (lt-ltb (length s) (size_of (form_at k)) h)))

    pub found : size_of (form_at k) ≤ length s → (v : Parts) → v ≡ fields_in k s → (i : Instr) → i ≡ made_of v → accepted i ≡ decode_answer s
    unfolding decode_answer
    found h v e i m =
        sym
        (pass _ _ _ (ne_eqb (length s) 0 some) ∙ pass _ _ _ (rw (← form) (le-ltb (length s) (size_of (form_at k)) h)) ∙ done _
        ∙ ap accepted (rw (← form) (ap made_of (sym e) ∙ sym m)))

-- ---- the same with the parts of the instruction, and back

module _ (s : List ℕ) where
  pub refused_parts : (n : ℕ) (vs : List ℤ) → refused n vs ≡ decode_answer s → refused n vs ≡ parts_answer s
  unfolding parts_answer
  refused_parts n vs e = ap (on_accepted parts_of) e

  pub found_parts : (v : Parts) → parts_of (made_of v) ≡ v → accepted (made_of v) ≡ decode_answer s → accepted v ≡ parts_answer s
  unfolding parts_answer
  found_parts v e f = ap accepted (sym e) ∙ ap (on_accepted parts_of) f

  pub refused_whole : (n : ℕ) (vs : List ℤ) → refused n vs ≡ parts_answer s → refused n vs ≡ decode_answer s
  unfolding parts_answer
  refused_whole n vs e = by (decode_answer s) e
    where
      by : (r : Answer Instr) → refused n vs ≡ on_accepted parts_of r → refused n vs ≡ r
      by (accepted i) f = absurd (differ f)
      by (refused m ws) f = let p : n ≡ m = cc in let q : vs ≡ ws = cc in cc

  pub told_whole : (e : DecodeError) → decode_refused e ≡ parts_answer s → decode_refused e ≡ decode_answer s
  told_whole Nothing f = refused_whole _ _ f
  told_whole (Cut c) f = refused_whole _ _ f

  -- the parts are those of the instruction that decode answers
  pub record Made (v : Parts) : Type 0 where
    pub small : v.form < 70
    pub whole : accepted (made_of v) ≡ decode_answer s

  pub found_whole : (v : Parts) → accepted v ≡ parts_answer s → Made v
  unfolding parts_answer
  found_whole v e = by (decode_answer s) refl e
    where
      by : (r : Answer Instr) → r ≡ decode_answer s → accepted v ≡ on_accepted parts_of r → Made v
      by (accepted i) g f =
          let p : v ≡ parts_of i = cc in
          record { small = form_small i p; whole = ap accepted (ap made_of p ∙ (known i).made) ∙ g }
      by (refused m ws) g f = absurd (differ (sym f))
