-- What follows the bytes on an `I` line, put from the parts that decode answers; and the line by what decode answers.
-- Assumes nothing.
use mathlib.Core.Path.{◌≡◌, sym, ap, ap₂, ◌∙◌}
use mathlib.Core.Bool.{Bool, true, false, cond}
use mathlib.Core.List.{List, [], ◌∷◌, ◌++◌}
use Prim.Native.Nat.{ℕ, ◌+◌, ◌≤◌, ◌<◌}
use native.Mathlib.Omega.{arith}
use borrow.Author.Tests.{eq-eqb, ne_eqb, lt-ltb, le-ltb}
use lib.Dec.{ltb}
use lib.IntN.{ℤ}
use lib.ListN.{length}
use Rattle.std.specs.Prelude.{Ok, Err}
use Rattle.instruction.specs.Answer.{Answer, accepted, refused, on_accepted}
use Rattle.instruction.specs.Decode.{decoded_parts_of, decode_answer, parts_answer, cut_at}
use Rattle.instruction.specs.Encode.{form_in}
use Rattle.instruction.specs.Forms.{form_at, size_of}
use Rattle.instruction.specs.Mnemonic.{mnemonic_of, packed_letters}
use Rattle.instruction.specs.Parts.{parts_of, made_of}
use Rattle.instruction.specs.declared.decode.DecodeError.{DecodeError}
use Rattle.instruction.specs.declared.decode.DecodeError.TheVariants as decode
use Rattle.instruction.specs.declared.instr.Instr.{Instr}
use Rattle.instruction.specs.declared.instr.Parts.{Parts}
use Rattle.instruction.specs.declared.mode.Mode.{Mode}
use Rattle.instruction.proofs.Decoding.{nothing, found_whole, refused_whole}
use Rattle.targets.specs.At.{fits_here, instr_here}
use Rattle.targets.specs.Targets.{next_of}
use Rattle.targets.specs.declared.not_whole.NotWhole.TheVariants.{Cut}
use Rattle.targets.proofs.HereIs.{answer}
use Rattle.targets.proofs.Within.{Small}
use Rattle.text.specs.Puts.{letters}
use Rattle.listing.specs.Alone.{operands_alone, rest_alone}
use Rattle.listing.specs.Line.{fields_text}
use Rattle.listing.specs.Lines.{instr_text, code_by, code_line}
use Rattle.listing.specs.Operand.{operands}
use Rattle.listing.specs.Rest.{instr_rest, rest_by, code_rest}
use Rattle.listing.proofs.Alone.{operands_alone_lem}
use Rattle.listing.proofs.Naming.{spelled}
use Rattle.listing.proofs.Opened.{Opened, opened, either, outside}

-- ---- the rest of a line

module _ (mode : Mode) (p : ℕ) (s : List ℕ) where
  rest_none : (n : ℕ) (vs : List ℤ) → refused n vs ≡ parts_answer s → [] ≡ code_rest mode p s
  unfolding code_rest
  rest_none n vs e = ap (rest_by mode p (length s)) (refused_whole s n vs e)

  pub rest_not_found : (d : DecodeError) → decoded_parts_of (Err d) ≡ parts_answer s → [] ≡ code_rest mode p s
  rest_not_found decode.Nothing e = rest_none _ _ e
  rest_not_found (decode.Cut k) e = rest_none _ _ e

  module _ (v : Parts) (e : accepted v ≡ parts_answer s) (b : Small s) where
    abbrev i : Instr
    i = made_of v

    is : Opened s v
    is = opened s v e b

    sized : size_of (form_at v.form) ≡ size_of (form_in i)
    sized = ap (λ (u : Parts). size_of (form_at u.form)) (sym is.apart)

    abbrev by_size : Bool → List ℕ
    by_size t = cond t (cond (ltb 65536 (next_of p i)) [] (instr_rest mode p i)) []

    found : rest_by mode p (length s) (accepted i) ≡ code_rest mode p s
    unfolding code_rest
    found = ap (rest_by mode p (length s)) (found_whole s v e).whole

    module _ (n : ℕ) (z : n ≡ size_of (form_at v.form)) where
      pub rest_other : (n ≡ length s → ⊥) → [] ≡ code_rest mode p s
      rest_other g = sym (ap by_size (ne_eqb (size_of (form_in i)) (length s) (λ h. g (z ∙ sized ∙ h)))) ∙ found

      module _ (f : n ≡ length s) where
        same_size : cond (ltb 65536 (next_of p i)) [] (instr_rest mode p i) ≡ code_rest mode p s
        same_size = sym (ap by_size (eq-eqb (size_of (form_in i)) (length s) (sym sized ∙ sym z ∙ f))) ∙ found

        ends : next_of p i ≡ p + n
        ends = ap (λ (k : ℕ). p + k) (sym (z ∙ sized))

        pub rest_over : 65536 < p + n → [] ≡ code_rest mode p s
        rest_over h = sym (ap (λ (t : Bool). cond t [] (instr_rest mode p i)) (lt-ltb 65536 (next_of p i) (omega (arith, ends)))) ∙ same_size

        -- what is shown of the parts is shown of the instruction
        word : letters 8 (packed_letters (mnemonic_of v.form)) ≡ mnemonic_of (parts_of i).form
        word = ap (λ (u : Parts). letters 8 (packed_letters (mnemonic_of u.form))) (sym is.apart) ∙ spelled i

        fields : operands_alone mode (p + n) v ≡ fields_text (operands mode p i)
        fields =
            ap₂ (λ (k : ℕ) (u : Parts). operands_alone mode (p + k) u) (z ∙ sized) (sym is.apart)
            ∙ operands_alone_lem mode p i is.fit

        pub rest_whole : p + n ≤ 65536 → rest_alone mode (p + n) v ≡ code_rest mode p s
        unfolding rest_alone instr_rest fields_text
        rest_whole h =
            ap₂ (λ (x y : List ℕ). 9 ∷ x ++ y) word fields
            ∙ sym (ap (λ (t : Bool). cond t [] (instr_rest mode p i)) (le-ltb 65536 (next_of p i) (omega (arith, ends)))) ∙ same_size

-- ---- the line, by what decode answers

abbrev pub line_by : Mode → ℕ → List ℕ → Answer Instr → List ℕ
line_by mode p s (accepted i) = cond (ltb 65536 (next_of p i)) [] (instr_text mode p i s)
line_by mode p s (refused k vs) = []

module _ (s : List ℕ) (b : Small s) where
  pub by_decode : (mode : Mode) (p : ℕ) → line_by mode p s (decode_answer s) ≡ code_line mode p s
  by_decode mode p = either mode p s b (λ f. ap (line_by mode p s) (sym (nothing s f)) ∙ outside mode p s b f) by
    where
      by : (h : 0 < length s) (t : Bool) → fits_here s 0 ≡ t
          → line_by mode p s (decode_answer s) ≡ code_by mode p s (cond t (Ok (instr_here s 0)) (Err (Cut (cut_at s 0))))
      by h true f = ap (line_by mode p s) (answer s 0 h true f)
      by h false f = ap (line_by mode p s) (answer s 0 h false f)

  pub decoded_size : (i : Instr) → decode_answer s ≡ accepted i → size_of (form_in i) ≤ length s
  unfolding parts_answer
  decoded_size i e = (opened s (parts_of i) (sym (ap (on_accepted parts_of) e)) b).size
