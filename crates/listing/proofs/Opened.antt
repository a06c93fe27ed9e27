-- What is known of the parts that decode answers of bytes; and the line of what decode answers is that of what stands there.
-- Assumes nothing.
use mathlib.Core.Path.{◌≡◌, refl, sym, ap, ◌∙◌}
use mathlib.Core.Bool.{Bool, true, false, cond}
use mathlib.Core.List.{List, []}
use Prim.Native.Nat.{ℕ, zero, suc, ◌+◌, ◌<◌, ◌≤◌}
use native.Mathlib.Omega.{arith}
use borrow.Author.Tests.{lt-ltb, le-ltb}
use lib.ListN.{length, drop}
use Rattle.instruction.specs.Answer.{accepted, on_accepted}
use Rattle.instruction.specs.Decode.{decode_answer, parts_answer, cut_at}
use Rattle.instruction.specs.Encode.{fit_answer}
use Rattle.instruction.specs.Forms.{form_at, size_of}
use Rattle.instruction.specs.Parts.{parts_of, made_of}
use Rattle.instruction.specs.declared.instr.Parts.{Parts}
use Rattle.instruction.specs.declared.mode.Mode.{Mode}
use Rattle.instruction.proofs.Accepting.{differ}
use Rattle.instruction.proofs.Decoding.{nothing, Made, found_whole}
use Rattle.std.specs.Prelude.{Ok, Err}
use Rattle.targets.specs.At.{size_here, fits_here, instr_here}
use Rattle.targets.specs.Here.{here_of}
use Rattle.targets.specs.Targets.{next_of}
use Rattle.targets.specs.declared.not_whole.NotWhole.TheVariants.{Cut}
use Rattle.targets.proofs.HereIs.{answer, outside_here, whole_here}
use Rattle.targets.proofs.WaysAre.{here_whole}
use Rattle.targets.proofs.Within.{Small, Within, within, size_here_lem, size_short}
use Rattle.listing.specs.Alone.{text_of}
use Rattle.listing.specs.Lines.{here_line, code_by, code_line}

-- parts that the bytes begin with: those of an instruction that fits its fields and ends within the bytes
pub record Opened (s : List ℕ) (v : Parts) : Type 0 where
  pub apart : parts_of (made_of v) ≡ v
  pub size : size_of (form_at v.form) ≤ length s
  pub few : size_of (form_at v.form) < 4
  pub fit : fit_answer (made_of v) ≡ accepted tt

module _ (s : List ℕ) (v : Parts) (e : accepted v ≡ parts_answer s) where
  made : Made s v
  made = found_whole s v e

  apart : parts_of (made_of v) ≡ v
  unfolding parts_answer
  apart = let f : accepted v ≡ accepted (parts_of (made_of v)) = e ∙ ap (on_accepted parts_of) (sym made.whole) in cc

  -- there is a byte
  some : 0 < length s
  some = by (length s) refl
    where
      by : (n : ℕ) → length s ≡ n → 0 < n
      by zero f = absurd (differ (nothing s f ∙ sym made.whole))
      by (suc n) f = omega arith

  pub opened : Small s → Opened s v
  opened b =
      let h = here_whole s 0 some (made_of v) (whole_here s 0 some (made_of v) made.whole) in
      let w : Within s 0 (made_of v) = rw h.1 (within s 0 b some h.0) in
      let z : size_of (form_at v.form) ≡ size_here s 0 = ap (λ (u : Parts). size_of (form_at u.form)) (sym apart) ∙ w.size in
      record { apart = apart; size = omega (arith, z, w.most); few = omega (arith, z, (size_short s 0 b).1); fit = w.fit }

-- ---- what stands at q

module _ (image : List ℕ) (q : ℕ) (inside : q < length image) where
  there : (t : Bool) → fits_here image q ≡ t → here_of image q ≡ cond t (Ok (instr_here image q)) (Err (Cut (cut_at image q)))
  unfolding here_of
  there t f = rw (lt-ltb q (length image) inside, f)

  pub text_here : (mode : Mode) → text_of mode q (drop q image) (decode_answer (drop q image)) ≡ here_line mode image q (here_of image q)
  text_here mode = by (fits_here image q) refl
    where
      by : (t : Bool) → fits_here image q ≡ t → text_of mode q (drop q image) (decode_answer (drop q image)) ≡ here_line mode image q (here_of image q)
      by true f = ap (text_of mode q (drop q image)) (answer image q inside true f) ∙ ap (here_line mode image q) (sym (there true f))
      by false f = ap (text_of mode q (drop q image)) (answer image q inside false f) ∙ ap (here_line mode image q) (sym (there false f))

pub none_here : (mode : Mode) (image : List ℕ) (q : ℕ) → length image ≤ q → [] ≡ here_line mode image q (here_of image q)
none_here mode image q h = ap (here_line mode image q) (outside_here image q h)

-- ---- bytes by themselves

module _ (mode : Mode) (p : ℕ) (s : List ℕ) (b : Small s) where
  -- by how many bytes there are, and whether the instruction is whole
  module _ {A : List ℕ} (none : length s ≡ 0 → A ≡ code_by mode p s (here_of s 0))
      (some : (h : 0 < length s) (t : Bool) → fits_here s 0 ≡ t → A ≡ code_by mode p s (cond t (Ok (instr_here s 0)) (Err (Cut (cut_at s 0))))) where
    pub either : A ≡ code_line mode p s
    unfolding code_line
    either = by (length s) refl
      where
        by : (n : ℕ) → length s ≡ n → A ≡ code_by mode p s (here_of s 0)
        by zero f = none f
        by (suc n) f = let h : 0 < length s = omega arith in some h (fits_here s 0) refl ∙ ap (code_by mode p s) (sym (there s 0 h (fits_here s 0) refl))

  pub outside : length s ≡ 0 → [] ≡ code_by mode p s (here_of s 0)
  outside f = ap (code_by mode p s) (outside_here s 0 (omega arith))

  end : next_of p (instr_here s 0) ≡ p + size_here s 0
  end = ap (λ (n : ℕ). p + n) (size_here_lem s 0 b)

  pub none_alone : 65536 < p + size_here s 0 → [] ≡ code_line mode p s
  none_alone h = either outside by
    where
      by : (i : 0 < length s) (t : Bool) → fits_here s 0 ≡ t → [] ≡ code_by mode p s (cond t (Ok (instr_here s 0)) (Err (Cut (cut_at s 0))))
      by i true f = rw (lt-ltb 65536 (next_of p (instr_here s 0)) (rw end h))
      by i false f = refl

  pub text_alone : p + size_here s 0 ≤ 65536 → text_of mode p s (decode_answer s) ≡ code_line mode p s
  text_alone h = either (λ f. ap (text_of mode p s) (sym (nothing s f)) ∙ outside f) by
    where
      by : (i : 0 < length s) (t : Bool) → fits_here s 0 ≡ t
          → text_of mode p s (decode_answer s) ≡ code_by mode p s (cond t (Ok (instr_here s 0)) (Err (Cut (cut_at s 0))))
      by i true f = rw (le-ltb 65536 (next_of p (instr_here s 0)) (rw end h)) (ap (text_of mode p s) (answer s 0 i true f))
      by i false f = ap (text_of mode p s) (answer s 0 i false f)
