-- What is said of every first byte: antt computes both sides.
-- Assumes nothing.
use Rattle.std.proofs.Common.{◌≡◌, ℕ, ◌+◌, ◌*◌, ◌/◌, ◌%◌, ◌^◌, ◌<◌, ltb, refl, ap, ◌∙◌, arith, ltb→lt}
use Rattle.instruction.specs.Pattern.{pattern, pattern_bytes, onto, bits_given, next_bracket}
use Rattle.instruction.specs.Flow.{flow_of}
use Rattle.instruction.specs.Forms.{forms, form_at, form_of, size_of}
use Rattle.instruction.specs.First.{first_says}
use Rattle.instruction.specs.declared.first.FirstByte.{FirstByte}
use Rattle.instruction.specs.declared.flow.Flow.{Flow}
use Rattle.instruction.specs.declared.flow.Flow.TheVariants.{Stop, Next, Jump, Branch}
use Rattle.instruction.proofs.Digits.{digit}
use Rattle.instruction.proofs.Every.{holds}
use Rattle.instruction.specs.FirstBits.{bits_of, flow_at, said_by, column_word}

flow_at_lem : (f : Flow) → flow_at (bits_of f) ≡ f
unfolding flow_at
flow_at_lem Stop = refl
flow_at_lem Next = refl
flow_at_lem Jump = refl
flow_at_lem Branch = refl

flow_bits : (f : Flow) → bits_of f < 4
flow_bits Stop = omega arith
flow_bits Next = omega arith
flow_bits Jump = omega arith
flow_bits Branch = omega arith

module _ (x : ℕ) (h : x < 256) where
  pub short : size_of (form_at (form_of x)) < 4
  unfolding form_of form_at forms pattern pattern_bytes onto bits_given next_bracket
  short = ltb→lt _ 4 (holds (λ k. ltb (size_of (form_at (form_of k))) 4) 256 tt x h)

  pub sized : said_by x % 4 ≡ size_of (form_at (form_of x))
  unfolding said_by
  sized = omega (arith, short)

  pub flowed : flow_at (said_by x / 4) ≡ flow_of (form_of x)
  unfolding said_by
  flowed =
      let e : (size_of (form_at (form_of x)) + 4 * bits_of (flow_of (form_of x))) / 4 ≡ bits_of (flow_of (form_of x)) = omega (arith, short) in
      ap flow_at e ∙ flow_at_lem (flow_of (form_of x))

  pub said_small : said_by x < 16
  unfolding said_by
  said_small = omega (arith, short, flow_bits (flow_of (form_of x)))

-- the four bits r of the word w
pub read : (f : ℕ → ℕ) → ((x : ℕ) → x < 256 → f x < 16) → (x w r : ℕ) → x < 256 → w ≡ column_word f (x % 16) → r ≡ w / 2 ^ (4 * (x / 16)) % 16 → r ≡ f x
unfolding column_word
read f small x w r h e g =
    let row : ℕ → ℕ = λ (k : ℕ). f (16 * k + x % 16) in
    let same : 16 * (0 + x / 16) + x % 16 ≡ x = omega arith in
    g ∙ ap (λ (n : ℕ). n / 2 ^ (4 * (x / 16)) % 16) e
    ∙ digit 4 row 16 0 (x / 16) (λ j l. small (16 * j + x % 16) (omega arith)) (omega arith)
    ∙ ap f same

-- the two together
pub both : (x : ℕ) → x < 256 → (s : ℕ) → s ≡ said_by x → (f : Flow) → f ≡ flow_at (s / 4) → ◌≡◌ {A = FirstByte} (record { size = s % 4; flow = f }) (first_says x)
unfolding first_says
both x h s e f g =
    let size : s % 4 ≡ size_of (form_at (form_of x)) = ap (λ (k : ℕ). k % 4) e ∙ sized x h in
    let flow : f ≡ flow_of (form_of x) = g ∙ ap (λ (k : ℕ). flow_at (k / 4)) e ∙ flowed x h in
    rw (size, flow)
