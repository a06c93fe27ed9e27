-- What a form writes: a byte of a pattern is its fixed bits and the bits of its shape's layout.
-- Assumes nothing.
use Rattle.std.proofs.Common.{◌≡◌, ℕ, zero, suc, ◌+◌, ◌*◌, ◌/◌, ◌%◌, ◌^◌, ◌<◌, List, [], ◌∷◌, map, length, get_or, take, drop, sym, refl, ap, ◌∙◌, subst, pow-suc, arith}
use native.Mathlib.Nat.{zero-div}
use lib.ListN.{length-map}
use Rattle.instruction.specs.declared.kind.Shape.{Shape}
use Rattle.instruction.specs.Layout.{blank, on_fixed, bytes_by}
use Rattle.instruction.specs.Pattern.{Bit, O, I, of, bit_of, bit_for, value, filled, pattern, pattern_bytes, onto, bits_given, next_bracket}
use Rattle.instruction.proofs.FieldWriting.{written, write as write-by, cons}
use Rattle.instruction.specs.Forms.{forms, form_at, bits, size_of}
use Rattle.instruction.proofs.Shapes.{freed, free, at_each, laid, tail_laid, sized}

-- ---- a byte is its fixed bits and its layout's

no_bits : (n : ℕ) → 0 / n % 2 ≡ 0
no_bits zero = refl
no_bits (suc n) = rw (zero-div (suc n))

digit_free : (b : Bit) (ns : List ℕ) (n : ℕ) → bit_for b ns * n ≡ bit_for b [] * n + bit_for (freed b) ns * n
unfolding freed
digit_free O ns n = omega arith
digit_free I ns n = omega arith
digit_free (of l k) ns n = rw (no_bits (2 ^ k)) (let m : ℕ = bit_of (get_or ns l 0) k * n in omega arith)

four : (d f e v r w : ℕ) → d ≡ f + e → v ≡ r + w → d + v ≡ f + r + (e + w)
four d f e v r w p q = omega arith

value_free : (p : List Bit) (ns : List ℕ) → value p ns ≡ value p [] + value (map freed p) ns
value_free [] ns = refl
value_free (b ∷ p) ns =
    subst (λ (m : ℕ). value (b ∷ p) ns ≡ value (b ∷ p) [] + (bit_for (freed b) ns * 2 ^ m + value (map freed p) ns)) (sym (length-map p freed))
    (four (bit_for b ns * 2 ^ length p) (bit_for b [] * 2 ^ length p) (bit_for (freed b) ns * 2 ^ length p) (value p ns) (value p [])
    (value (map freed p) ns) (digit_free b ns (2 ^ length p)) (value_free p ns))

-- ---- a byte of eight bits is below 256

bit_lt : (n : ℕ) → n % 2 < 2
bit_lt n = omega arith

digit_lt : (b : Bit) (ns : List ℕ) → bit_for b ns < 2
digit_lt O ns = omega arith
digit_lt I ns = omega arith
digit_lt (of l k) ns = bit_lt (get_or ns l 0 / 2 ^ k)

times : (d n v : ℕ) → d < 2 → v < n → d * n + v < n * 2
times zero n v h k = omega arith
times (suc zero) n v h k = omega arith
times (suc (suc d)) n v h k = absurd (let q : suc (suc d) < 2 = h in omega arith)

pub value_lt : (p : List Bit) (ns : List ℕ) → value p ns < 2 ^ length p
value_lt [] ns = omega arith
value_lt (b ∷ p) ns = rw pow-suc (times (bit_for b ns) (2 ^ length p) (value p ns) (digit_lt b ns) (value_lt p ns))

-- ---- a form's bytes by its layout

wrap : (u t e : ℕ) → u ≡ t + e → u < 256 → (t + e) % 256 ≡ u
wrap u t e p h = omega arith

on_fixed_lem : (ps qs : List (List Bit)) → free ps ≡ qs → drop 1 ps ≡ drop 1 qs → length (get_or ps 0 []) ≡ 8 → (ns : List ℕ)
    → on_fixed (value (get_or ps 0 []) []) (filled qs ns) ≡ filled ps ns
on_fixed_lem [] qs e f l ns = rw (← e) refl
on_fixed_lem (p ∷ ps) qs e f l ns =
    let small : value p ns < 256 = subst (λ (m : ℕ). value p ns < 2 ^ m) l (value_lt p ns) in
    let rest : free ps ≡ ps = sym (f ∙ ap (drop 1) (sym e)) in
    rw (← e) (cons (wrap (value p ns) (value p []) (value (map freed p) ns) (value_free p ns) small) (ap (λ (r : List (List Bit)). filled r ns) rest))

eight_bits_lem : (k : ℕ) → k < 70 → length (get_or (bits (form_at k)) 0 []) ≡ 8
unfolding forms pattern pattern_bytes onto bits_given next_bracket
eight_bits_lem = at_each (λ w. length (get_or (bits w) 0 [])) (λ w. 8) refl

pub by_shape : (k : ℕ) (s : Shape) → k < 70 → s ≡ (form_at k).shape → (t : ℕ) → t ≡ value (get_or (bits (form_at k)) 0 []) [] → (ns : List ℕ)
    → bytes_by t s ns ≡ filled (bits (form_at k)) ns
unfolding bytes_by
by_shape k s h e t f ns = rw (e, f) (on_fixed_lem (bits (form_at k)) (blank (form_at k).shape) (laid k h) (tail_laid k h) (eight_bits_lem k h) ns)

pub write : (k : ℕ) (s : Shape) (x y z : ℕ) → k < 70 → s ≡ (form_at k).shape → (t : ℕ) → t ≡ value (get_or (bits (form_at k)) 0 []) []
    → take (size_of (form_at k)) (written s t x y z) ≡ filled (bits (form_at k)) (x ∷ y ∷ z ∷ [])
write k s x y z h e t f = rw (← sized k s h e) (write-by s t x y z ∙ by_shape k s h e t f (x ∷ y ∷ z ∷ []))
