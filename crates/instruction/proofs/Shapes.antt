-- The forms by their operands: each of the 70 patterns is its shape's but for the fixed bits of its first byte.
-- Assumes nothing.
use Rattle.std.proofs.Common.{◌≡◌, ℕ, zero, suc, ◌<◌, List, [], ◌∷◌, map, length, get_or, drop, sym, refl, ap, ◌∙◌, le_of_suc-le-suc, not-suc-le-zero}
use lib.ListN.{length-map}
use Rattle.instruction.specs.declared.kind.Shape.{Shape}
use Rattle.instruction.specs.Layout.{blank}
use Rattle.instruction.specs.Pattern.{Bit, O, I, of, pattern, pattern_bytes, onto, bits_given, next_bracket}
use Rattle.instruction.proofs.Laid.{size_range as size-range-by}
use Rattle.instruction.specs.Forms.{Form, forms, form_at, bits, size_of}

-- a bit with a fixed one made 0
unfoldable pub freed : Bit → Bit
freed O = O
freed I = O
freed (of l k) = of l k

abbrev pub free : List (List Bit) → List (List Bit)
free ps = map (map freed) ps

-- a fact about every form, of both sides computed at once
each : {A : Type 0} (f g : Form → A) (o : Form) (ws : List Form) (k : ℕ) → k < length ws → map f ws ≡ map g ws → f (get_or ws k o) ≡ g (get_or ws k o)
each f g o [] k h e = absurd (not-suc-le-zero h)
each f g o (w ∷ ws) zero h e = cc
each f g o (w ∷ ws) (suc k) h e = let p : map f ws ≡ map g ws = cc in each f g o ws k (le_of_suc-le-suc h) p

pub at_each : {A : Type 0} (f g : Form → A) → map f forms ≡ map g forms → (k : ℕ) → k < 70 → f (form_at k) ≡ g (form_at k)
unfolding forms form_at
at_each f g e k h = each f g _ forms k h e

pub laid : (k : ℕ) → k < 70 → free (bits (form_at k)) ≡ blank (form_at k).shape
unfolding forms freed blank pattern pattern_bytes onto bits_given next_bracket
laid = at_each (λ w. free (bits w)) (λ w. blank w.shape) refl

pub tail_laid : (k : ℕ) → k < 70 → drop 1 (bits (form_at k)) ≡ drop 1 (blank (form_at k).shape)
unfolding forms blank pattern pattern_bytes onto bits_given next_bracket
tail_laid = at_each (λ w. drop 1 (bits w)) (λ w. drop 1 (blank w.shape)) refl

free_length : (ps : List (List Bit)) → length (free ps) ≡ length ps
free_length ps = length-map ps (map freed)

pub sized : (k : ℕ) (s : Shape) → k < 70 → s ≡ (form_at k).shape → length (blank s) ≡ size_of (form_at k)
sized k s h e = rw e (ap length (sym (laid k h)) ∙ free_length (bits (form_at k)))

-- 1, 2 or 3 bytes
pub size_range : (k : ℕ) → k < 70 → (0 < size_of (form_at k)) × (size_of (form_at k) < 4)
size_range k h = rw (← sized k (form_at k).shape h refl) (size-range-by (form_at k).shape)
