-- One pattern for each first byte: computed over all of them. Where one pattern of a list has the fixed bits, a form whose pattern has them
-- is the one that is found.
-- Assumes nothing.
use mathlib.Core.Path.{◌≡◌, refl, ap}
use mathlib.Core.Bool.{Bool, true, false, cond}
use mathlib.Core.List.{List, [], ◌∷◌}
use Prim.Native.Nat.{ℕ, zero, suc, ◌+◌, ◌<◌}
use native.Mathlib.Nat.{zero-add, le_of_suc-le-suc, not-suc-le-zero}
use native.Mathlib.Omega.{arith}
use lib.Dec.{T, eqb, eqb→eq, ltb, ltb→lt}
use lib.ListN.{length, get_or}
use Rattle.instruction.specs.Forms.{Form, forms, form_at, form_of, bits, matching}
use Rattle.instruction.specs.Pattern.{agrees, pattern, pattern_bytes, onto, bits_given, next_bracket}
use Rattle.instruction.proofs.Every.{holds}
use Rattle.instruction.proofs.Rule.{rule_is}
use Rattle.instruction_laws.specs.Matching.{matches, Agrees, OnePattern, RuleIsPatterns}

abbrev has : ℕ → Form → Bool
has x w = agrees (get_or (bits w) 0 []) x

module _ (x : ℕ) (o : Form) where
  some : (ws : List Form) (k : ℕ) → k < length ws → T (has x (get_or ws k o)) → 0 < matches ws x
  some [] k h t = absurd (not-suc-le-zero h)
  some (w ∷ ws) zero h t = by (has x w) t
    where
      by : (b : Bool) → T b → 0 < cond b 1 0 + matches ws x
      by true s = omega arith
      by false s = absurd s
  some (w ∷ ws) (suc k) h t = let r : 0 < matches ws x = some ws k (le_of_suc-le-suc h) t in omega arith

  found : (ws : List Form) (k : ℕ) → k < length ws → T (has x (get_or ws k o)) → matches ws x ≡ 1 → matching ws x ≡ k
  found [] k h t e = absurd (not-suc-le-zero h)
  found (w ∷ ws) zero h t e = by (has x w) t
    where
      by : (b : Bool) → T b → cond b 0 (suc (matching ws x)) ≡ 0
      by true s = refl
      by false s = absurd s
  found (w ∷ ws) (suc k) h t e = by (has x w) e (found ws k (le_of_suc-le-suc h) t)
    where
      by : (b : Bool) → cond b 1 0 + matches ws x ≡ 1 → (matches ws x ≡ 1 → matching ws x ≡ k) → cond b 0 (suc (matching ws x)) ≡ suc k
      by true f rest = absurd (let r : 0 < matches ws x = some ws k (le_of_suc-le-suc h) t in omega arith)
      by false f rest = ap suc (rest (rw zero-add at f))

one : (x : ℕ) → x < 256 → matches forms x ≡ 1
unfolding forms pattern pattern_bytes onto bits_given next_bracket
one x h = eqb→eq (matches forms x) 1 (holds (λ n. eqb (matches forms n) 1) 256 tt x h)

form : (x : ℕ) → x < 256 → form_of x < 70
unfolding forms form_of pattern pattern_bytes onto bits_given next_bracket
form x h = ltb→lt (form_of x) 70 (holds (λ n. ltb (form_of n) 70) 256 tt x h)

agreed : (x : ℕ) → x < 256 → Agrees (form_of x) x
unfolding forms form_at form_of pattern pattern_bytes onto bits_given next_bracket
agreed x h = holds (λ n. has n (form_at (form_of n))) 256 tt x h

only : (x : ℕ) → x < 256 → (k : ℕ) → k < 70 → Agrees k x → form_of x ≡ k
unfolding form_of form_at forms
only x h k l t = found x _ forms k l t (one x h)

pub one_pattern : OnePattern
one_pattern x h = record { one = one x h; form = form x h; agreed = agreed x h; only = only x h }

pub rule_is_patterns : RuleIsPatterns
rule_is_patterns = rule_is
