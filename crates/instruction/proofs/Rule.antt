-- Document 01's table of forms by row and column is what the patterns say, at every first byte.
-- Assumes nothing.
use Rattle.std.proofs.Common.{◌≡◌, ℕ, ◌<◌, eqb, eqb→eq}
use Rattle.instruction.specs.Forms.{forms, form_of, form_named}
use Rattle.instruction.specs.Grid.{grid, rule_of}
use Rattle.instruction.specs.Pattern.{pattern, pattern_bytes, onto, bits_given, next_bracket}
use Rattle.instruction.proofs.Every.{holds}

pub rule_is : (x : ℕ) → x < 256 → rule_of x ≡ form_of x
unfolding rule_of grid form_named form_of forms pattern pattern_bytes onto bits_given next_bracket
rule_is x h = eqb→eq (rule_of x) (form_of x) (holds (λ k. eqb (rule_of k) (form_of k)) 256 tt x h)
