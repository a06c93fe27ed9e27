-- Document 01, 'Forms': 'Lookup is by a table of 256 entries, one for each first byte; its rule is the table here (from the patterns in
-- 000).' Every first byte has the fixed bits of one pattern and of no other, and the rule of rows and columns names that pattern's form.
-- Assumes nothing.
use Rattle.std.specs.Prelude.{ℕ, ◌+◌, ◌<◌, cond, List, [], ◌∷◌, ◌≡◌, T, get_or}
use Rattle.instruction.specs.Forms.{Form, forms, form_at, form_of, bits}
use Rattle.instruction.specs.Grid.{rule_of}
use Rattle.instruction.specs.Pattern.{agrees}

-- how many of the forms have a pattern with the fixed bits of a first byte
abbrev pub matches : List Form → ℕ → ℕ
matches [] x = 0
matches (w ∷ ws) x = cond (agrees (get_or (bits w) 0 []) x) 1 0 + matches ws x

-- a form's pattern has the fixed bits of a first byte
abbrev pub Agrees : ℕ → ℕ → Type 0
Agrees k x = T (agrees (get_or (bits (form_at k)) 0 []) x)

-- exactly one of the 70 patterns does: that of the form which decode takes, and no other
pub record Matched (x : ℕ) : Type 0 where
  pub one : matches forms x ≡ 1
  pub form : form_of x < 70
  pub agreed : Agrees (form_of x) x
  pub only : (k : ℕ) → k < 70 → Agrees k x → form_of x ≡ k

abbrev pub OnePattern : Type 0
OnePattern = (x : ℕ) → x < 256 → Matched x

-- the row and column rule gives that form
abbrev pub RuleIsPatterns : Type 0
RuleIsPatterns = (x : ℕ) → x < 256 → rule_of x ≡ form_of x
