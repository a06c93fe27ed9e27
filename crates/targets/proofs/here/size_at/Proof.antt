-- `here::size_at` meets its contract.
-- Assumes nothing.
use Rattle.std.proofs.Common.{◌≡◌, ℕ, sym, refl, ap, ◌∙◌, rules}
use lib.ListN.{get_or-eq_default}
use Rattle.instruction.specs.Forms.{forms, form_at, form_of, size_of}
use Rattle.instruction.specs.Pattern.{pattern, pattern_bytes, onto, bits_given, next_bracket}
use Rattle.targets.proofs.here.size_at.Statement.{statement}
use Rattle.targets.proofs.here.size_at.Tie as tie

-- past the end stands a byte 0
past : 1 ≡ size_of (form_at (form_of 0))
unfolding forms form_at form_of pattern pattern_bytes onto bits_given next_bracket
past = refl

returns : tie.Need-returns-then-image-at
returns c =
    let a = c.args in
    past ∙ ap (λ (x : ℕ). size_of (form_at (form_of x))) (sym (get_or-eq_default a.image.now 0 c.if-image-at.true))

pub size_at_spec : {M : Type 1} → statement M
size_at_spec = tie.close (tie.spec returns (λ c. search rules) (λ c κs. search rules) (λ c. c.size_by.ensures))
