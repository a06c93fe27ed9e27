-- The map kept up after a step. Document 02, W3, and refusals 1, 2, 6, 11, 17 in this order: 17 for a position that is not inside the image or
-- is untraced. Damage is that of a view, anywhere.
-- Assumes nothing.
use Rattle.std.specs.Prelude.{ℕ, not, List, [], ◌∷◌, ◌++◌, ltb, pos, length, Result, Ok, Err}
use Rattle.instruction.specs.Answer.{Answer, accepted, refused, Refusal, refuse, judge, after}
use Rattle.targets.specs.At.{size_here}
use Rattle.views.specs.Positions.{traced_at}
use Rattle.views.specs.View.{view_refusals, view_refused}
use Rattle.map.specs.Words.{words_for}
use Rattle.map.specs.Packed.{covered}
use Rattle.map.specs.declared.update.UpdateError.{UpdateError}
use Rattle.map.specs.declared.update.UpdateError.TheVariants.{View, Outside}

-- one of the refusals, as an answer of any call
abbrev pub update_refused : {A : Type 0} → UpdateError → Answer A
update_refused (View e) = view_refused e
update_refused (Outside p) = refused 17 (pos p ∷ [])

-- how many bits were set, or what refuses
abbrev pub updated_of : Result ℕ UpdateError → Answer ℕ
updated_of (Ok k) = accepted k
updated_of (Err e) = update_refused e

-- 11: too few words; 17: not inside, or untraced
abbrev pub lent_refusals : List ℕ → List ℕ → List ℕ → ℕ → List Refusal
lent_refusals image m ws p =
    refuse (ltb (length ws) (words_for (length image))) 11 (pos (words_for (length image)) ∷ [])
    ∷ refuse (not (traced_at image m p)) 17 (pos p ∷ [])
    ∷ []

-- how many bits are set: the instruction's bytes
unfoldable pub update_answer : List ℕ → List ℕ → List ℕ → ℕ → Answer ℕ
update_answer image m ws p = judge (view_refusals image m ++ lent_refusals image m ws p) (size_here image p)

-- the bits of its bytes set; a refusal changes no word
unfoldable pub update_words : List ℕ → List ℕ → List ℕ → ℕ → List ℕ
update_words image m ws p = after (update_answer image m ws p) (covered ws (size_here image p) p) ws
