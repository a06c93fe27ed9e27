-- What `opening_at` answers, by the tests that led there.
-- Assumes nothing.
use Rattle.std.proofs.Common.{◌≡◌, ℕ, ◌+◌, List, get_or, refl, ap, arith}
use Rattle.instruction.specs.First.{first_says}
use Rattle.instruction.specs.declared.first.FirstByte.{FirstByte}
use Rattle.targets.specs.At.{size_here}
use Rattle.targets.proofs.Openings.{past_limit, past_end, is_cut, is_whole_lem}
use Rattle.targets.proofs.Within.{size_short}
use Rattle.targets.proofs.opening.opening_at.Goals as goal
use Rattle.targets.proofs.opening.opening_at.Goals.{then-n-gt-LIMIT-via-then-n-gt-LIMIT, then-n-gt-LIMIT-via-else-n-gt-LIMIT+then-n-at}

-- where the instruction ends
next_is : (image : List ℕ) (p : ℕ) {b : FirstByte} → b ≡ first_says (get_or image p 0) → p + b.size ≡ p + size_here image p
unfolding first_says
next_is image p e = ap (λ (b : FirstByte). p + b.size) e

pub returns-then-n-gt-LIMIT : goal.returns-then-n-gt-LIMIT
returns-then-n-gt-LIMIT c =
    elim c.then-n-gt-LIMIT.branch [
      | then-n-gt-LIMIT-via-then-n-gt-LIMIT w ↦ past_limit _ _ w.if-n-gt-LIMIT.true
      | then-n-gt-LIMIT-via-else-n-gt-LIMIT+then-n-at w ↦ past_end _ _ w.if-n-at.true
    ]

pub overflow_add-next : goal.overflow_add-next
overflow_add-next c =
    let a = c.args in
    let s = (size_short a.image.now a.p (λ n. (c.type_inv.image n).fits)).1 in
    record { fits = omega (arith, next_is a.image.now a.p c.read-says.ensures, s) }

-- less than a whole instruction is missing
pub overflow_cast-missing : goal.overflow_cast-missing
overflow_cast-missing c =
    let a = c.args in
    let s = (size_short a.image.now a.p (λ n. (c.type_inv.image n).fits)).1 in
    record { fits = omega (arith, next_is a.image.now a.p c.read-says.ensures, s) }

pub returns-then-n-end : goal.returns-then-n-end
returns-then-n-end c =
    let a = c.args in
    is_cut a.image.now a.p c.if-n-gt-LIMIT.false c.if-n-at.false _ (next_is a.image.now a.p c.read-says.ensures) c.if-n-end.true _
    (refl, refl, refl)

pub returns : goal.returns
unfolding first_says
returns c =
    let a = c.args in
    is_whole_lem a.image.now a.p c.if-n-gt-LIMIT.false c.if-n-at.false _ (next_is a.image.now a.p c.read-says.ensures) c.if-n-end.false _
    (ap (λ (b : FirstByte). b.flow) c.read-says.ensures)
