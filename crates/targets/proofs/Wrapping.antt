-- A number modulo 65,536, as the remainder that is not below 0.
-- Assumes nothing.
use Rattle.std.proofs.Common.{◌≡◌, ℕ, suc, ◌+◌, ◌*◌, ◌/◌, ◌-◌, ℤ, pos, negsuc, refl, ap, ◌∙◌, arith, le-ltb}
use Rattle.std.specs.Int.{int_rem_euclid}
use Rattle.std.proofs.lemmas.Int.{int_rem_euclid_is}
use Rattle.instruction.specs.ResolveOperand.{wrapped}

pub euclid : (z : ℤ) → int_rem_euclid z (pos 65536) ≡ pos (wrapped z)
euclid (pos n) = int_rem_euclid_is (pos n) (pos 65536) 65536 0 n (omega arith) refl (ap pos (omega arith))
euclid (negsuc n) =
    let k : ℕ = n / 65536 + 1 in
    int_rem_euclid_is (negsuc n) (pos 65536) 65536 k (k * 65536 - suc n) (omega arith) refl (rw (le-ltb (k * 65536) (suc n) (omega arith)) refl)
    ∙ ap pos (omega arith)
