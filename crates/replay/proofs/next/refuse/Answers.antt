-- `next::refuse` meets its contract.
-- Assumes nothing.
use Rattle.std.proofs.Common.{◌≡◌, ◌+◌, refl}
use denote.Enum.Declared.{tag_of}
use Rattle.replay.specs.contracts.fault.Fault.{the_type}
use Rattle.replay.specs.declared.fault.Fault.{Fault}
use Rattle.replay.specs.declared.fault.Fault.TheVariants.{Malformed, Untraced, Forbidden, Full}
use Rattle.replay.specs.Log.{fault_number, refusing}
use Rattle.replay.proofs.next.refuse.Goals as goal

-- the number that a fault is cast to
cast : (f : Fault) → tag_of the_type f + 18 ≡ fault_number f
cast Malformed = refl
cast Untraced = refl
cast Forbidden = refl
cast Full = refl

pub returns : goal.returns
unfolding refusing
returns c = rw (cast c.args.fault) refl
