-- Images that do hold B8 0D 21: the traced positions lie between the two reachable sets.
-- Assumes nothing.
use Prim.Native.Nat.{ℕ}
use mathlib.Core.Bool.{Bool, true, false, cond}
use mathlib.Core.List.Memᴰ
use mathlib.Core.List.{[], Memᴰ as Among}
use mathlib.Core.Path.{sym, subst}
use Rattle.targets.specs.At.{ways_here, flash_here}
use Rattle.reach.proofs.Between.{agreed_traced, agreed_waiting}
use Rattle.reach.proofs.ReachMore.{more_targets}
use Rattle.trace_laws.specs.ClaimsBetween as claims
use Rattle.trace_laws.proofs.Ends.{between}
use Rattle.trace_laws.proofs.Unflashed.{unflashed}

pub surely_is_reachable : claims.SurelyIsReachable
surely_is_reachable mode image entries pins q r = more_targets (λ p k. by p k (flash_here image p)) r
  where
    by : (p k : ℕ) (b : Bool) → Among k (cond b [] (ways_here mode image p)) → Among k (ways_here mode image p)
    by p k true i = absurd (Memᴰ.not-nil i)
    by p k false i = i

pub image_between : claims.ImageBetween
image_between mode image entries pins m T = between mode image entries pins m T

pub image_same_traced : claims.ImageSameTraced
image_same_traced mode image entries pins m m' a T T' q h =
    agreed_traced (between mode image entries pins m T) (between mode image entries pins m' T') q h a

pub image_same_waiting : claims.ImageSameWaiting
image_same_waiting mode image entries pins m m' a T T' q h =
    agreed_waiting (between mode image entries pins m T) (between mode image entries pins m' T') q h a

pub clean_agree : claims.CleanAgree
clean_agree mode image entries pins fit B C q f r =
    more_targets (λ p k i. subst (λ (b : Bool). Among k (cond b [] (ways_here mode image p))) (sym (unflashed image B C p)) i) r
