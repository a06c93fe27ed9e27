-- Pinned positions (request W8): they are not open in the base, and what is not open there is never touched. Assumes nothing.
use native.Mathlib.Omega.{arith}
use mathlib.Core.Path.{subst, ◌∙◌}
use mathlib.Core.Logic.{inl, inr, ⊎_elim}
use mathlib.Core.List.{[]}
use Rattle.reach.specs.Mark.{IsLive}
use Rattle.reach.specs.Note.{Open}
use Rattle.reach.specs.Pins.{pinned, pin}
use Rattle.reach.specs.ClaimsPins.{PinnedBase, ShutStays, PinnedStays}
use Rattle.reach.proofs.SoundStep.{reached_sound}
use Rattle.reach.proofs.Arrived.{arrived, unreached_why}
use Rattle.reach.proofs.Within.{ways_within}
use Rattle.reach.proofs.Pin.{length_pin, pin_kept, pin_set}

pub pinned_base : PinnedBase
pinned_base G pins base B = record {
  long = omega (arith, length_pin G.size pins base B.long, B.long);
  none_live = λ q h v. ⊎_elim (λ e. B.none_live q h (subst IsLive e v)) (λ e. four (subst IsLive e v)) (pin_kept G.size pins base q B.long);
}
  where
    four : IsLive pinned → ⊥
    four (inl e) = omega arith
    four (inr (inl e)) = omega arith
    four (inr (inr e)) = omega arith

pub shut_stays : ShutStays
shut_stays G base entries ps m B t q s =
    let W = ways_within G in
    let S = reached_sound G (λ p. []) G.ways base entries W B t in
    unreached_why G G.ways base entries m B q (λ r. s (arrived r)) (S.why q)

pub pinned_stays : PinnedStays
pinned_stays G pins base entries ps m B t q i h =
    let e = pin_set G.size pins base q B.long i h in
    let s : Open G.size (pin G.size pins base) q → ⊥ = λ o. omega (arith, o.clear) in
    (shut_stays G (pin G.size pins base) entries ps m (pinned_base G pins base B) t q s ∙ e, λ follow r. s (arrived r))
