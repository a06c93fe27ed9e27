-- Images that do hold B8 0D 21. Document 02, W13: whatever the order of taking up, the traced positions lie between two sets, and where these
-- agree they do not depend on the order. For every image, mode and pins, by steps, a finished run or sweeps.
-- Proved in proofs/ClaimsBetweenImages.antt. Assumes nothing.
use Rattle.std.specs.Prelude.{ℕ, ◌<◌, Bool, true, false, List, ◌↔◌, ◌≡◌, length, get_or}
use Rattle.instruction.specs.Bytes.{Bytes}
use Rattle.instruction.specs.declared.mode.Mode.{Mode}
use Rattle.targets.specs.At.{ways_here}
use Rattle.reach.specs.ClaimsBetween.{Between, Agree}
use Rattle.reach.specs.Mark.{waiting, IsTraced}
use Rattle.marks.specs.Tracer.{tracer_of}
use Rattle.trace_laws.specs.ClaimsImages.{Clean}
use Rattle.trace_laws.specs.ClaimsJoin.{TracedToEnd}
use Rattle.trace_laws.specs.Reachable.{only_pins, Reachable, unfollowed, SurelyReachable}

-- the smaller set lies in the larger
abbrev pub SurelyIsReachable : Type 0
SurelyIsReachable =
    (mode : Mode) (image entries pins : List ℕ) (q : ℕ) → SurelyReachable mode image entries pins q → Reachable mode image entries pins q

-- Traced are all positions of the smaller set whose instruction fits, and none but those of the larger whose instruction fits; of waiting the
-- same is said where it does not fit; the other positions are untouched, or pinned. The five are `Between`, crates/reach/specs/ClaimsBetween.antt
abbrev pub ImageBetween : Type 0
ImageBetween =
    (mode : Mode) (image entries pins m : List ℕ) → TracedToEnd mode image entries pins m
    → Between (tracer_of mode image) (unfollowed mode image) (ways_here mode image) (only_pins image pins) entries m

-- the two sets agree on the positions whose instruction fits (true), or on those where the end cuts it off (false)
abbrev pub SetsAgree : Mode → List ℕ → List ℕ → List ℕ → Bool → Type 0
SetsAgree mode image entries pins fit =
    Agree (tracer_of mode image) (unfollowed mode image) (ways_here mode image) (only_pins image pins) entries fit

-- where they agree on the positions that fit, all orders give the same traced positions, be they marked 2 or 3
abbrev pub ImageSameTraced : Type 0
ImageSameTraced =
    (mode : Mode) (image entries pins m m' : List ℕ) → SetsAgree mode image entries pins true
    → TracedToEnd mode image entries pins m → TracedToEnd mode image entries pins m'
    → (q : ℕ) → q < length image → IsTraced (get_or m q 0) ↔ IsTraced (get_or m' q 0)

-- where they agree on the positions cut off, all orders leave the same positions waiting
abbrev pub ImageSameWaiting : Type 0
ImageSameWaiting =
    (mode : Mode) (image entries pins m m' : List ℕ) → SetsAgree mode image entries pins false
    → TracedToEnd mode image entries pins m → TracedToEnd mode image entries pins m'
    → (q : ℕ) → q < length image → (get_or m q 0 ≡ waiting) ↔ (get_or m' q 0 ≡ waiting)

-- with no B8 0D 21 in succession they agree on all positions
abbrev pub CleanAgree : Type 0
CleanAgree = (mode : Mode) (image entries pins : List ℕ) (fit : Bool) → Bytes image → Clean image → SetsAgree mode image entries pins fit
