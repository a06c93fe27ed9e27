-- What is claimed of a whole log, in either mode. Document 02, W10. Proved in proofs/ClaimsReplaySums.antt, ClaimsReplayWalk.antt and
-- ClaimsReplayApart.antt. Assumes nothing.
use Rattle.std.specs.Prelude.{ℕ, suc, ◌+◌, ◌*◌, ◌<◌, true, List, [], ◌∷◌, ◌⊎◌, ◌≡◌, pos, length}
use Rattle.instruction.specs.Answer.{accepted, refused, Apart}
use Rattle.instruction.specs.declared.mode.Mode.{Mode}
use Rattle.arrivals.specs.Arrivals.{arrives}
use Rattle.map_laws.specs.ClaimsMap.{sum}
use Rattle.views.specs.Positions.{traced_at}
use Rattle.replay.specs.Answers.{replayed_of, no_totals, lent_answer}
use Rattle.replay.specs.Line.{is_line, line_at, position_at}
use Rattle.replay.specs.Log.{highest}
use Rattle.replay.specs.Replay.{replay_answer, replay_counts}
use Rattle.replay.specs.declared.answer.Totals.{Totals}

-- the number and values of the answers tell all cases and all values apart
abbrev pub ReplayedApart : Type 0
ReplayedApart = Apart replayed_of

-- of a log that is accepted: the growth of the counts sums to the lines; interrupts and free moves together are fewer than the lines where
-- there is a line, and none where there is none; the lines are all of the text; and each line's position is traced
pub record Accepted (text image m counts counts' : List ℕ) (t : Totals) : Type 0 where
  pub sums : sum counts' ≡ sum counts + t.lines
  pub few : (0 < t.lines → t.interrupts + t.free < t.lines) × (t.lines ≡ 0 → t.interrupts + t.free ≡ 0)
  pub whole : 7 * t.lines ≡ length text
  pub traced : (k : ℕ) → k < t.lines → (is_line (line_at text k) ≡ true) × (traced_at image m (position_at text k) ≡ true)

-- so it is; no text that can be lent is as long as the highest total
abbrev pub ReplayAccepted : Type 0
ReplayAccepted =
    (mode : Mode) (text image m entries counts : List ℕ) (t : Totals) → length text < highest
    → replay_answer mode text image m entries counts ≡ accepted t
    → Accepted text image m counts (replay_counts mode text image m entries counts) t

-- a log of n lines whose positions are all traced, each after the first a target that the one before had
pub record Walk (mode : Mode) (text image m : List ℕ) (n : ℕ) : Type 0 where
  pub whole : 7 * n ≡ length text
  pub lines : (k : ℕ) → k < n → is_line (line_at text k) ≡ true
  pub traced : (k : ℕ) → k < n → traced_at image m (position_at text k) ≡ true
  pub follows : (k : ℕ) → suc k < n → arrives mode image m (position_at text (suc k)) (position_at text k) ≡ true

-- it is accepted, with no interrupts and no free moves, unless a count would pass its range
abbrev pub WalkAccepted : Type 0
WalkAccepted =
    (mode : Mode) (text image m entries counts : List ℕ) (n : ℕ) → length text < highest
    → lent_answer image m counts ≡ accepted no_totals → Walk mode text image m n
    → (replay_answer mode text image m entries counts ≡ accepted (record { lines = n; interrupts = 0; free = 0 }))
    ⊎ ((k : ℕ) × (replay_answer mode text image m entries counts ≡ refused 21 (pos k ∷ [])))
