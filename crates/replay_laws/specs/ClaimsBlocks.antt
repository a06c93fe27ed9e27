-- What is claimed of a log in blocks, in either mode. Document 02, W11: blocks cut anywhere come to what the whole comes to, where mode,
-- marks, image and entries are the same and the counts as last left. Proved in proofs/ClaimsBlocksCut.antt. Assumes nothing.
use Rattle.std.specs.Prelude.{ℕ, ◌*◌, ◌-◌, ◌<◌, List, [], ◌∷◌, ◌++◌, ◌≢◌, ◌≡◌, ℤ, pos, length, take}
use Rattle.instruction.specs.Answer.{accepted, refused}
use Rattle.instruction.specs.Bytes.{Bytes}
use Rattle.instruction.specs.declared.mode.Mode.{Mode}
use Rattle.replay.specs.Answers.{no_totals, lent_answer, told_of, closed_of}
use Rattle.replay.specs.Block.{block_answer, block_log, block_counts}
use Rattle.replay.specs.Log.{highest, begun}
use Rattle.replay.specs.Replay.{replay_answer, replay_counts}
use Rattle.replay.specs.Take.{State, state}
use Rattle.replay.specs.declared.answer.Totals.{Totals}
use Rattle.replay.specs.declared.log.Log.{Log}

-- the text that blocks make one after another
unfoldable pub joined : List (List ℕ) → List ℕ
joined [] = []
joined (x ∷ xs) = x ++ joined xs

module _ (mode : Mode) (image m entries : List ℕ) where
  -- the record and the counts after blocks, each call handed what the one before left
  unfoldable pub fed_all : State → List (List ℕ) → State
  fed_all s [] = s
  fed_all s (x ∷ xs) =
      fed_all (state (block_log s.log mode x image m entries s.counts) (block_counts s.log mode x image m entries s.counts)) xs

  -- from a new record
  abbrev pub fed : List ℕ → List (List ℕ) → State
  fed counts xs = fed_all (state begun counts) xs

-- any two ways of cutting a text leave the same record and the same counts, where what is lent is not refused
abbrev pub CutAnywhere : Type 0
CutAnywhere =
    (mode : Mode) (image m entries counts : List ℕ) (xs ys : List (List ℕ)) → Bytes (joined xs) → lent_answer image m counts ≡ accepted no_totals
    → joined xs ≡ joined ys → fed mode image m entries counts xs ≡ fed mode image m entries counts ys

-- closing answers what the whole log is answered with
abbrev pub ClosedAsWhole : Type 0
ClosedAsWhole =
    (mode : Mode) (image m entries counts : List ℕ) (xs : List (List ℕ)) → Bytes (joined xs) → lent_answer image m counts ≡ accepted no_totals
    → closed_of (fed mode image m entries counts xs).log ≡ replay_answer mode (joined xs) image m entries counts

-- for a log that is accepted the counts are those of the whole
abbrev pub CountsAsWhole : Type 0
CountsAsWhole =
    (mode : Mode) (image m entries counts : List ℕ) (xs : List (List ℕ)) (t : Totals) → Bytes (joined xs) → lent_answer image m counts ≡ accepted no_totals
    → replay_answer mode (joined xs) image m entries counts ≡ accepted t
    → (fed mode image m entries counts xs).counts ≡ replay_counts mode (joined xs) image m entries counts

-- for one that is refused at line n they are those of the lines before it, which are accepted
abbrev pub CountsBefore : Type 0
CountsBefore =
    (mode : Mode) (image m entries counts : List ℕ) (xs : List (List ℕ)) (number n : ℕ) → Bytes (joined xs) → length (joined xs) < highest
    → lent_answer image m counts ≡ accepted no_totals
    → replay_answer mode (joined xs) image m entries counts ≡ refused number (pos n ∷ [])
    → (t : Totals) × (replay_answer mode (take (7 * (n - 1)) (joined xs)) image m entries counts ≡ accepted t)
    × ((fed mode image m entries counts xs).counts ≡ replay_counts mode (take (7 * (n - 1)) (joined xs)) image m entries counts)

-- a refusal that is held is answered again, and changes nothing
abbrev pub HeldStays : Type 0
HeldStays =
    (l : Log) (mode : Mode) (text image m entries counts : List ℕ) → l.refusal ≢ 0
    → (block_answer l mode text image m entries counts ≡ told_of l) × (block_log l mode text image m entries counts ≡ l)
    × (block_counts l mode text image m entries counts ≡ counts) × (closed_of l ≡ told_of l)

-- 1, 2, 6 and 11 refuse their block alone: the record and the counts stay
abbrev pub LentStays : Type 0
LentStays =
    (l : Log) (mode : Mode) (text image m entries counts : List ℕ) (number : ℕ) (vs : List ℤ) → l.refusal ≡ 0
    → lent_answer image m counts ≡ refused number vs
    → (block_answer l mode text image m entries counts ≡ refused number vs) × (block_log l mode text image m entries counts ≡ l)
    × (block_counts l mode text image m entries counts ≡ counts)
