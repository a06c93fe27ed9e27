-- The lines of a log taken one after another. Document 02, W10 and W11: 18, line malformed; 19, position not traced; 20, move not allowed;
-- 21, a count would pass its range; in this order for a line, the first bad line deciding.
-- Assumes nothing.
use Rattle.std.specs.Prelude.{ℕ, zero, suc, ◌+◌, ◌/◌, Bool, cond, not, Option, Some, Result, Ok, Err, List, ◌++◌, eqb, length, get_or, set, take, drop}
use Rattle.instruction.specs.declared.mode.Mode.{Mode}
use Rattle.views.specs.Positions.{traced_at}
use Rattle.replay.specs.Line.{position_of}
use Rattle.replay.specs.Moves.{move_by, is_forbidden}
use Rattle.replay.specs.Log.{top, fault_number, refusing, going, partial, keeping}
use Rattle.replay.specs.declared.fault.Fault.{Fault}
use Rattle.replay.specs.declared.log.Log.{Log}
use Rattle.replay.specs.declared.moves.Move.{Move}
use Rattle.replay.specs.declared.moves.Move.TheVariants.{Target}

-- the record, and the counts
pub record State : Type 0 where
  pub log : Log
  pub counts : List ℕ

abbrev pub state : Log → List ℕ → State
state l c = record { log = l; counts = c }

-- the record after a line that is taken or refused
abbrev pub after_line : Log → Result Log Fault → Log
after_line l (Ok t) = t
after_line l (Err f) = refusing l (fault_number f)

-- over an image and marks, in a mode, where a test tells which positions are entries
module _ (mode : Mode) (image m : List ℕ) (isEntry : ℕ → Bool) where
  -- how control comes to p; the first line is no move
  unfoldable pub move_now : Log → ℕ → Option Move
  move_now l p = cond (eqb l.lines 0) (Some Target) (move_by mode image m isEntry l.last p)

  -- the number of the first refusal of a line that tells p, or 0; 65,536 is told by no line
  unfoldable pub fault_at : State → ℕ → ℕ
  fault_at s p =
      cond (eqb p 65536) 18
      (cond (not (traced_at image m p)) 19 (cond (is_forbidden (move_now s.log p)) 20 (cond (eqb (get_or s.counts p 0) top) 21 0)))

  -- the line refused, or counted
  abbrev pub taken_by : ℕ → State → ℕ → State
  taken_by fault s p =
      cond (eqb fault 0) (state (going s.log p (move_now s.log p)) (set s.counts p (get_or s.counts p 0 + 1)))
      (state (refusing s.log fault) s.counts)

  unfoldable pub taken_at : State → ℕ → State
  taken_at s p = taken_by (fault_at s p) s p

  -- k lines of seven bytes each, up to the first that is refused, and what is left after them
  unfoldable pub lines_of : ℕ → State → List ℕ → State
  lines_of zero s text = state (keeping s.log text) s.counts
  lines_of (suc k) s text = let t = taken_at s (position_of (take 7 text)) in cond (eqb t.log.refusal 0) (lines_of k t (drop 7 text)) t

  -- a text that begins where a line does
  unfoldable pub feed_of : State → List ℕ → State
  feed_of s text = lines_of (length text / 7) s text

  -- a block, which begins with the bytes that are held
  unfoldable pub block_of : State → List ℕ → State
  block_of s text = feed_of s (partial s.log ++ text)
