-- The record of a replay. Document 02, W11: the totals, the last position, any refusal, and no more text than one partial line.
-- Assumes nothing.
use Rattle.std.specs.Prelude.{ℕ, zero, suc, ◌+◌, ◌*◌, ◌/◌, ◌%◌, min, Bool, cond, Option, List, [], ◌∷◌, eqb, leb, length}
use Rattle.views.specs.Positions.{some}
use Rattle.replay.specs.Moves.{is_interrupt, is_free}
use Rattle.replay.specs.declared.moves.Move.{Move}
use Rattle.replay.specs.declared.fault.Fault.{Fault}
use Rattle.replay.specs.declared.fault.Fault.TheVariants.{Malformed, Untraced, Forbidden, Full}
use Rattle.replay.specs.declared.log.Log.{Log}

-- the highest count
abbrev pub top : ℕ
top = 18446744073709551615

-- the highest total: what a value of an answer holds
abbrev pub highest : ℕ
highest = 9223372036854775807

-- a total at the top stays there
unfoldable pub one_more : ℕ → ℕ
one_more n = cond (leb highest n) highest (n + 1)

abbrev pub more_if : ℕ → Bool → ℕ
more_if n b = cond b (one_more n) n

-- before the first byte
abbrev pub begun : Log
begun = record { lines = 0; interrupts = 0; free = 0; last = 0; refusal = 0; held = 0; part = 0 }

-- the number of a refusal
abbrev pub fault_number : Fault → ℕ
fault_number Malformed = 18
fault_number Untraced = 19
fault_number Forbidden = 20
fault_number Full = 21

-- the next line refused with this number
unfoldable pub refusing : Log → ℕ → Log
refusing l n =
    record { lines = l.lines; interrupts = l.interrupts; free = l.free; last = l.last; refusal = n; held = 0; part = 0 }

-- the next line taken: it tells p, where control came so
unfoldable pub going : Log → ℕ → Option Move → Log
going l p by = record {
  lines = one_more l.lines;
  interrupts = more_if l.interrupts (is_interrupt by);
  free = more_if l.free (is_free by);
  last = p;
  refusal = 0;
  held = 0;
  part = 0;
}

-- bytes as one number, the first lowest, and k bytes of a number
unfoldable pub number_of : List ℕ → ℕ
number_of [] = 0
number_of (b ∷ bs) = number_of bs * 256 + b

unfoldable pub bytes_in : ℕ → ℕ → List ℕ
bytes_in zero n = []
bytes_in (suc k) n = n % 256 ∷ bytes_in k (n / 256)

-- the bytes of the partial line, six at most
unfoldable pub partial : Log → List ℕ
partial l = bytes_in (min l.held 6) l.part

-- fewer than seven bytes are left: they are held, unless a line ends among them, which is malformed
unfoldable pub keeping : Log → List ℕ → Log
keeping l rest = cond (some (eqb 10) rest) (refusing l 18) (record {
  lines = l.lines;
  interrupts = l.interrupts;
  free = l.free;
  last = l.last;
  refusal = 0;
  held = length rest;
  part = number_of rest;
})
