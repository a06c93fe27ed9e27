-- Of inner functions: the bytes of an image's text held one after another, with no image ended, and the byte that ends one.
-- Assumes nothing.
use Rattle.std.specs.Prelude.{ℕ, ◌+◌, ◌≤◌, Bool, true, false, List, ◌≡◌, length, take, drop}
use Rattle.report_text.specs.Term.{State, state, completes, step_to, step_out, fed_to, fed_out, used_in}
use Rattle.report_text.specs.declared.gather.Gathered.{Gathered}
use Rattle.report_text.specs.declared.sums.Sums.{Sums}

-- a state that is not over
abbrev pub going : Sums → ℕ → Bool → List ℕ → State
going s held fresh room = state (record { sums = s; held = held; fresh = fresh; over = false }) room

-- the first `at` bytes of the text lead from s to t, and nothing is printed of them
pub record Gone (s : State) (text : List ℕ) (t : State) (at : ℕ) : Type 0 where
  pub inside : at ≤ length text
  pub used : used_in s text ≡ at + used_in t (drop at text)
  pub to : (n : ℕ) → fed_to s (take (at + n) text) ≡ fed_to t (take n (drop at text))
  pub out : (n : ℕ) → fed_out s (take (at + n) text) ≡ fed_out t (take n (drop at text))

-- of the first `at` bytes the last, which is byte 10, ends an image; those before it lead from s to t
pub record Ended (s : State) (text : List ℕ) (t : State) (at : ℕ) : Type 0 where
  pub complete : completes t.term 10 ≡ true
  pub used : used_in s text ≡ at
  pub to : fed_to s (take at text) ≡ step_to t 10
  pub out : fed_out s (take at text) ≡ step_out t 10

-- the first m bytes are held, or those up to the first that ends an image
pub record Going (held : ℕ) (fresh : Bool) (text : List ℕ) (m : ℕ) (room room' : List ℕ) (r : Gathered) : Type 0 where
  pub inside : r.used ≤ length text
  pub whole : r.complete ≡ false → (r.used ≡ m) × ((s : Sums) → Gone (going s held fresh room) text (going s r.held r.fresh room') r.used)
  pub ended : r.complete ≡ true → (s : Sums) → Ended (going s held fresh room) text (going s r.held r.fresh room') r.used
