-- How an answer is stated: document 01, 'Numbers given when a call says no'. A call is accepted with a value, or it is refused with a
-- number of that table and the values that stand beside it there. The refusals of a call are a list of tests in the document's order:
-- the first that holds speaks, and where none holds the call is accepted.
-- Assumes nothing.
use Rattle.std.specs.Prelude.{◌≡◌, ℕ, Bool, cond, List, [], ◌∷◌, ◌++◌, length, drop, ℤ}

pub data Answer (A : Type 0) : Type 0 where
  accepted : A → Answer A
  refused : ℕ → List ℤ → Answer A

-- a test, and the number and values of the refusal where it holds
pub record Refusal : Type 0 where
  pub holds : Bool
  pub number : ℕ
  pub values : List ℤ

abbrev pub refuse : Bool → ℕ → List ℤ → Refusal
refuse b n vs = record { holds = b; number = n; values = vs }

-- the first refusal that holds, or else the value
unfoldable pub judge : {A : Type 0} → List Refusal → A → Answer A
judge [] a = accepted a
judge (r ∷ rs) a = cond r.holds (refused r.number r.values) (judge rs a)

-- what is told of the value of an accepted call; a refusal as it is
abbrev pub on_accepted : {A B : Type 0} → (A → B) → Answer A → Answer B
on_accepted f (accepted a) = accepted (f a)
on_accepted f (refused n vs) = refused n vs

-- what lent memory holds afterwards: what was written where the call was accepted, and what it held before where it was refused
abbrev pub after : {A B : Type 0} → Answer A → B → B → B
after (accepted a) written before = written
after (refused n vs) written before = before

-- what is laid over the beginning of a room, whose rest stays
abbrev pub laid : List ℕ → List ℕ → List ℕ
laid out room = out ++ drop (length out) room

-- a definition of an answer's number and values tells all cases, and all values, apart
abbrev pub Apart : {R A : Type 0} → (R → A) → Type 0
Apart {R} f = (r s : R) → f r ≡ f s → r ≡ s
