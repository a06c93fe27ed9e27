-- What an exported call hands over. Document 01, 'Numbers given when a call says no': 0 or the number of the refusal, and what stands
-- beside it there, in a room of five values.
-- Assumes nothing.
use Rattle.std.specs.Prelude.{Result, Ok, Err, ℕ, List, [], ◌∷◌, ℤ, pos, get_or}
use Rattle.instruction.specs.Answer.{Answer, accepted, refused}
use Rattle.c_answers.specs.declared.reply.Reply.{Reply}

-- five values: those given, and 0 for each that is missing
abbrev pub five : List ℤ → List ℤ
five vs = get_or vs 0 (pos 0) ∷ get_or vs 1 (pos 0) ∷ get_or vs 2 (pos 0) ∷ get_or vs 3 (pos 0) ∷ get_or vs 4 (pos 0) ∷ []

-- 0 where the call is accepted
abbrev pub refusal_number : {A : Type 0} → Answer A → ℕ
refusal_number (accepted a) = 0
refusal_number (refused n vs) = n

-- the call's own values where it is accepted, and the refusal's where it is refused
abbrev pub values_of : {A : Type 0} → (A → List ℤ) → Answer A → List ℤ
values_of own (accepted a) = five (own a)
values_of own (refused n vs) = five vs

-- the two together
abbrev pub reply : ℕ → List ℤ → Reply
reply n vs = record { number = n; values = five vs }

abbrev pub reply_of : {A : Type 0} → (A → List ℤ) → Answer A → Reply
reply_of own a = record { number = refusal_number a; values = values_of own a }

-- the values of a call that is accepted with a number alone
abbrev pub count_values : ℕ → List ℤ
count_values n = pos n ∷ []

-- a refusal that stands for no accepted call
abbrev pub no_values : Unit {0} → List ℤ
no_values u = []

-- what a result of either is told by, where its value and its error are
abbrev pub of_result : {T E B : Type 0} → (T → B) → (E → B) → Result T E → B
of_result f g (Ok x) = f x
of_result f g (Err e) = g e
