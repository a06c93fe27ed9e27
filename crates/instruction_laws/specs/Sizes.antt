-- Document 01, 'Forms': 'There are 70 forms: 24 of one byte, 31 of two, 15 of three.'
-- Assumes nothing.
use Rattle.std.specs.Prelude.{ℕ, ◌+◌, cond, List, [], ◌∷◌, ◌≡◌, eqb, length}
use Rattle.instruction.specs.Forms.{Form, forms, size_of}

-- how many of the forms have n bytes
abbrev pub of_size : ℕ → List Form → ℕ
of_size n [] = 0
of_size n (w ∷ ws) = cond (eqb (size_of w) n) 1 0 + of_size n ws

pub record Sizes : Type 0 where
  pub all : length forms ≡ 70
  pub one : of_size 1 forms ≡ 24
  pub two : of_size 2 forms ≡ 31
  pub three : of_size 3 forms ≡ 15
