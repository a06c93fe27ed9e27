-- Marks: a table is a list of numbers, one for each position (document 01, "Marks and steps"). Assumes nothing.
use Rattle.std.specs.Prelude.{ℕ, ◌+◌, Bool, cond, ◌||◌, ◌≡◌, ◌⊎◌, List, [], ◌∷◌, ◌++◌, replicate, drop, eqb}

-- 0 untouched
abbrev pub untouched : ℕ
untouched = 0

-- 1 waiting
abbrev pub waiting : ℕ
waiting = 1

-- 2 traced
abbrev pub traced : ℕ
traced = 2

-- 3 traced Jmpf under the exception
abbrev pub flash : ℕ
flash = 3

-- a mark that says traced: 2 or 3
abbrev pub IsTraced : ℕ → Type 0
IsTraced v = (v ≡ traced) ⊎ (v ≡ flash)

-- a mark that says waiting or traced
abbrev pub IsLive : ℕ → Type 0
IsLive v = (v ≡ waiting) ⊎ IsTraced v

-- the test for marks 2 and 3
unfoldable pub traced_mark : ℕ → Bool
traced_mark v = eqb v traced || eqb v flash

-- how many elements pass a test
unfoldable pub count : (ℕ → Bool) → List ℕ → ℕ
count f [] = 0
count f (x ∷ l) = cond (f x) 1 0 + count f l

-- "Start clears the marks": those of the first n positions; bytes beyond the image's length stay
unfoldable pub cleared : ℕ → List ℕ → List ℕ
cleared n m = replicate n untouched ++ drop n m
