-- Of inner functions: empty lines, counted byte by byte; and bytes among which none ends.
-- Assumes nothing.
use Rattle.std.specs.Prelude.{ℕ, ◌+◌, Bool, true, cond, not, ◌&&◌, List, [], ◌∷◌, eqb}

-- b ends an empty line, if a stands before it
abbrev pub ends_empty : ℕ → ℕ → Bool
ends_empty a b = eqb a 10 && eqb b 10

-- how many bytes after the first end one
unfoldable pub empty_lines : List ℕ → ℕ
empty_lines [] = 0
empty_lines (a ∷ []) = 0
empty_lines (a ∷ b ∷ t) = cond (ends_empty a b) 1 0 + empty_lines (b ∷ t)

-- none of these ends one; the first begins a line if f says so
unfoldable pub is_quiet : Bool → List ℕ → Bool
is_quiet f [] = true
is_quiet f (b ∷ t) = not (f && eqb b 10) && is_quiet (eqb b 10) t
