-- Of inner functions: an index on its way.
-- Assumes nothing.
use Rattle.std.specs.Prelude.{ℕ, ◌+◌, ◌*◌, ◌<◌, Bool, cond, List, ◌≡◌, ltb, length, get_or, set}
use Rattle.instruction.specs.declared.mode.Mode.{Mode}
use Rattle.arrivals.specs.Index.{next_namer, link_of, cell_of}

-- v stands at a place, if so it shall be
abbrev pub placed : Bool → ℕ → ℕ → List ℕ → List ℕ
placed b place v index = cond b (set index place v) index

-- what stands at t is noted at a place, if t is below n
abbrev pub linked : ℕ → ℕ → ℕ → List ℕ → List ℕ
linked n t place index = placed (ltb t n) place (get_or index t 0) index

-- q stands at t, if t is below n
abbrev pub headed : ℕ → ℕ → ℕ → List ℕ → List ℕ
headed n t q index = placed (ltb t n) t q index

-- the positions from k on are entered, and no others
pub record Entered (mode : Mode) (image m : List ℕ) (k : ℕ) (index : List ℕ) : Type 0 where
  pub long : length index ≡ 2 * length image
  pub head : (p : ℕ) → p < length image → get_or index p 0 ≡ cell_of (next_namer mode image m p k)
  pub link : (q : ℕ) → q < length image → get_or index (length image + q) 0 ≡ cond (ltb q k) 65535 (cell_of (link_of mode image m q))
