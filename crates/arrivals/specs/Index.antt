-- Of inner functions: what the listing asks of arrivals. An index has at each position the lowest traced position that names it, and for
-- each traced position the next that names the same; control that goes on to the position behind needs none, since it comes from at most
-- three bytes before. A reader need not believe how the cells stand: ClaimsIndex.antt says that both together are document 01's arrivals.
-- Assumes nothing.
use Rattle.std.specs.Prelude.{ℕ, ◌+◌, ◌-◌, ◌*◌, ◌/◌, Bool, cond, not, ◌&&◌, List, ◌++◌, map, eqb, leb, ltb, length, get_or}
use Rattle.instruction.specs.declared.mode.Mode.{Mode}
use Rattle.targets.specs.Ways.{name_of, falls_to}
use Rattle.reach.specs.Mark.{flash}
use Rattle.views.specs.Positions.{up_from, positions, kept, traced_at}
use Rattle.arrivals.specs.Arrivals.{first_or}

-- the lowest position from k on, of those below n, that passes a test; where there is none 65,536, which is outside every image
unfoldable pub lowest_of : (ℕ → Bool) → ℕ → ℕ → ℕ
lowest_of f n k = first_or 65536 (kept f (up_from (n - k) k))

-- what q names, if it is traced
unfoldable pub name_at : Mode → List ℕ → List ℕ → ℕ → ℕ
name_at mode image m q = cond (traced_at image m q) (name_of mode image q) 65536

-- p is inside, and q names it
unfoldable pub names_it : Mode → List ℕ → List ℕ → ℕ → ℕ → Bool
names_it mode image m p q = ltb p (length image) && eqb p (name_at mode image m q)

-- no mark 3 stands at q: it had the targets that its instruction has
abbrev pub is_held : List ℕ → ℕ → Bool
is_held m q = not (eqb (get_or m q 0) flash)

-- q names p and had it among its targets
unfoldable pub names_held : Mode → List ℕ → List ℕ → ℕ → ℕ → Bool
names_held mode image m p q = names_it mode image m p q && is_held m q

-- control went on from q to p, right behind it
unfoldable pub falls_from : Mode → List ℕ → List ℕ → ℕ → ℕ → Bool
falls_from mode image m p q = (traced_at image m q && is_held m q) && falls_to mode image q p

-- the lowest of each from k on
abbrev pub next_namer : Mode → List ℕ → List ℕ → ℕ → ℕ → ℕ
next_namer mode image m p k = lowest_of (names_it mode image m p) (length image) k

abbrev pub next_held : Mode → List ℕ → List ℕ → ℕ → ℕ → ℕ
next_held mode image m p k = lowest_of (names_held mode image m p) (length image) k

abbrev pub next_fall : Mode → List ℕ → List ℕ → ℕ → ℕ → ℕ
next_fall mode image m p k = lowest_of (falls_from mode image m p) (length image) k

-- a position as a cell of 16 bits: 65,535 stands for none, since the last position of memory names nothing
abbrev pub cell_of : ℕ → ℕ
cell_of q = cond (ltb q 65535) q 65535

-- what a cell says
abbrev pub cell_says : ℕ → ℕ
cell_says v = cond (ltb v 65535) v 65536

-- the next after q that names what q names
abbrev pub link_of : Mode → List ℕ → List ℕ → ℕ → ℕ
link_of mode image m q = next_namer mode image m (name_at mode image m q) (q + 1)

-- of all positions: the lowest that name them, then the next after each
unfoldable pub index_of : Mode → List ℕ → List ℕ → List ℕ
index_of mode image m =
    map (λ (p : ℕ). cell_of (next_namer mode image m p 0)) (positions image) ++ map (λ (q : ℕ). cell_of (link_of mode image m q)) (positions image)

-- a room of the index's own length, of an image that is not past its limit
abbrev pub is_index_room : List ℕ → List ℕ → Bool
is_index_room image room = leb (length image) 65536 && eqb (length room) (2 * length image)

-- the index is put into such a room, and nothing into another
unfoldable pub room_of : Mode → List ℕ → List ℕ → List ℕ → List ℕ
room_of mode image m room = cond (is_index_room image room) (index_of mode image m) room

-- what is asked of an index: the lowest that names p, and the next after q that names the same
abbrev pub first_in : List ℕ → ℕ → ℕ
first_in index p = cell_says (get_or index p 65535)

abbrev pub next_in : List ℕ → ℕ → ℕ
next_in index q = cell_says (get_or index (length index / 2 + q) 65535)
