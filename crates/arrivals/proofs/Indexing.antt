-- The index as it is made, and cell by cell.
-- Assumes nothing.
use mathlib.Core.Path.{◌≡◌, refl, sym, ap, subst, ◌∙◌}
use mathlib.Core.Bool.{Bool, true, false, cond}
use mathlib.Core.List.{List, ◌++◌, map}
use Prim.Native.Nat.{ℕ, ◌+◌, ◌-◌, ◌*◌, ◌<◌, ◌≤◌}
use native.Mathlib.Omega.{arith}
use lib.Dec.{ltb}
use lib.ListN.{length, get_or, replicate, length-append, length-map, length-replicate, get_or-replicate, get_or-append}
use lib.Seq.{get_or-append-add, ext_get_or}
use borrow.Author.Tests.{le-ltb, lt-leb, le-leb, ltb-true, ltb-false, eq-eqb, ne_eqb}
use Rattle.instruction.specs.declared.mode.Mode.{Mode}
use Rattle.targets.proofs.Within.{Small}
use Rattle.views.specs.Positions.{up_from}
use Rattle.views.proofs.Ups.{up_length, up_at}
use Rattle.arrivals.specs.Index.{name_at, names_it, next_namer, link_of, cell_of, index_of, is_index_room, room_of}
use Rattle.arrivals.specs.Entered.{Entered}
use Rattle.arrivals.proofs.Lowest.{low_past, low_none}
use Rattle.arrivals.proofs.Namers.{namer_early}

-- ---- lists of n numbers one after another

module _ (n : ℕ) where
  abbrev part : (ℕ → ℕ) → List ℕ
  part f = map f (up_from n 0)

  part_length : (f : ℕ → ℕ) → length (part f) ≡ n
  part_length f = length-map (up_from n 0) f ∙ up_length n 0

  part_at : (f : ℕ → ℕ) (i : ℕ) → i < n → get_or (part f) i 0 ≡ f i
  part_at f i h = up_at f n 0 i h ∙ ap f (let e : 0 + i ≡ i = omega arith in e)

  -- before the seam and after it
  module _ (f : ℕ → ℕ) (l : List ℕ) (i : ℕ) where
    in_first : i < n → get_or (part f ++ l) i 0 ≡ f i
    in_first h = get_or-append (part f) l 0 i (omega (arith, part_length f)) ∙ part_at f i h

    in_rest : get_or (part f ++ l) (n + i) 0 ≡ get_or l i 0
    in_rest = ap (λ (k : ℕ). get_or (part f ++ l) (k + i) 0) (sym (part_length f)) ∙ get_or-append-add (part f) l i 0

module _ (mode : Mode) (image m : List ℕ) where
  abbrev n : ℕ
  n = length image

  abbrev heads : ℕ → ℕ
  heads p = cell_of (next_namer mode image m p 0)

  abbrev links : ℕ → ℕ
  links q = cell_of (link_of mode image m q)

  pub index_length : length (index_of mode image m) ≡ 2 * n
  unfolding index_of
  index_length = omega (arith, length-append (part n heads) (part n links), part_length n heads, part_length n links)

  pub head_at : (p : ℕ) → p < n → get_or (index_of mode image m) p 0 ≡ cell_of (next_namer mode image m p 0)
  unfolding index_of
  head_at p h = in_first n heads _ p h

  pub link_at : (q : ℕ) → q < n → get_or (index_of mode image m) (n + q) 0 ≡ cell_of (link_of mode image m q)
  unfolding index_of
  link_at q h = in_rest n heads _ q ∙ part_at n links q h

  -- ---- nothing entered yet

  module _ (B : Small image) (fits : n ≤ 65536) where
    -- the last position names nothing
    last_none : (p : ℕ) → next_namer mode image m p (n - 1) ≡ 65536
    last_none p = low_none n fits (names_it mode image m p) (n - 1) (λ r a b. by r a b (names_it mode image m p r) refl)
      where
        by : (r : ℕ) → n - 1 ≤ r → r < n → (t : Bool) → names_it mode image m p r ≡ t → names_it mode image m p r ≡ false
        by r a b true e = absurd (let g = namer_early mode image m B p r fits e in omega arith)
        by r a b false e = e

    none_after : (q : ℕ) → 65535 ≡ cond (ltb q (n - 1)) 65535 (cell_of (link_of mode image m q))
    none_after q = by (ltb q (n - 1)) refl
      where
        by : (b : Bool) → ltb q (n - 1) ≡ b → 65535 ≡ cond b 65535 (cell_of (link_of mode image m q))
        by true e = refl
        by false e = sym (ap cell_of (low_past (names_it mode image m (name_at mode image m q)) n (q + 1) (omega (arith, ltb-false q (n - 1) e))))

    pub blank_entered : (k : ℕ) → k ≡ 2 * n → Entered mode image m (n - 1) (replicate k 65535)
    blank_entered k e = record {
      long = length-replicate {A = ℕ} k 65535 ∙ e;
      head = λ p h. get_or-replicate k p 65535 0 (omega (arith, h, e)) ∙ sym (ap cell_of (last_none p));
      link = λ q h. get_or-replicate k (n + q) 65535 0 (omega (arith, h, e)) ∙ none_after q;
    }

  -- ---- all entered

  module _ (index : List ℕ) (e : Entered mode image m 0 index) where
    abbrev Same : ℕ → Type 0
    Same i = get_or index i 0 ≡ get_or (index_of mode image m) i 0

    same_link : (q : ℕ) → q < n → Same (n + q)
    same_link q h = e.link q h ∙ rw (le-ltb q 0 (omega arith)) (sym (link_at q h))

    pub all_entered : index ≡ index_of mode image m
    all_entered = ext_get_or 0 index (index_of mode image m) (e.long ∙ sym index_length) (λ i h. by i h (ltb i n) refl)
      where
        by : (i : ℕ) → i < length index → (a : Bool) → ltb i n ≡ a → Same i
        by i h true f = let l = ltb-true i n f in e.head i l ∙ sym (head_at i l)
        by i h false f =
            let k : n + (i - n) ≡ i = omega (arith, ltb-false i n f) in
            subst Same k (same_link (i - n) (omega (arith, h, e.long, ltb-false i n f)))

-- ---- the room

module _ (mode : Mode) (image m room : List ℕ) where
  pub past_room : 65536 < length image → (false ≡ is_index_room image room) × (room ≡ room_of mode image m room)
  unfolding room_of
  past_room h = let e = lt-leb (length image) 65536 h in (rw e, rw e)

  pub other_room : length image ≤ 65536 → (length room ≡ 2 * length image → ⊥) → (false ≡ is_index_room image room) × (room ≡ room_of mode image m room)
  unfolding room_of
  other_room h n =
      let e = le-leb (length image) 65536 h in
      let f = ne_eqb (length room) (2 * length image) n in
      (rw (e, f), rw (e, f))

  pub own_room : length image ≤ 65536 → length room ≡ 2 * length image → (true ≡ is_index_room image room) × (index_of mode image m ≡ room_of mode image m room)
  unfolding room_of
  own_room h e =
      let f = le-leb (length image) 65536 h in
      let g = eq-eqb (length room) (2 * length image) e in
      (rw (f, g), rw (f, g))
