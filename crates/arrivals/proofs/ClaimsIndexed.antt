-- Who arrives names the position or goes on to it, and the index has those who name it.
-- Assumes nothing.
use mathlib.Core.Path.{◌≡◌, refl, sym, ap, ◌∙◌}
use mathlib.Core.Bool.{Bool, true, false}
use mathlib.Core.List.{List}
use Prim.Native.Nat.{ℕ, ◌+◌, ◌/◌, ◌<◌}
use native.Mathlib.Omega.{arith}
use lib.Dec.{ltb}
use lib.ListN.{length, get_or}
use borrow.Author.Tests.{ltb-true, ltb-false}
use Rattle.instruction.specs.declared.mode.Mode.{Mode}
use Rattle.arrivals.specs.Index.{name_at, names_it, next_namer, cell_of, cell_says, index_of}
use Rattle.arrivals.specs.ClaimsIndex.{OfBytes, ArrivesTwoWays, FirstIndexed, NextIndexed}
use Rattle.arrivals.proofs.Asking.{any_default, cell_back}
use Rattle.arrivals.proofs.Falls.{arrives_either}
use Rattle.arrivals.proofs.Indexing.{index_length, head_at, link_at}
use Rattle.arrivals.proofs.Lowest.{low_is}
use Rattle.arrivals.proofs.Namers.{name_inside, namer_early}

pub arrives_two_ways : ArrivesTwoWays
arrives_two_ways mode image m p q b h = arrives_either mode image m b.0 b.1 p q h

module _ (mode : Mode) (image m : List ℕ) (b : OfBytes image) where
  -- the lowest that names a position fits a cell
  back : (p k : ℕ) → cell_says (cell_of (next_namer mode image m p k)) ≡ next_namer mode image m p k
  back p k = by (ltb q (length image)) refl
    where
      q : ℕ
      q = next_namer mode image m p k

      by : (t : Bool) → ltb q (length image) ≡ t → cell_says (cell_of q) ≡ q
      by true e =
          let h : q < length image = ltb-true q (length image) e in
          let g : q + 1 < length image = namer_early mode image m b.0 p q b.1 ((low_is (length image) b.1 (names_it mode image m p) k).here h) in
          cell_back q (λ f. omega (arith, g, b.1, f)) (omega (arith, g, b.1))
      by false e =
          let h : q ≡ 65536 = (low_is (length image) b.1 (names_it mode image m p) k).past (ltb-false q (length image) e) in
          cell_back q (λ f. omega (arith, h, f)) (omega (arith, h))

pub first_indexed : FirstIndexed
first_indexed mode image m p b h =
    ap cell_says (any_default (index_of mode image m) p 65535 0 (omega (arith, index_length mode image m)) ∙ head_at mode image m p h) ∙ back mode image m b p 0

pub next_indexed : NextIndexed
next_indexed mode image m p q b h e =
    let n : ℕ = length image in
    let l : length (index_of mode image m) / 2 + q ≡ n + q = omega (arith, index_length mode image m) in
    ap (λ (i : ℕ). cell_says (get_or (index_of mode image m) i 65535)) l
    ∙ ap cell_says (any_default (index_of mode image m) (n + q) 65535 0 (omega (arith, index_length mode image m)) ∙ link_at mode image m q h)
    ∙ back mode image m b (name_at mode image m q) (q + 1)
    ∙ ap (λ (t : ℕ). next_namer mode image m t (q + 1)) (sym (name_inside mode image m p q e).1)
