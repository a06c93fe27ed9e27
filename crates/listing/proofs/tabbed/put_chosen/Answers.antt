-- The index stands at the beginning of its room.
-- Assumes nothing.
use Rattle.std.proofs.Common.{◌≡◌, ◌≤◌, ◌*◌, ◌++◌, List, ℕ, length, take, drop, sym, ap, ◌∙◌, arith, length-append}
use lib.Seq.{length-take-le, take_at}
use Rattle.instruction.specs.declared.mode.Mode.{Mode}
use Rattle.arrivals.specs.Index.{index_of}
use Rattle.arrivals.proofs.Indexing.{own_room}
use Rattle.views.specs.View.{Sound}
use Rattle.views.proofs.Viewing.{small, covered}
use Rattle.listing.proofs.tabbed.put_chosen.Goals as goal

-- a room for every image, and the part of it that is lent
module _ (image marks cells : List ℕ) (s : Sound image marks) (e : 131072 ≡ length cells) where
  room : 2 * length image ≤ length cells
  room = let h = small image marks s in omega arith

  part : length (take (2 * length image) cells) ≡ 2 * length image
  part = length-take-le (2 * length image) cells room

  -- with what was written there
  module _ (new : List ℕ) (l : length new ≡ length (take (2 * length image) cells)) where
    again : take (2 * length image) (new ++ drop (2 * length image) cells) ≡ new
    again = take_at new (drop (2 * length image) cells) (2 * length image) (l ∙ part)

    within : 2 * length image ≤ length (new ++ drop (2 * length image) cells)
    within = omega (arith, length-append new (drop (2 * length image) cells), l ∙ part)

    sized : 2 * length image ≡ length (take (2 * length image) (new ++ drop (2 * length image) cells))
    sized = sym (ap length again ∙ l ∙ part)

pub overflow_mul-n : goal.overflow_mul-n
overflow_mul-n c = let h = small c.args.image.now c.args.marks.now c.requires in record { fits = omega arith }

pub slice_bounds-index-end : goal.slice_bounds-index-end
slice_bounds-index-end c = room c.args.image.now c.args.marks.now c.cells-index.result c.requires c.cells-index.ensures

pub slice_bounds-index_into-end : goal.slice_bounds-index_into-end
slice_bounds-index_into-end c = sym (part c.args.image.now c.args.marks.now c.cells-index.result c.requires c.cells-index.ensures)

pub slice_bounds-index-end-2 : goal.slice_bounds-index-end-2
slice_bounds-index-end-2 c =
    within c.args.image.now c.args.marks.now c.cells-index.result c.requires c.cells-index.ensures c.index_into.new.index c.index_into.auto.index

pub slice_bounds-table-end : goal.slice_bounds-table-end
slice_bounds-table-end c =
    sized c.args.image.now c.args.marks.now c.cells-index.result c.requires c.cells-index.ensures c.index_into.new.index c.index_into.auto.index

pub invariant_of-lent : goal.invariant_of-lent
invariant_of-lent c =
    let a = c.args in
    let h = small a.image.now a.marks.now c.requires in
    let cells = c.cells-index.result in
    record {
      small = ((λ n. (c.type_inv.image n).fits), h);
      covered = covered a.image.now a.marks.now c.requires;
      told = again a.image.now a.marks.now cells c.requires c.cells-index.ensures c.index_into.new.index c.index_into.auto.index
          ∙ c.index_into.ensures.index_after
          ∙ sym (own_room a.mode a.image.now a.marks.now (take (2 * length a.image.now) cells) h
          (part a.image.now a.marks.now cells c.requires c.cells-index.ensures)).1;
    }
