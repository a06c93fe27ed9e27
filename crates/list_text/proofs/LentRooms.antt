-- Rooms for the longest image, of which as much is lent to a run as the image has bytes, and lent again with what the run left there.
-- Assumes nothing.
use mathlib.Core.Path.{◌≡◌, sym, ap, ◌∙◌}
use mathlib.Core.List.{List, ◌++◌}
use Prim.Native.Nat.{ℕ, ◌≤◌}
use native.Mathlib.Omega.{arith}
use lib.ListN.{length, take, drop, replicate, length-append, length-replicate}
use lib.Seq.{take_at}
use Rattle.views.proofs.Fronts.{take_replicate}
use Rattle.list_text.specs.Output.{lent_room}

module _ (image : List ℕ) (k : ℕ) (h : length image ≤ k) (room : List ℕ) (e : room ≡ replicate k 0) where
  -- the part that is lent: one for each byte of the image
  pub lent_is : take (length image) room ≡ lent_room image
  lent_is = ap (take (length image)) e ∙ take_replicate (length image) k h

  pub lent_long : length image ≡ length (take (length image) room)
  lent_long = sym (ap length lent_is ∙ length-replicate (length image) 0)

  pub lent_fits : length image ≤ length room
  lent_fits = omega (arith, ap length e, length-replicate {A = ℕ} k 0, h)

  -- what a run left there
  module _ (new : List ℕ) (l : length new ≡ length (take (length image) room)) where
    left_long : length new ≡ length image
    left_long = l ∙ sym lent_long

    pub again : take (length image) (new ++ drop (length image) room) ≡ new
    again = take_at new _ (length image) left_long

    pub within : length image ≤ length (new ++ drop (length image) room)
    within = omega (arith, left_long, length-append new (drop (length image) room))

    pub sized : length image ≡ length (take (length image) (new ++ drop (length image) room))
    sized = sym (ap length again ∙ left_long)
