-- Where a run's loop stands: the lent order list is the queue, from `head`, the steps taken, to `tail`, the positions noted. Assumes nothing.
use Prim.Native.Nat.{ℕ, suc, ◌+◌, ◌-◌, ◌<◌, ◌≤◌}
use native.Mathlib.Omega.{arith}
use mathlib.Core.Path.{◌≡◌, refl, ap, ◌∙◌}
use mathlib.Core.List.Memᴰ
use mathlib.Core.List.{List, ◌∷◌}
use lib.ListN.{length, get_or, take, drop}
use lib.Seq.{drop-cons, get_or-take, length-take-le}
use Rattle.reach.specs.Mark.{waiting, count}
use Rattle.reach.specs.Tracer.{Tracer, took, found}
use Rattle.reach.specs.Run.{run_from}
use Rattle.reach.proofs.Count.{touched, count_under}
use Rattle.reach.proofs.Found.{touched_took}
use Rattle.reach.proofs.RunLaws.{after}
use Rattle.reach.proofs.Line.{Line}

-- The loop began with marks m₀ and the first tail₀ of o₀ noted; it now has marks m, order list o, tail and head. What is left to do from here,
-- done after what was taken up, is the whole run.
pub record Stand (G : Tracer) (limit : ℕ) (m₀ o₀ : List ℕ) (tail₀ : ℕ) (m o : List ℕ) (tail head : ℕ) : Type 0 where
  pub marks_long : length m ≡ length m₀
  pub order_long : length o ≡ length o₀
  pub begun : tail₀ ≤ tail
  pub in_tail : head ≤ tail
  pub in_limit : head ≤ limit
  pub counted : tail ≤ count touched (take G.size m)
  pub rest : drop tail o ≡ drop tail o₀
  pub line : Line G m (drop head (take tail o))
  pub left : after (take head o) (run_from (limit - head) G (drop head (take tail o)) m) ≡ run_from limit G (take tail₀ o₀) m₀

module _ {G : Tracer} {limit : ℕ} {m₀ o₀ : List ℕ} {tail₀ : ℕ} {m o : List ℕ} {tail head : ℕ} (fm : G.size ≤ length m₀)
    (fo : G.size ≤ length o₀) (S : Stand G limit m₀ o₀ tail₀ m o tail head) where
  pub stand_tail : tail ≤ G.size
  stand_tail = omega (arith, S.counted, count_under touched G.size m)

  module _ (h : head < tail) where
    -- the next position
    pub stand_queue : drop head (take tail o) ≡ get_or o head 0 ∷ drop (suc head) (take tail o)
    stand_queue =
        let l : length (take tail o) ≡ tail = length-take-le tail o (omega (arith, stand_tail, S.order_long)) in
        drop-cons (take tail o) head 0 (omega arith) ∙ ap (λ (x : ℕ). x ∷ drop (suc head) (take tail o)) (get_or-take tail o head 0 h)

    pub stand_line : Line G m (get_or o head 0 ∷ drop (suc head) (take tail o))
    stand_line = rw stand_queue at S.line

    pub stand_inside : get_or o head 0 < G.size
    stand_inside = stand_line.inside (get_or o head 0) (Memᴰ.head refl)

    pub stand_waits : get_or m (get_or o head 0) 0 ≡ waiting
    stand_waits = stand_line.waits (get_or o head 0) (Memᴰ.head refl)

    pub stand_grown : count touched (take G.size (took G m (get_or o head 0)))
        ≡ count touched (take G.size m) + length (found G m (get_or o head 0))
    stand_grown = touched_took G m (get_or o head 0) (omega (arith, S.marks_long)) stand_inside (λ z. omega (arith, stand_waits))

    pub stand_room : tail + length (found G m (get_or o head 0)) ≤ length o
    stand_room = omega (arith, S.counted, stand_grown, count_under touched G.size (took G m (get_or o head 0)), S.order_long)
