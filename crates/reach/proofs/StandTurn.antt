-- A turn of a run's loop: the next position taken up, and what it found written at the order list's end. Assumes nothing.
use Prim.Native.Nat.{ℕ, suc, ◌+◌, ◌-◌, ◌<◌, ◌≤◌}
use native.Mathlib.Omega.{arith}
use native.Mathlib.Numerals.{add-one}
use mathlib.Core.Bool.{true}
use mathlib.Core.Path.{◌≡◌, sym, ap, ap₂, ◌∙◌}
use mathlib.Core.List.{List, [], ◌∷◌, ◌++◌}
use lib.ListN.{length, get_or, take, drop}
use lib.Seq.{sets, length-sets, take-suc, take-take, length-take-le, take-append-le, drop-append-le}
use Rattle.reach.specs.Tracer.{Tracer, took, found}
use Rattle.reach.specs.Run.{run_from}
use Rattle.reach.specs.Queue.{TakenInOrder}
use Rattle.reach.proofs.Took.{length_took}
use Rattle.reach.proofs.RunLaws.{after, run_turn}
use Rattle.reach.proofs.Sets.{take_sets, drop_sets, drop_later}
use Rattle.reach.proofs.LineNext.{line_next}
use Rattle.reach.proofs.Stand.{Stand, stand_tail, stand_queue, stand_line, stand_room, stand_grown}

module _ {G : Tracer} {limit : ℕ} {m₀ o₀ : List ℕ} {tail₀ : ℕ} {m o : List ℕ} {tail head : ℕ} (fm : G.size ≤ length m₀)
    (fo : G.size ≤ length o₀) (S : Stand G limit m₀ o₀ tail₀ m o tail head) (h : head < tail) (k : head < limit)
    (f : G.fits (get_or o head 0) ≡ true) where
  abbrev p : ℕ
  p = get_or o head 0

  abbrev new : List ℕ
  new = found G m (get_or o head 0)

  front : take (tail + length new) (sets o tail new) ≡ take tail o ++ new
  front = take_sets o tail new (stand_room fm fo S h)

  long : length (take tail o) ≡ tail
  long = length-take-le tail o (omega (arith, stand_tail fm fo S, S.order_long))

  taken : take (head + 1) (sets o tail new) ≡ take head o ++ (p ∷ [])
  taken =
      ap (λ (j : ℕ). take j (sets o tail new)) (add-one head)
      ∙ sym (take-take (suc head) (tail + length new) (sets o tail new) (omega arith))
      ∙ ap (take (suc head)) front ∙ take-append-le (suc head) (take tail o) new (omega (arith, long))
      ∙ take-take (suc head) tail o h ∙ take-suc o head 0 (omega (arith, stand_tail fm fo S, S.order_long))

  waiting_on : drop (head + 1) (take (tail + length new) (sets o tail new)) ≡ drop (suc head) (take tail o) ++ new
  waiting_on =
      ap₂ (λ (j : ℕ) (x : List ℕ). drop j x) (add-one head) front ∙ drop-append-le (suc head) (take tail o) new (omega (arith, long))

  turned : Stand G limit m₀ o₀ tail₀ (took G m p) (sets o tail new) (tail + length new) (head + 1)
  turned = record {
    marks_long = length_took G m p ∙ S.marks_long;
    order_long = length-sets o tail new ∙ S.order_long;
    begun = omega (arith, S.begun);
    in_tail = omega arith;
    in_limit = omega arith;
    counted = omega (arith, S.counted, stand_grown fm fo S h);
    rest = drop_sets o tail new (stand_room fm fo S h) ∙ drop_later o o₀ tail (tail + length new) (omega arith) S.rest;
    line = rw waiting_on (line_next G m p (drop (suc head) (take tail o)) (omega (arith, S.marks_long)) (stand_line fm fo S h));
    left =
        let e : suc (limit - (head + 1)) ≡ limit - head = omega arith in
        ap₂ (λ (a q : List ℕ). after a (run_from (limit - (head + 1)) G q (took G m p))) taken waiting_on
        ∙ sym (run_turn G (take head o) p (drop (suc head) (take tail o)) m (limit - (head + 1)) f)
        ∙ ap₂ (λ (j : ℕ) (q : List ℕ). after (take head o) (run_from j G q m)) e (sym (stand_queue fm fo S h)) ∙ S.left;
  }

  pub stand_turn : {m' o' : List ℕ} {tail' : ℕ} → TakenInOrder G (get_or o head 0) m o tail m' o' tail' → Stand G limit m₀ o₀ tail₀ m' o' tail' (head + 1)
  stand_turn T = rw (T.marks_are, T.order_is, T.tail_is) turned
