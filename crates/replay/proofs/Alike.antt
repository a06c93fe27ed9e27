-- Two tests for entries that agree in memory replay alike.
-- Assumes nothing.
use Prim.Native.Nat.{ℕ, zero, suc, ◌/◌, ◌<◌, ◌≤◌, ◌+◌}
use native.Mathlib.Omega.{arith}
use mathlib.Core.Path.{◌≡◌, refl, ap, ◌∙◌}
use mathlib.Core.Bool.{Bool, cond, not}
use mathlib.Core.Logic.{inl, inr}
use mathlib.Core.List.{List, ◌++◌}
use Rattle.std.specs.Prelude.{Option, Some, None}
use lib.Dec.{eqb}
use lib.ListN.{length, get_or, set, take, drop}
use borrow.Author.Tests.{eq-eqb}
use Rattle.instruction.specs.declared.mode.Mode.{Mode}
use Rattle.reach.proofs.Cases.{eq_or_ne, Decided}
use Rattle.arrivals.specs.Arrivals.{arrives}
use Rattle.views.specs.Positions.{traced_at}
use Rattle.replay.specs.Line.{position_of}
use Rattle.replay.specs.Log.{top, refusing, going, partial}
use Rattle.replay.specs.Moves.{free_after, move_by, is_forbidden}
use Rattle.replay.specs.Take.{State, state, move_now, fault_at, taken_at, lines_of, feed_of, block_of}
use Rattle.replay.specs.declared.log.Log.{Log}
use Rattle.replay.specs.declared.moves.Move.{Move}
use Rattle.replay.specs.declared.moves.Move.TheVariants.{Target, Interrupt, Free}
use Rattle.replay.proofs.Taking.{position_le}

module _ (mode : Mode) (image m : List ℕ) (f g : ℕ → Bool) (agree : (p : ℕ) → p < 65536 → f p ≡ g p) where
  move_like : (l : Log) (p : ℕ) → p < 65536 → move_now mode image m f l p ≡ move_now mode image m g l p
  unfolding move_now move_by
  move_like l p h =
      ap (λ (b : Bool). cond (eqb l.lines 0) (Some Target)
      (cond (arrives mode image m p l.last) (Some Target) (cond b (Some Interrupt) (cond (free_after image m l.last) (Some Free) None))))
      (agree p h)

  -- by how control comes there
  taken_with : State → ℕ → Option Move → State
  taken_with s p by =
      let n : ℕ = cond (eqb p 65536) 18 (cond (not (traced_at image m p)) 19 (cond (is_forbidden by) 20 (cond (eqb (get_or s.counts p 0) top) 21 0))) in
      cond (eqb n 0) (state (going s.log p by) (set s.counts p (get_or s.counts p 0 + 1))) (state (refusing s.log n) s.counts)

  outside_like : (s : State) (p : ℕ) (by by' : Option Move) → p ≡ 65536 → taken_with s p by ≡ taken_with s p by'
  unfolding taken_with
  outside_like s p by by' e = rw (eq-eqb p 65536 e) refl

  taken_like : (s : State) (p : ℕ) → p ≤ 65536 → taken_at mode image m f s p ≡ taken_at mode image m g s p
  unfolding taken_at fault_at taken_with
  taken_like s p h = by (eq_or_ne p 65536)
    where
      by : Decided (p ≡ 65536) → taken_with s p (move_now mode image m f s.log p) ≡ taken_with s p (move_now mode image m g s.log p)
      by (inl e) = outside_like s p (move_now mode image m f s.log p) (move_now mode image m g s.log p) e
      by (inr e) = ap (taken_with s p) (move_like s.log p (omega arith))

  lines_like : (k : ℕ) (s : State) (text : List ℕ) → lines_of mode image m f k s text ≡ lines_of mode image m g k s text
  unfolding lines_of
  lines_like zero s text = refl
  lines_like (suc k) s text =
      ap (λ (t : State). cond (eqb t.log.refusal 0) (lines_of mode image m f k t (drop 7 text)) t)
      (taken_like s (position_of (take 7 text)) (position_le (take 7 text)))
      ∙ ap (λ (x : State). cond (eqb (taken_at mode image m g s (position_of (take 7 text))).log.refusal 0) x
      (taken_at mode image m g s (position_of (take 7 text))))
      (lines_like k (taken_at mode image m g s (position_of (take 7 text))) (drop 7 text))

  pub block_like : (s : State) (text : List ℕ) → block_of mode image m f s text ≡ block_of mode image m g s text
  unfolding block_of feed_of
  block_like s text = lines_like (length (partial s.log ++ text) / 7) s (partial s.log ++ text)
