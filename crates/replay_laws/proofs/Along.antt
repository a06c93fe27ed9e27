-- What holds along the lines of a log: from each state to the next, at a refusal, and at the end.
-- Assumes nothing.
use Prim.Native.Nat.{ℕ, zero, suc, ◌+◌}
use mathlib.Core.Path.{◌≡◌, refl, sym, ◌∙◌}
use mathlib.Core.Bool.{Bool, true, false, cond}
use mathlib.Core.List.{List}
use lib.Dec.{eqb}
use lib.ListN.{get_or, set, take, drop}
use borrow.Author.Tests.{ne_eqb}
use Rattle.instruction.specs.declared.mode.Mode.{Mode}
use Rattle.views.specs.Positions.{traced_at}
use Rattle.replay.specs.Line.{position_of}
use Rattle.replay.specs.Log.{top, refusing, going, keeping}
use Rattle.replay.specs.Moves.{is_forbidden}
use Rattle.replay.specs.Take.{State, state, move_now, taken_at, lines_of}
use Rattle.replay.proofs.How.{How, stopped, went, how}

module _ (mode : Mode) (image m : List ℕ) (isEntry : ℕ → Bool) where
  -- the state after a line that tells p is taken
  abbrev pub onward : State → ℕ → State
  onward s p = state (going s.log p (move_now mode image m isEntry s.log p)) (set s.counts p (get_or s.counts p 0 + 1))

  -- a line can be taken: its position is traced, the move is allowed, and the count has room
  pub record Fine (s : State) (p : ℕ) : Type 0 where
    pub traced : traced_at image m p ≡ true
    pub allowed : is_forbidden (move_now mode image m isEntry s.log p) ≡ false
    pub room : get_or s.counts p 0 ≡ top → ⊥

  module _ (P : ℕ → State → List ℕ → Type 0) (Q : State → Type 0)
      (next : (k : ℕ) (s : State) (rest : List ℕ) → P (suc k) s rest → Fine s (position_of (take 7 rest))
      → P k (onward s (position_of (take 7 rest))) (drop 7 rest))
      (stop : (k : ℕ) (s : State) (rest : List ℕ) (n : ℕ) → P (suc k) s rest → (n ≡ 0 → ⊥)
      → taken_at mode image m isEntry s (position_of (take 7 rest)) ≡ state (refusing s.log n) s.counts
      → Q (state (refusing s.log n) s.counts))
      (end : (s : State) (rest : List ℕ) → P 0 s rest → Q (state (keeping s.log rest) s.counts)) where
    step : (k : ℕ) (s t : State) (rest : List ℕ) → t ≡ taken_at mode image m isEntry s (position_of (take 7 rest))
        → How mode image m isEntry s (position_of (take 7 rest)) t → P (suc k) s rest
        → ((u : State) → P k u (drop 7 rest) → Q (lines_of mode image m isEntry k u (drop 7 rest)))
        → Q (cond (eqb t.log.refusal 0) (lines_of mode image m isEntry k t (drop 7 rest)) t)
    unfolding refusing going
    step k s t rest z (stopped n d e) p ih = rw (e, ne_eqb n 0 d) (stop k s rest n p d (sym z ∙ e))
    step k s t rest z (went a b c e) p ih = rw e (ih (onward s (position_of (take 7 rest))) (next k s rest p (record { traced = a; allowed = b; room = c })))

    pub along : (k : ℕ) (s : State) (rest : List ℕ) → P k s rest → Q (lines_of mode image m isEntry k s rest)
    unfolding lines_of
    along zero s rest p = end s rest p
    along (suc k) s rest p = step k s _ rest refl (how mode image m isEntry s (position_of (take 7 rest))) p (λ u q. along k u (drop 7 rest) q)
