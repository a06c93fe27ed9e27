-- A log that walks from target to target is accepted, unless a count is full.
-- Assumes nothing.
use Prim.Native.Nat.{ℕ, zero, suc, ◌+◌, ◌-◌, ◌*◌, ◌/◌, ◌<◌, ◌≤◌, min}
use native.Mathlib.Omega.{arith}
use mathlib.Core.Path.{◌≡◌, refl, sym, ap, subst, ◌∙◌}
use mathlib.Core.Bool.{Bool, true, false, cond, not}
use mathlib.Core.List.{List, [], ◌∷◌}
use mathlib.Core.Logic.{◌⊎◌, inl, inr, ⊎_elim}
use lib.Dec.{eqb}
use lib.IntN.{pos}
use lib.ListN.{length, get_or, set, take, drop, length-drop, drop_of_length-le}
use lib.Seq.{drop-drop, drop-length}
use borrow.Author.Tests.{eq-eqb, ne_eqb, eqb-false, le-leb}
use Rattle.instruction.specs.Answer.{Answer, accepted, refused}
use Rattle.instruction.specs.declared.mode.Mode.{Mode}
use Rattle.arrivals.specs.Arrivals.{arrives}
use Rattle.reach.proofs.Cases.{eq_or_ne, Decided}
use Rattle.views.specs.Positions.{some, traced_at}
use Rattle.views.proofs.TracedAt.{traced_inside}
use Rattle.replay.specs.Answers.{no_totals, lent_answer, totals_of, number_held, told_of, closed_of}
use Rattle.replay.specs.Block.{is_entry_of}
use Rattle.replay.specs.Line.{is_line, line_at, position_of, position_at}
use Rattle.replay.specs.Log.{top, highest, begun, one_more, bytes_in, partial, number_of, refusing, going, keeping}
use Rattle.replay.specs.Moves.{move_by, is_forbidden}
use Rattle.replay.specs.Replay.{replayed, replay_answer}
use Rattle.replay.specs.Take.{State, state, move_now, fault_at, taken_at, feed_of, block_of}
use Rattle.replay.specs.declared.log.Log.{Log}
use Rattle.replay.specs.declared.answer.Totals.{Totals}
use Rattle.std.specs.Prelude.{Some}
use Rattle.replay.specs.declared.moves.Move.{Move}
use Rattle.replay.specs.declared.moves.Move.TheVariants.{Target}
use Rattle.replay.proofs.Lent.{lent_sizes}
use Rattle.replay.proofs.Logs.{more_next, close_refused, refusal_told, held_21}
use Rattle.replay.proofs.Moving.{first_move}
use Rattle.replay_laws.specs.ClaimsReplay.{Walk, WalkAccepted}
use Rattle.replay_laws.proofs.Along.{Fine, onward, along}
use Rattle.replay_laws.proofs.Closing.{closes, answer_is}
use Rattle.replay_laws.proofs.Totals.{none_more}

module _ (mode : Mode) (image m : List ℕ) (isEntry : ℕ → Bool) (text : List ℕ) (n : ℕ) (long : length text < highest) (W : Walk mode text image m n) where
  record Going (k : ℕ) (s : State) (rest : List ℕ) : Type 0 where
    left : s.log.lines + k ≡ n
    here : rest ≡ drop (7 * s.log.lines) text
    interrupts : s.log.interrupts ≡ 0
    free : s.log.free ≡ 0
    last : 0 < s.log.lines → s.log.last ≡ position_at text (s.log.lines - 1)

  record Came (s : State) : Type 0 where
    refusal : s.log.refusal ≡ 0
    held : s.log.held ≡ 0
    lines : s.log.lines ≡ n
    interrupts : s.log.interrupts ≡ 0
    free : s.log.free ≡ 0

  -- it came to its end, or a count is full
  Outcome : State → Type 0
  Outcome s = Came s ⊎ (s.log.refusal ≡ 21)

  -- a position that the one before had among its targets
  arrived : (l : Log) (p : ℕ) → (l.lines ≡ 0 → ⊥) → arrives mode image m p l.last ≡ true → move_now mode image m isEntry l p ≡ Some Target
  unfolding move_now move_by
  arrived l p z e = rw (ne_eqb l.lines 0 z, e) refl

  module _ (k : ℕ) (s : State) (rest : List ℕ) (G : Going (suc k) s rest) where
    abbrev p : ℕ
    p = position_of (take 7 rest)

    q : p ≡ position_at text s.log.lines
    q = ap (λ (l : List ℕ). position_of (take 7 l)) G.here

    inside : s.log.lines < n
    inside = let e = G.left in omega arith

    traced : traced_at image m p ≡ true
    traced = subst (λ (x : ℕ). traced_at image m x ≡ true) (sym q) (W.traced s.log.lines inside)

    -- each line is a move to a target, or none
    by_target : move_now mode image m isEntry s.log p ≡ Some Target
    by_target = by (eq_or_ne s.log.lines 0)
      where
        by : Decided (s.log.lines ≡ 0) → move_now mode image m isEntry s.log p ≡ Some Target
        by (inl z) = sym (first_move mode image m isEntry s.log p z)
        by (inr z) =
            let j : ℕ = s.log.lines - 1 in
            let e : suc j ≡ s.log.lines = omega arith in
            let f : arrives mode image m (position_at text (suc j)) (position_at text j) ≡ true = W.follows j (omega (arith, inside)) in
            let g : arrives mode image m p s.log.last ≡ true =
            ap (λ (x : ℕ). arrives mode image m x s.log.last) (q ∙ ap (position_at text) (sym e))
            ∙ ap (arrives mode image m (position_at text (suc j))) (G.last (omega arith)) ∙ f in
            arrived s.log p z g

    on : Going k (onward mode image m isEntry s p) (drop 7 rest)
    unfolding going
    on =
        let w : 7 * n ≡ length text = W.whole in
        let e : one_more s.log.lines ≡ s.log.lines + 1 = sym (more_next s.log.lines (omega (arith, inside))) in
        let t = none_more s.log.interrupts s.log.free (move_now mode image m isEntry s.log p) by_target in
        record {
          left = rw e (omega (arith, G.left));
          here = rw e (ap (drop 7) G.here ∙ drop-drop 7 (7 * s.log.lines) text
              ∙ ap (λ (j : ℕ). drop j text) (let z : 7 * s.log.lines + 7 ≡ 7 * (s.log.lines + 1) = omega arith in z));
          interrupts = t.0 ∙ G.interrupts;
          free = t.1 ∙ G.free;
          last = λ h. q ∙ ap (position_at text) (let z : s.log.lines ≡ one_more s.log.lines - 1 = omega arith in z);
        }

    -- what becomes of the line, by whether its count is full
    abbrev out : Bool → State
    out u =
        cond (eqb (cond {A = ℕ} u 21 0) 0) (onward mode image m isEntry s p) (state (refusing s.log (cond {A = ℕ} u 21 0)) s.counts)

    is_out : length image ≤ 65536 → taken_at mode image m isEntry s p ≡ out (eqb (get_or s.counts p 0) top)
    unfolding taken_at fault_at
    is_out small = rw (ne_eqb p 65536 (λ x. (let y = traced_inside image m p traced in omega arith)), traced, ap is_forbidden by_target) refl

    -- the only refusal is of a count that is full
    only_full : (j : ℕ) → (j ≡ 0 → ⊥) → length image ≤ 65536 → taken_at mode image m isEntry s p ≡ state (refusing s.log j) s.counts → j ≡ 21
    unfolding refusing going
    only_full j d small e = by (eqb (get_or s.counts p 0) top) (sym (is_out small) ∙ e)
      where
        by : (u : Bool) → out u ≡ state (refusing s.log j) s.counts → j ≡ 21
        by true f = sym (ap (λ (x : State). x.log.refusal) f)
        by false f = absurd (d (sym (ap (λ (x : State). x.log.refusal) f)))

  end : (s : State) (rest : List ℕ) → Going 0 s rest → Outcome (state (keeping s.log rest) s.counts)
  unfolding keeping Outcome some
  end s rest G =
      let e : s.log.lines ≡ n = (let l = G.left in omega arith) in
      let r : rest ≡ [] = G.here ∙ drop_of_length-le text {i = 7 * s.log.lines} (let w = W.whole in omega arith) in
      inl (rw r (record { refusal = refl; held = refl; lines = e; interrupts = G.interrupts; free = G.free }))

  came : length image ≤ 65536 → (c₀ : List ℕ) → Outcome (block_of mode image m isEntry (state begun c₀) text)
  unfolding block_of feed_of partial bytes_in Outcome refusing
  came small c₀ =
      along mode image m isEntry Going Outcome (λ k s rest G F. on k s rest G) (λ k s rest j G d e. inr (only_full k s rest G j d small e)) end
      (length text / 7) (state begun c₀) text
      (record {
        left = (let w = W.whole in omega arith);
        here = refl;
        interrupts = refl;
        free = refl;
        last = λ h. absurd (omega arith);
      })

  -- what the closed record answers
  closed_so : n ≤ highest → (s : State) → Outcome s
      → (closed_of s.log ≡ accepted (record { lines = n; interrupts = 0; free = 0 })) ⊎ ((k : ℕ) × (closed_of s.log ≡ refused 21 (pos k ∷ [])))
  unfolding Outcome
  closed_so h s (inl C) =
      let l : min s.log.lines highest ≡ n = (let e = C.lines in omega arith) in
      let i : min s.log.interrupts highest ≡ 0 = (let e = C.interrupts in omega arith) in
      let f : min s.log.free highest ≡ 0 = (let e = C.free in omega arith) in
      inl (closes s.log C.refusal C.held ∙ rw (l, i, f) refl)
  closed_so h s (inr e) =
      let d : s.log.refusal ≡ 0 → ⊥ = λ z. omega arith in
      inr (one_more s.log.lines, close_refused s.log d ∙ sym (refusal_told s.log 21 (one_more s.log.lines) d refl (held_21 s.log.refusal e)))

pub walk_accepted : WalkAccepted
unfolding lent_answer
walk_accepted mode text image m entries counts n long lent W =
    let a = answer_is mode text image m entries counts no_totals lent in
    let o = came mode image m (is_entry_of entries) text n long W (lent_sizes image m counts no_totals lent).0 counts in
    ⊎_elim (λ e. inl (a ∙ e)) (λ e. inr (e.0, a ∙ e.1))
    (closed_so mode image m (is_entry_of entries) text n long W (let w = W.whole in omega arith) (replayed mode text image m entries counts) o)
