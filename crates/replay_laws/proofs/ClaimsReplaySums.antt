-- A log that is accepted: what holds along its lines holds at its end.
-- Assumes nothing.
use Prim.Native.Nat.{ℕ, zero, suc, ◌+◌, ◌-◌, ◌*◌, ◌/◌, ◌<◌, ◌≤◌, min}
use native.Mathlib.Omega.{arith}
use mathlib.Core.Path.{◌≡◌, refl, sym, ap, subst, ◌∙◌}
use mathlib.Core.Bool.{Bool, true, false, cond}
use mathlib.Core.List.{List, [], ◌++◌}
use mathlib.Core.Logic.{◌⊎◌, inl, inr}
use lib.Dec.{eqb}
use lib.ListN.{length, get_or, set, take, drop, length-set, length-drop}
use lib.Seq.{drop-drop}
use Rattle.instruction.specs.declared.mode.Mode.{Mode}
use Rattle.map_laws.specs.ClaimsMap.{sum}
use Rattle.reach.proofs.Cases.{eq_or_ne, lt_or_le, Decided}
use Rattle.views.specs.Positions.{some, traced_at}
use Rattle.views.proofs.TracedAt.{traced_inside}
use Rattle.replay.specs.Block.{is_entry_of}
use Rattle.replay.specs.Line.{is_line, line_at, position_of, position_at}
use Rattle.replay.specs.Log.{highest, begun, one_more, number_of, bytes_in, partial, refusing, going, keeping}
use Rattle.replay.specs.Replay.{replayed}
use Rattle.replay.specs.Take.{State, state, move_now, lines_of, feed_of, block_of}
use Rattle.replay.specs.Answers.{lent_refusals, lent_answer, no_totals, totals_of}
use Rattle.replay.specs.declared.answer.Totals.{Totals}
use Rattle.replay.proofs.Lent.{lent_sizes}
use Rattle.replay.proofs.Logs.{more_next}
use Rattle.replay.proofs.Moving.{first_move}
use Rattle.replay_laws.specs.ClaimsReplay.{Accepted, ReplayAccepted}
use Rattle.replay_laws.proofs.Along.{Fine, onward, along}
use Rattle.replay_laws.proofs.Closing.{Closed, accepted_is, counts_are}
use Rattle.replay_laws.proofs.Totals.{sum_more, few_more, none_more, line_told}

module _ (mode : Mode) (image m : List ℕ) (isEntry : ℕ → Bool) (text c₀ : List ℕ) (long : length text < highest) (small : length image ≤ 65536) where
  abbrev Told : ℕ → Type 0
  Told n = (j : ℕ) → j < n → (is_line (line_at text j) ≡ true) × (traced_at image m (position_at text j) ≡ true)

  -- what holds with k lines to come
  record Along (k : ℕ) (s : State) (rest : List ℕ) : Type 0 where
    here : rest ≡ drop (7 * s.log.lines) text
    within : 7 * s.log.lines + 7 * k ≤ length text
    room : length image ≤ length s.counts
    sums : sum s.counts ≡ sum c₀ + s.log.lines
    few : s.log.interrupts + s.log.free ≤ s.log.lines - 1
    told : Told s.log.lines

  -- and at the end
  record Ended (s : State) : Type 0 where
    within : 7 * s.log.lines ≤ length text
    sums : sum s.counts ≡ sum c₀ + s.log.lines
    few : s.log.interrupts + s.log.free ≤ s.log.lines - 1
    told : Told s.log.lines
    whole : s.log.refusal ≡ 0 → s.log.held ≡ 0 → 7 * s.log.lines ≡ length text

  next : (k : ℕ) (s : State) (rest : List ℕ) → Along (suc k) s rest → Fine mode image m isEntry s (position_of (take 7 rest))
      → Along k (onward mode image m isEntry s (position_of (take 7 rest))) (drop 7 rest)
  unfolding going
  next k s rest A F =
      let p : ℕ = position_of (take 7 rest) in
      let n : ℕ = s.log.lines in
      let w = A.within in
      let e : one_more n ≡ n + 1 = sym (more_next n (omega arith)) in
      let i : p < length image = traced_inside image m p F.traced in
      let h : p < length s.counts = omega (arith, A.room) in
      let q : p ≡ position_at text n = ap (λ (l : List ℕ). position_of (take 7 l)) A.here in
      record {
        here = rw e (ap (drop 7) A.here ∙ drop-drop 7 (7 * n) text ∙ ap (λ (j : ℕ). drop j text) (let z : 7 * n + 7 ≡ 7 * (n + 1) = omega arith in z));
        within = rw e (omega arith);
        room = omega (arith, A.room, length-set s.counts p (get_or s.counts p 0 + 1));
        sums = rw e (omega (arith, sum_more s.counts p h, A.sums));
        few = rw e (fewer (eq_or_ne n 0));
        told = rw e (λ j l. telling j l (lt_or_le j n) i q);
      }
    where
      fewer : Decided (s.log.lines ≡ 0)
          → (going s.log (position_of (take 7 rest)) (move_now mode image m isEntry s.log (position_of (take 7 rest)))).interrupts
          + (going s.log (position_of (take 7 rest)) (move_now mode image m isEntry s.log (position_of (take 7 rest)))).free
          ≤ s.log.lines + 1 - 1
      fewer (inl z) =
          let t = none_more s.log.interrupts s.log.free (move_now mode image m isEntry s.log (position_of (take 7 rest)))
          (sym (first_move mode image m isEntry s.log (position_of (take 7 rest)) z)) in
          let f = A.few in omega (arith, t.0, t.1)
      fewer (inr z) =
          let f = A.few in omega (arith, few_more s.log.interrupts s.log.free (move_now mode image m isEntry s.log (position_of (take 7 rest))))

      telling : (j : ℕ) → j < s.log.lines + 1 → (j < s.log.lines) ⊎ (s.log.lines ≤ j) → position_of (take 7 rest) < length image
          → position_of (take 7 rest) ≡ position_at text s.log.lines → (is_line (line_at text j) ≡ true) × (traced_at image m (position_at text j) ≡ true)
      telling j l (inl g) i q = A.told j g
      telling j l (inr g) i q =
          let d : s.log.lines ≡ j = omega arith in
          let c : position_at text s.log.lines < 65536 = subst (λ (x : ℕ). x < 65536) q (omega arith) in
          subst (λ (x : ℕ). (is_line (line_at text x) ≡ true) × (traced_at image m (position_at text x) ≡ true)) d
          (line_told (line_at text s.log.lines) c, subst (λ (x : ℕ). traced_at image m x ≡ true) q F.traced)

  stop : (s : State) (k n : ℕ) (rest : List ℕ) → Along k s rest → (n ≡ 0 → ⊥) → Ended (state (refusing s.log n) s.counts)
  unfolding refusing
  stop s k n rest A d =
      let w = A.within in
      record { within = omega arith; sums = A.sums; few = A.few; told = A.told; whole = λ e f. absurd (d e) }

  end : (s : State) (rest : List ℕ) → Along 0 s rest → Ended (state (keeping s.log rest) s.counts)
  unfolding keeping refusing
  end s rest A = by (some (eqb 10) rest)
    where
      by : (b : Bool) → Ended (state (cond b (refusing s.log 18) (record {
        lines = s.log.lines;
        interrupts = s.log.interrupts;
        free = s.log.free;
        last = s.log.last;
        refusal = 0;
        held = length rest;
        part = number_of rest;
      })) s.counts)
      by true = let w = A.within in record { within = omega arith; sums = A.sums; few = A.few; told = A.told; whole = λ e f. absurd (omega arith) }
      by false =
          let w = A.within in
          record {
            within = omega arith;
            sums = A.sums;
            few = A.few;
            told = A.told;
            whole = λ e f. (let z = ap length A.here in omega (arith, length-drop (7 * s.log.lines) text));
          }

  all_ended : length image ≤ length c₀ → Ended (block_of mode image m isEntry (state begun c₀) text)
  unfolding block_of feed_of partial bytes_in
  all_ended h =
      along mode image m isEntry Along Ended next (λ k s rest n A d e. stop s (suc k) n rest A d) end (length text / 7) (state begun c₀) text
      (record { here = refl; within = omega arith; room = h; sums = omega arith; few = omega arith; told = λ j l. absurd (omega arith) })

pub replay_accepted : ReplayAccepted
unfolding lent_answer
replay_accepted mode text image m entries counts t long e =
    let a = accepted_is mode text image m entries counts t e in
    let z = lent_sizes image m counts a.0.0 a.0.1 in
    let E = all_ended mode image m (is_entry_of entries) text counts long z.0 z.1 in
    let C = a.1 in
    let w = E.within in
    let f = E.few in
    let l : t.lines ≡ (replayed mode text image m entries counts).log.lines =
    sym (ap (λ (x : Totals). x.lines) C.totals)
    ∙ (let g : min (replayed mode text image m entries counts).log.lines highest
    ≡ (replayed mode text image m entries counts).log.lines = omega arith in g) in
    let i : t.interrupts ≡ (replayed mode text image m entries counts).log.interrupts =
    sym (ap (λ (x : Totals). x.interrupts) C.totals)
    ∙ (let g : min (replayed mode text image m entries counts).log.interrupts highest
    ≡ (replayed mode text image m entries counts).log.interrupts = omega arith in g) in
    let r : t.free ≡ (replayed mode text image m entries counts).log.free =
    sym (ap (λ (x : Totals). x.free) C.totals)
    ∙ (let g : min (replayed mode text image m entries counts).log.free highest ≡ (replayed mode text image m entries counts).log.free = omega arith in g) in
    record {
      sums = rw (counts_are mode text image m entries counts t e, l) E.sums;
      few = ((λ h. omega (arith, l, i, r)), λ h. omega (arith, l, i, r));
      whole = rw l (E.whole C.nothing_refused C.nothing_held);
      traced = λ k h. E.told k (subst (λ (x : ℕ). k < x) l h);
    }
