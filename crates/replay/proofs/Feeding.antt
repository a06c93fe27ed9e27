-- A text taken line by line: seven bytes, and what is left.
-- Assumes nothing.
use Prim.Native.Nat.{ℕ, suc, ◌+◌, ◌-◌, ◌/◌, ◌<◌, ◌≤◌}
use native.Mathlib.Omega.{arith}
use mathlib.Core.Path.{◌≡◌, refl, sym, ap, ◌∙◌}
use mathlib.Core.Bool.{Bool, true, false, cond}
use mathlib.Core.List.{List, []}
use lib.Dec.{eqb}
use lib.ListN.{length, get_or, set, take, drop, length-drop, drop_of_length-le}
use lib.Seq.{take_all, drop-drop}
use borrow.Author.Tests.{eq-eqb, ne_eqb}
use Rattle.instruction.specs.declared.mode.Mode.{Mode}
use Rattle.replay.specs.Line.{position_of}
use Rattle.views.specs.Positions.{some}
use Rattle.replay.specs.Log.{refusing, going, number_of, keeping}
use Rattle.replay.specs.Take.{State, state, move_now, fault_at, taken_at, lines_of, feed_of}
use Rattle.replay.specs.declared.log.Log.{Log}

module _ (mode : Mode) (image m : List ℕ) (isEntry : ℕ → Bool) where
  -- one line, and the rest
  pub feed_next : (s : State) (text : List ℕ) → 7 ≤ length text
      → feed_of mode image m isEntry s text
      ≡ (let t = taken_at mode image m isEntry s (position_of (take 7 text)) in cond (eqb t.log.refusal 0) (feed_of mode image m isEntry t (drop 7 text)) t)
  unfolding feed_of lines_of
  feed_next s text h = ap (λ (k : ℕ). lines_of mode image m isEntry k s text)
      (let e : length text / 7 ≡ suc (length (drop 7 text) / 7) = omega (arith, length-drop 7 text) in e)

  module _ (s t : State) (text : List ℕ) (h : 7 ≤ length text) (e : t ≡ taken_at mode image m isEntry s (position_of (take 7 text))) where
    pub feed_on : t.log.refusal ≡ 0 → feed_of mode image m isEntry t (drop 7 text) ≡ feed_of mode image m isEntry s text
    feed_on f = sym (feed_next s text h ∙ rw (← e, eq-eqb t.log.refusal 0 f) refl)

    pub feed_stop : (t.log.refusal ≡ 0 → ⊥) → t ≡ feed_of mode image m isEntry s text
    feed_stop f = sym (feed_next s text h ∙ rw (← e, ne_eqb t.log.refusal 0 f) refl)

  pub feed_rest : (s : State) (text : List ℕ) → length text < 7 → state (keeping s.log text) s.counts ≡ feed_of mode image m isEntry s text
  unfolding feed_of lines_of
  feed_rest s text h = sym (ap (λ (k : ℕ). lines_of mode image m isEntry k s text) (let e : length text / 7 ≡ 0 = omega arith in e))

  -- a line after which nothing is left
  module _ (s : State) (p : ℕ) where
    abbrev after : Bool → ℕ → State
    after b fault =
        cond b (state (going s.log p (move_now mode image m isEntry s.log p)) (set s.counts p (get_or s.counts p 0 + 1)))
        (state (refusing s.log fault) s.counts)

    ends_by : (fault : ℕ) (b : Bool) → eqb fault 0 ≡ b
        → cond (eqb (after b fault).log.refusal 0) (state (keeping (after b fault).log []) (after b fault).counts) (after b fault) ≡ after b fault
    unfolding going refusing keeping some number_of
    ends_by fault true e = refl
    ends_by fault false e = rw e refl

    ends : (let t = taken_at mode image m isEntry s p in cond (eqb t.log.refusal 0) (state (keeping t.log []) t.counts) t)
        ≡ taken_at mode image m isEntry s p
    unfolding taken_at
    ends = ends_by (fault_at mode image m isEntry s p) (eqb (fault_at mode image m isEntry s p) 0) refl

  pub feed_one : (s : State) (line : List ℕ) → length line ≡ 7 → feed_of mode image m isEntry s line ≡ taken_at mode image m isEntry s (position_of line)
  feed_one s line e =
      let t = taken_at mode image m isEntry s (position_of line) in
      feed_next s line (omega arith)
      ∙ rw (take_all 7 line (omega arith), drop_of_length-le line {i = 7} (omega arith), ← feed_rest t [] (omega arith)) (ends s (position_of line))

  -- ---- from a place of the text on

  module _ (s total : State) (text : List ℕ) (at : ℕ) (so : feed_of mode image m isEntry s (drop at text) ≡ total) where
    module _ (r : State) (line : List ℕ) (h : 7 ≤ length text - at) (e : line ≡ take 7 (drop at text)) (f : r ≡ taken_at mode image m isEntry s (position_of line)) where
      seven : 7 ≤ length (drop at text)
      seven = omega (arith, length-drop at text)

      there : r ≡ taken_at mode image m isEntry s (position_of (take 7 (drop at text)))
      there = f ∙ ap (λ (l : List ℕ). taken_at mode image m isEntry s (position_of l)) e

      pub lines_on : r.log.refusal ≡ 0 → feed_of mode image m isEntry r (drop (at + 7) text) ≡ total
      lines_on z = ap (feed_of mode image m isEntry r) (sym (drop-drop 7 at text)) ∙ feed_on s r (drop at text) seven there z ∙ so

      pub lines_stop : (r.log.refusal ≡ 0 → ⊥) → r ≡ total
      lines_stop z = feed_stop s r (drop at text) seven there z ∙ so

    pub lines_rest : length text - at < 7 → (l : Log) → l ≡ keeping s.log (drop at text) → state l s.counts ≡ total
    lines_rest h l e = ap (λ (x : Log). state x s.counts) e ∙ feed_rest s (drop at text) (omega (arith, length-drop at text)) ∙ so
