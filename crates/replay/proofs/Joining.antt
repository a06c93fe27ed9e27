-- A block after the bytes that are held: it is taken as these bytes and its own, one after another.
-- Assumes nothing.
use Prim.Native.Nat.{ℕ, ◌+◌, ◌-◌, ◌<◌, ◌≤◌, min}
use native.Mathlib.Omega.{arith}
use mathlib.Core.Path.{◌≡◌, sym, ap, ◌∙◌}
use mathlib.Core.Bool.{Bool}
use mathlib.Core.List.{List, ◌++◌}
use lib.ListN.{length, take, drop, length-append, length-take, length-drop}
use lib.Seq.{sets, take_all, drop-append-add}
use Rattle.instruction.specs.declared.mode.Mode.{Mode}
use Rattle.replay.specs.Line.{position_of}
use Rattle.replay.specs.Log.{partial, keeping}
use Rattle.replay.specs.Take.{State, state, taken_at, feed_of, block_of}
use Rattle.replay.specs.declared.log.Log.{Log}
use Rattle.replay.proofs.Beginning.{partial_length, begun_part, begun_whole}
use Rattle.replay.proofs.Feeding.{feed_on, feed_stop, feed_rest, feed_one}

module _ (mode : Mode) (image m : List ℕ) (isEntry : ℕ → Bool) (l : Log) (counts text : List ℕ) where
  abbrev all : List ℕ
  all = partial l ++ text

  abbrev s : State
  s = state l counts

  -- the seven bytes as they stand in a room of seven
  module _ (z b : List ℕ) (n : ℕ) (e : n ≡ length (take 7 all)) (f : b ≡ sets z 0 (take 7 all)) (g : length z ≡ 7) where
    pub joined_short : n < 7 → (r : Log) (k : ℕ) → k ≡ n → r ≡ keeping l (take k b) → state r counts ≡ block_of mode image m isEntry s text
    unfolding block_of
    joined_short h r k i j =
        let w = length-take 7 all in
        ap (λ (x : Log). state x counts)
        (j ∙ ap (keeping l)
        (ap (λ (x : ℕ). take x b) (i ∙ e) ∙ ap (take (length (take 7 all))) f ∙ begun_part z (take 7 all) (omega arith) ∙ take_all 7 all (omega arith)))
        ∙ feed_rest mode image m isEntry s all (omega arith)

    module _ (h : 7 ≤ n) (a : State) (t : a ≡ feed_of mode image m isEntry s b) where
      long : 7 ≤ length all
      long = let w = length-take 7 all in omega arith

      line : b ≡ take 7 all
      line = f ∙ begun_whole z (take 7 all) (let w = length-take 7 all in omega arith)

      taken : a ≡ taken_at mode image m isEntry s (position_of (take 7 all))
      taken =
          t ∙ ap (feed_of mode image m isEntry s) line
          ∙ feed_one mode image m isEntry s (take 7 all) (let w = length-take 7 all in let k = long in omega arith)

      pub joined_stop : (a.log.refusal ≡ 0 → ⊥) → a ≡ block_of mode image m isEntry s text
      unfolding block_of
      joined_stop u = feed_stop mode image m isEntry s a all long taken u

      -- what is left of the block begins at this place
      pub place_in : (c : ℕ) → c ≡ min l.held 6 → 7 - c ≤ length text
      place_in c u = let w = long in omega (arith, length-append (partial l) text, partial_length l)

      pub joined_on : a.log.refusal ≡ 0 → (c k : ℕ) → c ≡ min l.held 6 → k ≡ length text - (7 - c) → (r : State)
          → r ≡ feed_of mode image m isEntry a (take k (drop (7 - c) text)) → r ≡ block_of mode image m isEntry s text
      unfolding block_of
      joined_on u c k v x r y =
          y ∙ ap (feed_of mode image m isEntry a) (take_all k (drop (7 - c) text) (omega (arith, length-drop (7 - c) text)) ∙ rest)
          ∙ feed_on mode image m isEntry s a all long taken u
        where
          rest : drop (7 - c) text ≡ drop 7 all
          rest = sym (ap (λ (j : ℕ). drop j all) (let w : 7 ≡ length (partial l) + (7 - c) = omega (arith, partial_length l) in w)
              ∙ drop-append-add (partial l) text (7 - c))
