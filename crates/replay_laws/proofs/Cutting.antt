-- A text taken in two parts comes to what it comes to in one.
-- Assumes nothing.
use Prim.Native.Nat.{ℕ, zero, suc, ◌+◌, ◌/◌, ◌<◌, ◌≤◌}
use native.Mathlib.Omega.{arith}
use mathlib.Core.Path.{◌≡◌, refl, sym, ap, subst, ◌∙◌}
use mathlib.Core.Bool.{Bool, true, false, cond}
use mathlib.Core.List.{List, ◌++◌, append_assoc}
use mathlib.Core.Logic.{◌⊎◌, inl, inr}
use lib.Dec.{eqb}
use lib.ListN.{length, take, drop, length-append, length-drop}
use lib.Seq.{take-append-le, drop-append-le}
use Rattle.instruction.specs.Bytes.{Bytes}
use Rattle.instruction.specs.declared.mode.Mode.{Mode}
use Rattle.reach.proofs.Cases.{eq_or_ne, lt_or_le, Decided}
use Rattle.views.specs.Positions.{some}
use Rattle.replay.specs.Line.{position_of}
use Rattle.replay.specs.Log.{partial, refusing, keeping}
use Rattle.replay.specs.Take.{State, state, taken_at, feed_of, block_of}
use Rattle.replay.specs.declared.log.Log.{Log}
use Rattle.replay.proofs.Feeding.{feed_on, feed_stop, feed_rest}
use Rattle.replay.proofs.Keeping.{keep_refused, keep_held}
use Rattle.replay.proofs.Taking.{malformed}
use Rattle.replay_laws.proofs.Held.{holding, held_back, feed_same, partial_bytes, bytes_append, bytes_drop}
use Rattle.replay_laws.proofs.Ten.{spoiled, some_append}

module _ (mode : Mode) (image m : List ℕ) (isEntry : ℕ → Bool) where
  abbrev feed : State → List ℕ → State
  feed = feed_of mode image m isEntry

  abbrev block : State → List ℕ → State
  block = block_of mode image m isEntry

  -- t is what x came to: then y goes on from there, unless a line of x was refused
  pub record Parts (s : State) (x y : List ℕ) (t : State) : Type 0 where
    pub on : t.log.refusal ≡ 0 → feed s (x ++ y) ≡ block t y
    pub stop : (t.log.refusal ≡ 0 → ⊥) → feed s (x ++ y) ≡ t

  -- ---- fewer than seven bytes

  module _ (l : Log) (c x y : List ℕ) (h : length x < 7) where
    abbrev s : State
    s = state l c

    number : (refusing l 18).refusal ≡ 0 → ⊥
    unfolding refusing
    number z = omega arith

    refused : some (eqb 10) x ≡ true → feed s (x ++ y) ≡ state (refusing l 18) c
    refused e = by (lt_or_le (length (x ++ y)) 7)
      where
        by : (length (x ++ y) < 7) ⊎ (7 ≤ length (x ++ y)) → feed s (x ++ y) ≡ state (refusing l 18) c
        by (inl g) =
            sym (ap (λ (k : Log). state k c) (keep_refused l (x ++ y) (some_append x y e)) ∙ feed_rest mode image m isEntry s (x ++ y) g)
        by (inr g) =
            sym (feed_stop mode image m isEntry s (state (refusing l 18) c) (x ++ y) g
            (malformed mode image m isEntry l c (position_of (take 7 (x ++ y))) (refusing l 18) refl (spoiled x y h e)) number)

    held_on : Bytes x → feed s (x ++ y) ≡ block (state (holding l x) c) y
    unfolding block_of
    held_on B = sym (ap (λ (z : List ℕ). feed (state (holding l x) c) (z ++ y)) (held_back l x B h) ∙ feed_same mode image m isEntry l x c (x ++ y))

    short : Bytes x → Parts s x y (feed s x)
    short B = by (some (eqb 10) x) refl
      where
        f : state (keeping l x) c ≡ feed s x
        f = feed_rest mode image m isEntry s x h

        by : (b : Bool) → some (eqb 10) x ≡ b → Parts s x y (feed s x)
        by true e =
            subst (Parts s x y) (ap (λ (k : Log). state k c) (keep_refused l x e) ∙ f) (record { on = λ z. absurd (number z); stop = λ z. refused e })
        by false e = subst (Parts s x y) (ap (λ (k : Log). state k c) (keep_held l x _ e refl) ∙ f)
            (record { on = λ z. held_on B; stop = λ z. absurd (z refl) })

  -- ---- line by line

  module _ (s : State) (x y : List ℕ) (h : 7 ≤ length x) where
    abbrev u : State
    u = taken_at mode image m isEntry s (position_of (take 7 x))

    both_long : 7 ≤ length (x ++ y)
    both_long = omega (arith, length-append x y)

    same_line : u ≡ taken_at mode image m isEntry s (position_of (take 7 (x ++ y)))
    same_line = ap (λ (l : List ℕ). taken_at mode image m isEntry s (position_of l)) (sym (take-append-le 7 x y h))

    -- what holds from the next line on holds from this one
    line_on : u.log.refusal ≡ 0 → Parts u (drop 7 x) y (feed u (drop 7 x)) → Parts s x y (feed s x)
    line_on z P =
        let e : feed u (drop 7 x) ≡ feed s x = feed_on mode image m isEntry s u x h refl z in
        let f : feed u (drop 7 x ++ y) ≡ feed s (x ++ y) =
        ap (feed u) (sym (drop-append-le 7 x y h)) ∙ feed_on mode image m isEntry s u (x ++ y) both_long same_line z in
        subst (Parts s x y) e (record { on = λ g. sym f ∙ P.on g; stop = λ g. sym f ∙ P.stop g })

    line_stop : (u.log.refusal ≡ 0 → ⊥) → Parts s x y (feed s x)
    line_stop z =
        subst (Parts s x y) (feed_stop mode image m isEntry s u x h refl z)
        (record { on = λ g. absurd (z g); stop = λ g. sym (feed_stop mode image m isEntry s u (x ++ y) both_long same_line z) })

  parts : (k : ℕ) (s : State) (x y : List ℕ) → length x / 7 ≡ k → Bytes x → Parts s x y (feed s x)
  parts zero s x y e B = short s.log s.counts x y (omega arith) B
  parts (suc k) s x y e B =
      by (eq_or_ne (taken_at mode image m isEntry s (position_of (take 7 x))).log.refusal 0)
      (parts k (taken_at mode image m isEntry s (position_of (take 7 x))) (drop 7 x) y (omega (arith, length-drop 7 x)) (bytes_drop 7 x B))
    where
      by : Decided ((taken_at mode image m isEntry s (position_of (take 7 x))).log.refusal ≡ 0)
          → Parts (taken_at mode image m isEntry s (position_of (take 7 x))) (drop 7 x) y
          (feed (taken_at mode image m isEntry s (position_of (take 7 x))) (drop 7 x))
          → Parts s x y (feed s x)
      by (inl z) ih = line_on s x y (omega arith) z ih
      by (inr z) ih = line_stop s x y (omega arith) z

  -- blocks: one after the other, or both at once
  pub two_blocks : (s : State) (x y : List ℕ) → Bytes x → Parts s (partial s.log ++ x) y (block s x)
  unfolding block_of
  two_blocks s x y B = parts (length (partial s.log ++ x) / 7) s (partial s.log ++ x) y refl
      (bytes_append (partial s.log) x (partial_bytes s.log) B)

  pub block_append : (s : State) (x y : List ℕ) → block s (x ++ y) ≡ feed s ((partial s.log ++ x) ++ y)
  unfolding block_of
  block_append s x y = ap (feed s) (sym (append_assoc (partial s.log) x y))
