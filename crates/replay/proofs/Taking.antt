-- A line taken or refused, test after test.
-- Assumes nothing.
use Prim.Native.Nat.{ℕ, ◌+◌, ◌<◌, ◌≤◌}
use native.Mathlib.Omega.{arith}
use mathlib.Core.Path.{◌≡◌, refl, ap, ◌∙◌}
use mathlib.Core.Bool.{Bool, true, false, cond, not}
use mathlib.Core.List.{List}
use Rattle.std.specs.Prelude.{Option}
use lib.Dec.{eqb}
use lib.ListN.{length, get_or, set, length-set}
use borrow.Author.Tests.{eq-eqb, ne_eqb}
use Rattle.instruction.specs.declared.mode.Mode.{Mode}
use Rattle.text.specs.Four.{four_of}
use Rattle.text.proofs.Digits.{digit_small}
use Rattle.views.specs.Positions.{traced_at}
use Rattle.replay.specs.Line.{digits_in, is_line, position_of}
use Rattle.replay.specs.Log.{top, refusing, going}
use Rattle.replay.specs.Moves.{is_forbidden}
use Rattle.replay.specs.Take.{State, state, move_now, fault_at, taken_at}
use Rattle.replay.specs.declared.log.Log.{Log}
use Rattle.replay.specs.declared.moves.Move.{Move}

module _ (mode : Mode) (image m : List ℕ) (isEntry : ℕ → Bool) (l : Log) (counts : List ℕ) (p : ℕ) where
  abbrev s : State
  s = state l counts

  abbrev by : Option Move
  by = move_now mode image m isEntry l p

  fault_by : (a t f u : Bool) → eqb p 65536 ≡ a → traced_at image m p ≡ t → is_forbidden by ≡ f → eqb (get_or counts p 0) top ≡ u
      → fault_at mode image m isEntry s p ≡ cond a 18 (cond (not t) 19 (cond f 20 (cond u 21 0)))
  unfolding fault_at
  fault_by a t f u e g h i = rw (e, g, h, i) refl

  stopped : (r : Log) (n : ℕ) → r ≡ refusing l n → eqb n 0 ≡ false → fault_at mode image m isEntry s p ≡ n → state r counts ≡ taken_at mode image m isEntry s p
  unfolding taken_at
  stopped r n e f g = rw (e, g, f) refl

  pub malformed : (r : Log) → r ≡ refusing l 18 → p ≡ 65536 → state r counts ≡ taken_at mode image m isEntry s p
  malformed r e f = stopped r 18 e refl (fault_by true _ _ _ (eq-eqb p 65536 f) refl refl refl)

  module _ (g : p ≡ 65536 → ⊥) where
    pub untraced : (r : Log) → r ≡ refusing l 19 → traced_at image m p ≡ false → state r counts ≡ taken_at mode image m isEntry s p
    untraced r e f = stopped r 19 e refl (fault_by false false _ _ (ne_eqb p 65536 g) f refl refl)

    module _ (t : traced_at image m p ≡ true) where
      pub not_allowed : (r : Log) → r ≡ refusing l 20 → is_forbidden by ≡ true → state r counts ≡ taken_at mode image m isEntry s p
      not_allowed r e f = stopped r 20 e refl (fault_by false true true _ (ne_eqb p 65536 g) t f refl)

      module _ (f : is_forbidden by ≡ false) where
        pub full : (r : Log) → r ≡ refusing l 21 → get_or counts p 0 ≡ top → state r counts ≡ taken_at mode image m isEntry s p
        full r e h = stopped r 21 e refl (fault_by false true false true (ne_eqb p 65536 g) t f (eq-eqb (get_or counts p 0) top h))

        pub counted : (r : Log) → r ≡ going l p by → (get_or counts p 0 ≡ top → ⊥)
            → state r (set counts p (get_or counts p 0 + 1)) ≡ taken_at mode image m isEntry s p
        unfolding taken_at
        counted r e h = rw (e, fault_by false true false false (ne_eqb p 65536 g) t f (ne_eqb (get_or counts p 0) top h)) refl

  -- the counts stay as long
  pub taken_length : (r : Log) (cs : List ℕ) → state r cs ≡ taken_at mode image m isEntry s p → length cs ≡ length counts
  unfolding taken_at
  taken_length r cs e = ap (λ (x : State). length x.counts) e ∙ by (eqb (fault_at mode image m isEntry s p) 0)
    where
      by : (b : Bool) → length (cond b (state (going l p (move_now mode image m isEntry l p)) (set counts p (get_or counts p 0 + 1)))
          (state (refusing l (fault_at mode image m isEntry s p)) counts)).counts ≡ length counts
      by true = length-set counts p _
      by false = refl

-- a line tells a position in memory, and what is none 65,536
four_lt : (f : List ℕ) → four_of f < 65536
unfolding four_of
four_lt f = omega (arith, digit_small (get_or f 0 0), digit_small (get_or f 1 0), digit_small (get_or f 2 0), digit_small (get_or f 3 0))

pub position_le : (l : List ℕ) → position_of l ≤ 65536
unfolding position_of
position_le l = by (is_line l)
  where
    by : (b : Bool) → cond b (four_of (digits_in l)) 65536 ≤ 65536
    by true = omega (arith, four_lt (digits_in l))
    by false = omega arith
