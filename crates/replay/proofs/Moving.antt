-- From one line to the next, test after test. Ret's first byte is A0, Reti's B0, and no other byte is one: one test at each byte, which antt
-- computes.
-- Assumes nothing.
use Prim.Native.Nat.{ℕ, ◌<◌, ◌≤◌, min}
use native.Mathlib.Omega.{arith}
use mathlib.Core.Path.{◌≡◌, refl, ap, ◌∙◌}
use mathlib.Core.Bool.{Bool, true, false, cond, ◌&&◌, ◌||◌}
use mathlib.Core.List.{List, []}
use mathlib.Core.Logic.{◌⊎◌, inl, inr}
use Rattle.std.specs.Prelude.{Some, None}
use lib.Dec.{eqb}
use lib.ListN.{length, get_or}
use borrow.Author.Tests.{eq-eqb, ne_eqb, le-ltb}
use Rattle.reach.proofs.Cases.{lt_or_le}
use Rattle.instruction.specs.Forms.{forms, form_of, form_named}
use Rattle.instruction.specs.Pattern.{pattern, pattern_bytes, onto, bits_given, next_bracket}
use Rattle.instruction.proofs.Every.{holds}
use Rattle.instruction.specs.declared.mode.Mode.{Mode}
use Rattle.targets.specs.At.{form_here}
use Rattle.reach.specs.Mark.{flash}
use Rattle.marks.proofs.Jmpf.{same, same_is, jmpf_by_byte}
use Rattle.views.specs.Positions.{traced_at}
use Rattle.arrivals.specs.Arrivals.{held_at, arrives}
use Rattle.replay.specs.Moves.{free_after, move_by}
use Rattle.replay.specs.Take.{move_now}
use Rattle.replay.specs.declared.log.Log.{Log}
use Rattle.replay.specs.declared.moves.Move.TheVariants.{Target, Interrupt, Free}

ret_by_byte : (x : ℕ) → x < 256 → eqb (form_of x) (form_named "Ret") ≡ eqb x 0xA0
unfolding same form_of form_named forms pattern pattern_bytes onto bits_given next_bracket
ret_by_byte x h = same_is (eqb (form_of x) (form_named "Ret")) (eqb x 0xA0) (holds (λ k. same (eqb (form_of k) (form_named "Ret")) (eqb k 0xA0)) 256 tt x h)

reti_by_byte : (x : ℕ) → x < 256 → eqb (form_of x) (form_named "Reti") ≡ eqb x 0xB0
unfolding same form_of form_named forms pattern pattern_bytes onto bits_given next_bracket
reti_by_byte x h =
    same_is (eqb (form_of x) (form_named "Reti")) (eqb x 0xB0) (holds (λ k. same (eqb (form_of k) (form_named "Reti")) (eqb k 0xB0)) 256 tt x h)

module _ (image m : List ℕ) (q : ℕ) where
  -- by the five tests
  free_by : (t a b c d : Bool) → traced_at image m q ≡ t → eqb (form_here image q) (form_named "Ret") ≡ a → eqb (form_here image q) (form_named "Reti") ≡ b
      → eqb (form_here image q) (form_named "Jmpf") ≡ c → eqb (get_or m q 0) flash ≡ d → (t && (a || (b || (c && d)))) ≡ free_after image m q
  unfolding free_after
  free_by t a b c d e f g h i = rw (e, f, g, h, i) refl

  pub free_untraced : traced_at image m q ≡ false → false ≡ free_after image m q
  free_untraced e = free_by false _ _ _ _ e refl refl refl refl

  module _ (e : traced_at image m q ≡ true) (h : get_or image q 0 < 256) where
    abbrev x : ℕ
    x = get_or image q 0

    pub free_ret : x ≡ 0xA0 → true ≡ free_after image m q
    free_ret f = free_by true true _ _ _ e (ret_by_byte x h ∙ eq-eqb x 0xA0 f) refl refl refl

    module _ (f : x ≡ 0xA0 → ⊥) where
      pub free_reti : x ≡ 0xB0 → true ≡ free_after image m q
      free_reti g = free_by true false true _ _ e (ret_by_byte x h ∙ ne_eqb x 0xA0 f) (reti_by_byte x h ∙ eq-eqb x 0xB0 g) refl refl

      module _ (g : x ≡ 0xB0 → ⊥) where
        pub free_other : (x ≡ 0x21 → ⊥) → false ≡ free_after image m q
        free_other k =
            free_by true false false false _ e (ret_by_byte x h ∙ ne_eqb x 0xA0 f) (reti_by_byte x h ∙ ne_eqb x 0xB0 g)
            (jmpf_by_byte x h ∙ ne_eqb x 0x21 k) refl

        pub free_jmpf : x ≡ 0x21 → eqb (get_or m q 0) flash ≡ free_after image m q
        free_jmpf k =
            free_by true false false true _ e (ret_by_byte x h ∙ ne_eqb x 0xA0 f) (reti_by_byte x h ∙ ne_eqb x 0xB0 g) (jmpf_by_byte x h ∙ eq-eqb x 0x21 k) refl

-- by the three tests
pub moved_by : (mode : Mode) (image m : List ℕ) (isEntry : ℕ → Bool) (q p : ℕ) (a b c : Bool) → arrives mode image m p q ≡ a → isEntry p ≡ b
    → free_after image m q ≡ c → cond a (Some Target) (cond b (Some Interrupt) (cond c (Some Free) None)) ≡ move_by mode image m isEntry q p
unfolding move_by
moved_by mode image m isEntry q p a b c e f g = rw (e, f, g) refl

-- positions outside memory are one: from none of them does control go anywhere
none_held : (mode : Mode) (image m : List ℕ) (q : ℕ) → length image ≤ q → held_at mode image m q ≡ []
unfolding held_at
none_held mode image m q h = rw (le-ltb q (length image) h) refl

far : (mode : Mode) (image m : List ℕ) (isEntry : ℕ → Bool) (q r p : ℕ) → length image ≤ q → length image ≤ r
    → move_by mode image m isEntry q p ≡ move_by mode image m isEntry r p
unfolding move_by arrives free_after
far mode image m isEntry q r p h k =
    rw (none_held mode image m q h, none_held mode image m r k, le-ltb q (length image) h, le-ltb r (length image) k) refl

same_last : (mode : Mode) (image m : List ℕ) (isEntry : ℕ → Bool) (last q p : ℕ) → length image ≤ 65536 → q ≡ min last 65536
    → move_by mode image m isEntry q p ≡ move_by mode image m isEntry last p
same_last mode image m isEntry last q p h e = by (lt_or_le last 65536)
  where
    by : (last < 65536) ⊎ (65536 ≤ last) → move_by mode image m isEntry q p ≡ move_by mode image m isEntry last p
    by (inl l) = ap (λ (x : ℕ). move_by mode image m isEntry x p) (let g : q ≡ last = omega arith in g)
    by (inr l) = far mode image m isEntry q last p (omega arith) (omega arith)

module _ (mode : Mode) (image m : List ℕ) (isEntry : ℕ → Bool) (l : Log) (p : ℕ) where
  pub first_move : l.lines ≡ 0 → Some Target ≡ move_now mode image m isEntry l p
  unfolding move_now
  first_move e = rw (eq-eqb l.lines 0 e) refl

  pub later_move : (l.lines ≡ 0 → ⊥) → length image ≤ 65536 → (q : ℕ) → q ≡ min l.last 65536
      → move_by mode image m isEntry q p ≡ move_now mode image m isEntry l p
  unfolding move_now
  later_move e h q f = same_last mode image m isEntry l.last q p h f ∙ rw (ne_eqb l.lines 0 e) refl
