-- Totals that stop at the top, and the record after a line.
-- Assumes nothing.
use Prim.Native.Nat.{ℕ, ◌+◌, ◌<◌, ◌≤◌, min}
use native.Mathlib.Omega.{arith}
use mathlib.Core.Path.{◌≡◌, refl}
use mathlib.Core.Bool.{Bool, true, false, cond, not, ◌&&◌}
use mathlib.Core.List.{[], ◌∷◌}
use Rattle.std.specs.Prelude.{Option}
use lib.Dec.{eqb}
use lib.IntN.{pos}
use borrow.Author.Tests.{eq-eqb, ne_eqb, le-leb, lt-leb}
use Rattle.instruction.specs.Answer.{Answer, accepted, refused}
use Rattle.replay.specs.Log.{highest, one_more, more_if, fault_number, refusing, going}
use Rattle.replay.specs.Moves.{is_interrupt, is_free}
use Rattle.replay.specs.Answers.{told_of, closed_of, number_held}
use Rattle.replay.specs.declared.fault.Fault.{Fault}
use Rattle.replay.specs.declared.fault.Fault.TheVariants.{Malformed, Untraced, Forbidden, Full}
use Rattle.replay.specs.declared.log.Log.{Log}
use Rattle.replay.specs.declared.moves.Move.{Move}
use Rattle.replay.specs.declared.answer.Totals.{Totals}

pub more_top : (n : ℕ) → highest ≤ n → highest ≡ one_more n
unfolding one_more
more_top n h = rw (le-leb highest n h) refl

pub more_next : (n : ℕ) → n < highest → n + 1 ≡ one_more n
unfolding one_more
more_next n h = rw (lt-leb highest n h) refl

-- a line that is refused leaves a record with a refusal
pub refused_line : (l : Log) (f : Fault) → (refusing l (fault_number f)).refusal ≡ 0 → ⊥
unfolding refusing
refused_line l Malformed = λ e. omega arith
refused_line l Untraced = λ e. omega arith
refused_line l Forbidden = λ e. omega arith
refused_line l Full = λ e. omega arith

pub going_is : (l : Log) (p : ℕ) (by : Option Move) (x y : ℕ) → x ≡ more_if l.interrupts (is_interrupt by) → y ≡ more_if l.free (is_free by)
    → ◌≡◌ {A = Log} (record { lines = one_more l.lines; interrupts = x; free = y; last = p; refusal = 0; held = 0; part = 0 }) (going l p by)
unfolding going
going_is l p by x y e f = rw (e, f) refl

-- ---- what is told

pub totals_told : (l : Log) (a b c : ℕ) → l.refusal ≡ 0 → a ≡ min l.lines highest → b ≡ min l.interrupts highest → c ≡ min l.free highest
    → ◌≡◌ {A = Answer Totals} (accepted (record { lines = a; interrupts = b; free = c })) (told_of l)
unfolding told_of
totals_told l a b c e f g h = rw (eq-eqb l.refusal 0 e, f, g, h) refl

-- a refusal that is held, by its number
pub refusal_told : (l : Log) (n line : ℕ) → (l.refusal ≡ 0 → ⊥) → line ≡ one_more l.lines → number_held l.refusal ≡ n
    → ◌≡◌ {A = Answer Totals} (refused n (pos line ∷ [])) (told_of l)
unfolding told_of
refusal_told l n line d e f = rw (ne_eqb l.refusal 0 d, f, e) refl

pub held_19 : (r : ℕ) → r ≡ 19 → number_held r ≡ 19
held_19 r e = rw e refl

pub held_20 : (r : ℕ) → r ≡ 20 → number_held r ≡ 20
held_20 r e = rw e refl

pub held_21 : (r : ℕ) → r ≡ 21 → number_held r ≡ 21
held_21 r e = rw e refl

pub held_18 : (r : ℕ) → (r ≡ 19 → ⊥) → (r ≡ 20 → ⊥) → (r ≡ 21 → ⊥) → number_held r ≡ 18
held_18 r a b c = rw (ne_eqb r 19 a, ne_eqb r 20 b, ne_eqb r 21 c) refl

-- ---- at the end of the log

pub close_whole : (l : Log) → l.held ≡ 0 → closed_of l ≡ told_of l
unfolding closed_of
close_whole l e = by (eqb l.refusal 0)
  where
    by : (b : Bool) → cond (b && not (eqb l.held 0)) (refused 18 (pos (one_more l.lines) ∷ [])) (told_of l) ≡ told_of l
    by true = rw (eq-eqb l.held 0 e) refl
    by false = refl

pub close_refused : (l : Log) → (l.refusal ≡ 0 → ⊥) → closed_of l ≡ told_of l
unfolding closed_of
close_refused l d = rw (ne_eqb l.refusal 0 d) refl

pub close_partial : (l : Log) (line : ℕ) → (l.held ≡ 0 → ⊥) → l.refusal ≡ 0 → line ≡ one_more l.lines
    → ◌≡◌ {A = Answer Totals} (refused 18 (pos line ∷ [])) (closed_of l)
unfolding closed_of
close_partial l line d e f = rw (ne_eqb l.held 0 d, eq-eqb l.refusal 0 e, f) refl
