-- The damaged marks that a step reads, from the tests of the code.
-- Assumes nothing.
use mathlib.Core.Path.{◌≡◌, sym, ap, ◌∙◌}
use mathlib.Core.Bool.{Bool, true, false, ◌&&◌}
use mathlib.Core.List.{List, [], ◌∷◌}
use mathlib.Core.Logic.{◌⊎◌, inl, inr}
use Prim.Native.Nat.{ℕ, ◌-◌, ◌<◌, ◌≤◌}
use lib.Dec.{ltb}
use lib.IntN.{pos}
use lib.ListN.{length, get_or}
use borrow.Author.Tests.{lt-ltb, le-ltb}
use Rattle.instruction.specs.Answer.{Answer, accepted, refused, judge}
use Rattle.instruction.proofs.Judging.{pass, stop, done, first_of, past_all}
use Rattle.reach.specs.Mark.{traced_mark}
use Rattle.reach.specs.Tracer.{targets}
use Rattle.reach.proofs.Exempt.{targets_plain, targets_exempt}
use Rattle.marks.specs.Refusals.{damaged}
use Rattle.trace.specs.Step.{damages, damage_refusals}
use Rattle.marks.specs.Tracer.{exempt_here}
use Rattle.marks.specs.Taken.{going_to}
use Rattle.instruction.proofs.Ands.{both, not_first, not_second}
use Rattle.targets.specs.At.{flash_here}

abbrev pub damaged_inside : ℕ → List ℕ → ℕ → Bool
damaged_inside n m t = ltb t n && damaged (get_or m t 0)

-- what is said of the positions ts
abbrev pub judged : ℕ → List ℕ → List ℕ → Answer (Unit {0})
judged n m ts = judge (damages n m ts) tt

module _ (n : ℕ) (m : List ℕ) (t : ℕ) where
  pub read_inside : t < n → damaged (get_or m t 0) ≡ damaged_inside n m t
  read_inside h = rw (lt-ltb t n h)

  pub read_outside : n ≤ t → false ≡ damaged_inside n m t
  read_outside h = rw (le-ltb t n h)

  pub damaged_first : (ts : List ℕ) → damaged_inside n m t ≡ true → refused 6 (pos t ∷ []) ≡ judged n m (t ∷ ts)
  unfolding damages
  damaged_first ts e = sym (stop _ _ _ e)

  pub sound_first : (ts : List ℕ) → damaged_inside n m t ≡ false → judged n m ts ≡ judged n m (t ∷ ts)
  unfolding damages
  sound_first ts e = sym (pass _ _ _ e)

-- what is refused of a position alone is refused of it and more, and what is not is left to those that follow
module _ (n : ℕ) (m : List ℕ) (t : ℕ) (ts : List ℕ) where
  pub refused_first : (q : ℕ) → refused 6 (pos q ∷ []) ≡ judged n m (t ∷ []) → refused 6 (pos q ∷ []) ≡ judged n m (t ∷ ts)
  unfolding damages
  refused_first q e = sym (first_of (damages n m ts) tt tt (damages n m (t ∷ [])) 6 (pos q ∷ []) (sym e))

  pub sound_then : accepted tt ≡ judged n m (t ∷ []) → judged n m ts ≡ judged n m (t ∷ ts)
  unfolding damages
  sound_then e = sym (past_all (damages n m ts) tt tt (damages n m (t ∷ [])) (sym e))

pub sound_end : (n : ℕ) (m : List ℕ) → accepted tt ≡ judged n m []
unfolding damages
sound_end n m = sym (done tt)

-- of a position with the targets ts
module _ (image m ts : List ℕ) (p : ℕ) where
  abbrev before : ℕ
  before = get_or m (p - 2) 0

  abbrev Is : Answer (Unit {0}) → Type 0
  Is a = a ≡ judge (damage_refusals image m p (targets (going_to image ts) m p)) tt

  pub before_damaged : flash_here image p ≡ true → damaged before ≡ true → Is (refused 6 (pos (p - 2) ∷ []))
  unfolding damage_refusals
  before_damaged f d = sym (stop _ _ _ (both (flash_here image p) (damaged before) f d))

  -- where p - 2 has none, the targets decide
  rest : (flash_here image p && damaged before) ≡ false → (us : List ℕ) → targets (going_to image ts) m p ≡ us → Is (judged (length image) m us)
  unfolding damage_refusals
  rest d us e = sym (pass _ _ _ d ∙ ap (judged (length image) m) e)

  pub exempted : flash_here image p ≡ true → damaged before ≡ false → traced_mark before ≡ true → Is (accepted tt)
  unfolding exempt_here
  exempted f d t =
      sound_end (length image) m ∙ rest (not_second (flash_here image p) (damaged before) d) []
      (targets_exempt (going_to image ts) m p (both (flash_here image p) (traced_mark before) f t))

  -- no such Jmpf, or p - 2 is neither damaged nor traced
  pub by_ways : (flash_here image p ≡ false) ⊎ ((flash_here image p ≡ true) × (damaged before ≡ false) × (traced_mark before ≡ false))
      → Is (judged (length image) m ts)
  unfolding exempt_here
  by_ways (inl f) =
      rest (not_first (flash_here image p) (damaged before) f) ts (targets_plain (going_to image ts) m p (not_first (flash_here image p) (traced_mark before) f))
  by_ways (inr (f, d, t)) =
      rest (not_second (flash_here image p) (damaged before) d) ts (targets_plain (going_to image ts) m p (not_second (flash_here image p) (traced_mark before) t))
