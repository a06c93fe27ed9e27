-- The refusals 1 and 2 stepped through, whatever follows them.
-- Assumes nothing.
use mathlib.Core.Path.{◌≡◌, refl, sym, ◌∙◌}
use mathlib.Core.List.{List, [], ◌∷◌, ◌++◌}
use Prim.Native.Nat.{ℕ, ◌<◌, ◌≤◌}
use lib.IntN.{pos}
use lib.ListN.{length}
use borrow.Author.Tests.{lt-ltb, le-ltb}
use Rattle.instruction.specs.Answer.{refused, Refusal, judge, after}
use Rattle.instruction.proofs.Judging.{pass, stop, first_of}
use Rattle.marks.specs.Refusals.{size_refusals, size_refused}
use Rattle.marks.specs.declared.sizes.SizeError.{SizeError}
use Rattle.marks.specs.declared.sizes.SizeError.TheVariants.{LongImage, ShortMarks}

module _ {A : Type 0} (image m : List ℕ) (rs : List Refusal) (a : A) where
  abbrev n : ℕ
  n = length image

  pub long_image : 65536 < n → judge (size_refusals image m ++ rs) a ≡ refused 1 (pos n ∷ [])
  long_image h = stop _ _ _ (lt-ltb 65536 n h)

  module _ (fits : n ≤ 65536) where
    pub short_marks : length m < n → judge (size_refusals image m ++ rs) a ≡ refused 2 (pos (length m) ∷ [])
    short_marks h = pass _ _ _ (le-ltb 65536 n fits) ∙ stop _ _ _ (lt-ltb (length m) n h)

    pub right_sizes : n ≤ length m → judge (size_refusals image m ++ rs) a ≡ judge rs a
    right_sizes h = pass _ _ _ (le-ltb 65536 n fits) ∙ pass _ _ _ (le-ltb (length m) n h)

  -- what the two refuse alone they refuse, whatever follows
  pub sizes_refused : (e : SizeError) → size_refused {A = Unit {0}} e ≡ judge (size_refusals image m) tt → size_refused e ≡ judge (size_refusals image m ++ rs) a
  sizes_refused (LongImage k) e = sym (first_of rs tt a (size_refusals image m) 1 (pos k ∷ []) (sym e))
  sizes_refused (ShortMarks k) e = sym (first_of rs tt a (size_refusals image m) 2 (pos k ∷ []) (sym e))

-- a call that either refuses leaves what it was lent
pub refused_after : (A : Type 0) {B : Type 0} (e : SizeError) (written before : B) → after {A = A} (size_refused e) written before ≡ before
refused_after A (LongImage k) written before = refl
refused_after A (ShortMarks k) written before = refl
