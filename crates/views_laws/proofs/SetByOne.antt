-- What one position sets in the mask and in the target marks: at most three bytes, and at most one.
-- Assumes nothing.
use Prim.Native.Nat.{ℕ, ◌*◌, ◌<◌, ◌≤◌}
use native.Mathlib.Omega.{arith}
use mathlib.Core.Bool.{Bool, true, false, cond, ◌&&◌}
use mathlib.Core.List.{List}
use mathlib.Core.Path.{◌≡◌, sym, ◌∙◌}
use lib.Dec.{eqb, ltb}
use lib.ListN.{length, get_or}
use borrow.Author.Tests.{lt-ltb, ne_eqb}
use Rattle.instruction.specs.Bytes.{Bytes}
use Rattle.instruction.specs.declared.mode.Mode.{Mode}
use Rattle.targets.specs.At.{size_here}
use Rattle.targets.specs.Ways.{name_of}
use Rattle.targets.proofs.Within.{size_short}
use Rattle.reach.specs.HowMany.{how_many}
use Rattle.reach.specs.Mark.{IsTraced, traced_mark}
use Rattle.reach.proofs.Count.{one}
use Rattle.reach.proofs.HowMany.{many_none, many_same, many_marks}
use Rattle.reach.proofs.ManyFew.{few_in_stretch, one_at_most}
use Rattle.reach.proofs.Mark.{traced_test}
use Rattle.marks.specs.Tracer.{exempt_here}
use Rattle.trace_laws.specs.ClaimsCeilings.{traced_marks}
use Rattle.views.specs.Labels.{names}
use Rattle.views.specs.Mask.{under, covers}

-- a position past those counted
pub none_at : (n a : ℕ) → n ≤ a → how_many (λ (t : ℕ). eqb a t) n 0 ≡ 0
none_at n a h = many_same (λ (t : ℕ). eqb a t) (λ (t : ℕ). false) n 0 (λ t x y. ne_eqb a t (λ e. omega arith)) ∙ many_none n 0

module _ (image m : List ℕ) where
  abbrev n : ℕ
  n = length image

  -- the traced positions of the image, counted
  pub traced_many : n ≤ length m → how_many (λ (q : ℕ). traced_mark (get_or m q 0)) n 0 ≡ traced_marks image m
  traced_many l = sym (many_marks traced_mark n m l)

  -- one position masks at most three bytes
  pub masks_few : Bytes image → (q : ℕ) → how_many (λ (b : ℕ). covers image m b q) n 0 ≤ 3 * one (traced_mark (get_or m q 0))
  masks_few B q = by (ltb q n) (traced_mark (get_or m q 0))
    where
      by : (a t : Bool) → how_many (λ (b : ℕ). (a && t) && under image b q) n 0 ≤ 3 * one t
      by true true = omega (arith, few_in_stretch q (size_here image q) n 0, (size_short image q B).1)
      by true false = omega (arith, many_none n 0)
      by false t = omega (arith, many_none n 0)

  -- one that is traced as many as its instruction has
  pub covers_under : (q : ℕ) → q < n → IsTraced (get_or m q 0) → how_many (λ (b : ℕ). covers image m b q) n 0 ≤ size_here image q
  covers_under q h t = rw (lt-ltb q n h, (traced_test (get_or m q 0)).1 t) (few_in_stretch q (size_here image q) n 0)

  -- and names at most one
  pub names_few : (mode : Mode) → n ≤ 65536 → (q : ℕ) → how_many (λ (t : ℕ). names mode image m t q) n 0 ≤ 1 * one (traced_mark (get_or m q 0))
  names_few mode s q = by (traced_mark (get_or m q 0))
    where
      by : (b : Bool) → how_many (λ (t : ℕ). eqb (cond b (cond (exempt_here image m q) 65536 (name_of mode image q)) 65536) t) n 0 ≤ 1 * one b
      by true = one_at_most (cond (exempt_here image m q) 65536 (name_of mode image q)) n 0
      by false = omega (arith, none_at n 65536 s)
