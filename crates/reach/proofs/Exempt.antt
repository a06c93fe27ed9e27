-- Taking a position up with and without the exception. Assumes nothing.
use Prim.Native.Nat.{ℕ}
use mathlib.Core.Bool.{Bool, true, false, cond}
use mathlib.Core.Path.{◌≡◌, ap, ap₂, ◌∙◌}
use mathlib.Core.List.{List, []}
use lib.ListN.{set}
use Rattle.reach.specs.Mark.{traced, flash}
use Rattle.reach.specs.Note.{note, fresh}
use Rattle.reach.specs.Tracer.{Tracer, targets, mark, took, found}
use Rattle.reach.proofs.Note.{note_nil, fresh_nil}

module _ (G : Tracer) (m : List ℕ) (p : ℕ) where
  -- without it: the targets of the instruction, and mark 2
  module _ (e : G.exempt m p ≡ false) where
    pub targets_plain : targets G m p ≡ G.ways p
    unfolding targets
    targets_plain = ap (λ (b : Bool). cond b [] (G.ways p)) e

    pub mark_plain : mark G m p ≡ traced
    unfolding mark
    mark_plain = ap (λ (b : Bool). cond b flash traced) e

    pub took_plain : took G m p ≡ note G.size (G.ways p) (set m p traced)
    unfolding took
    took_plain = ap₂ (λ (ts : List ℕ) (v : ℕ). note G.size ts (set m p v)) targets_plain mark_plain

    pub found_plain : found G m p ≡ fresh G.size (G.ways p) (set m p traced)
    unfolding found
    found_plain = ap₂ (λ (ts : List ℕ) (v : ℕ). fresh G.size ts (set m p v)) targets_plain mark_plain

  -- under it: no target, and mark 3
  module _ (e : G.exempt m p ≡ true) where
    pub targets_exempt : targets G m p ≡ []
    unfolding targets
    targets_exempt = ap (λ (b : Bool). cond b [] (G.ways p)) e

    pub mark_exempt : mark G m p ≡ flash
    unfolding mark
    mark_exempt = ap (λ (b : Bool). cond b flash traced) e

    pub took_exempt : took G m p ≡ set m p flash
    unfolding took
    took_exempt = ap₂ (λ (ts : List ℕ) (v : ℕ). note G.size ts (set m p v)) targets_exempt mark_exempt ∙ note_nil G.size (set m p flash)

    pub found_exempt : found G m p ≡ []
    unfolding found
    found_exempt = ap₂ (λ (ts : List ℕ) (v : ℕ). fresh G.size ts (set m p v)) targets_exempt mark_exempt ∙ fresh_nil G.size (set m p flash)
