-- In wrapping mode no operand of an `I` line is `?`: a target is an address, and a form with no target has no operand.
-- Assumes nothing.
use mathlib.Core.Path.{◌≡◌, refl, ap, sym, subst}
use mathlib.Core.Bool.{false, cond}
use mathlib.Core.List.Memᴰ
use mathlib.Core.List.{List, [], ◌∷◌, Memᴰ as Among}
use Prim.Native.Nat.{ℕ, ◌<◌, ◌≤◌}
use native.Mathlib.Omega.{arith}
use lib.IntN.{ℤ, pos}
use lib.ListN.{length}
use Rattle.instruction.specs.Answer.{Answer, accepted}
use Rattle.instruction.specs.Encode.{form_in}
use Rattle.instruction.specs.Flow.{stops, jumps, branches, among, flow_of}
use Rattle.instruction.specs.Forms.{Form, forms, form_at}
use Rattle.instruction.specs.Kinds.{kinds_of}
use Rattle.instruction.specs.Parts.{parts_of}
use Rattle.instruction.specs.ResolveOperand.{no_address}
use Rattle.instruction.specs.declared.flow.Flow.{Flow}
use Rattle.instruction.specs.declared.flow.Flow.TheVariants.{Stop, Next, Jump, Branch}
use Rattle.instruction.specs.declared.instr.Instr.{Instr}
use Rattle.instruction.specs.declared.kind.Kind.{Kind}
use Rattle.instruction.specs.declared.mode.Mode.TheVariants.{Wrapping}
use Rattle.instruction.proofs.Judging.{accepts}
use Rattle.instruction.proofs.Known.{known}
use Rattle.instruction.proofs.Shapes.{at_each}
use Rattle.instruction.proofs.Sign.{natural}
use Rattle.targets.specs.At.{place_of}
use Rattle.targets.specs.Targets.{next_of, in_mode, address_in, by_flow, targets_in, targets_answer}
use Rattle.trace_laws.proofs.ClaimsModesInside.{wrapping_inside}
use Rattle.listing.specs.Operand.{shown_all, operands_by, first_of}
use Rattle.listing_laws.specs.ClaimsModesListing.{NoQuestion}
use Rattle.listing_laws.proofs.NotQuestion.{each}

-- a number of a form with no target, 0 of the others
if_stop : Flow → ℕ → ℕ
if_stop Stop n = n
if_stop Next n = 0
if_stop Jump n = 0
if_stop Branch n = 0

-- a form with no target has no operand
bare : (k : ℕ) → k < 70 → if_stop (flow_of k) (length (kinds_of (form_at k).shape)) ≡ 0
unfolding forms flow_of stops jumps branches kinds_of if_stop
bare =
    at_each
    (λ (w : Form). if_stop (cond (among stops w.name) Stop (cond (among jumps w.name) Jump (cond (among branches w.name) Branch Next)))
    (length (kinds_of w.shape)))
    (λ (w : Form). 0) refl

none : (t : ℕ) (ks : List Kind) (ns f : List ℕ) → length ks ≡ 0 → Among f (shown_all t ks ns) → ⊥
none t [] ns f z i = Memᴰ.not-nil i
none t (k ∷ ks) ns f z i = omega arith

-- no target at all: it stops
stopped : (f : Flow) (t n : ℤ) → by_flow f t n ≡ [] → f ≡ Stop
stopped Stop t n e = refl
stopped Next t n e = let z : ◌≡◌ {A = ℕ} 1 0 = ap length e in absurd (omega arith)
stopped Jump t n e = let z : ◌≡◌ {A = ℕ} 1 0 = ap length e in absurd (omega arith)
stopped Branch t n e = let z : ◌≡◌ {A = ℕ} 2 0 = ap length e in absurd (omega arith)

no_operands : (next : ℕ) (i : Instr) → targets_in Wrapping next i ≡ [] → length (kinds_of (form_in i).shape) ≡ 0
unfolding targets_in if_stop
no_operands next i e =
    subst (λ (g : Flow). if_stop g (length (kinds_of (form_in i).shape)) ≡ 0)
    (stopped (flow_of (parts_of i).form) (address_in Wrapping next i) (in_mode Wrapping (pos next)) e) (bare (parts_of i).form (known i).small)

-- an address is a position that `target` prints
placed : (z : ℤ) → no_address z ≡ false → place_of z ≤ 65535
placed z e = let v = natural 65535 z e in subst (λ (y : ℤ). place_of y ≤ 65535) (sym v.is) v.most

pub no_question : NoQuestion
unfolding operands_by targets_answer
no_question p i ts e field a x = by ts e (subst (λ (r : Answer (List ℤ)). Among field (operands_by (first_of r) i)) e a)
  where
    by : (ts : List ℤ) → targets_answer Wrapping p i ≡ accepted ts → Among field (operands_by (first_of (accepted ts)) i) → ⊥
    by [] e a = none 65536 (kinds_of (form_in i).shape) _ field (no_operands (next_of p i) i (accepts _ _ [] e)) a
    by (t ∷ ts) e a = each (place_of t) (placed t (wrapping_inside p i (t ∷ ts) e).0) (kinds_of (form_in i).shape) _ field a x
