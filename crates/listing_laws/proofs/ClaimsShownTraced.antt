-- At a traced position of undamaged marks the instruction is not cut off, so decode and targets answer there.
-- Assumes nothing.
use mathlib.Core.Path.{◌≡◌, refl, sym, ap, ◌∙◌}
use mathlib.Core.Bool.{Bool, true, false, not, ◌&&◌, ◌||◌}
use mathlib.Core.List.{List, ◌∷◌}
use Prim.Native.Char.{code}
use Prim.Native.Nat.{ℕ, ◌<◌}
use native.Mathlib.Omega.{arith}
use lib.Dec.{ltb}
use lib.IntN.{ℤ}
use lib.ListN.{length, get_or, take, drop}
use borrow.Author.Tests.{lt-ltb}
use Rattle.instruction.specs.Answer.{Answer, accepted}
use Rattle.instruction.proofs.Sign.{never}
use Rattle.instruction.specs.Decode.{decode_answer}
use Rattle.instruction.specs.Encode.{form_in}
use Rattle.instruction.specs.Forms.{size_of}
use Rattle.instruction.specs.Mnemonic.{mnemonic_of}
use Rattle.instruction.specs.Parts.{parts_of}
use Rattle.instruction.specs.declared.instr.Instr.{Instr}
use Rattle.targets.specs.At.{fits_here, instr_here}
use Rattle.targets.specs.Targets.{next_of, targets_in, targets_answer}
use Rattle.instruction.proofs.Ands.{both, second_part}
use Rattle.targets.proofs.AskedAlone.{found}
use Rattle.targets.proofs.HereIs.{answer, whole_here}
use Rattle.targets.proofs.Within.{within}
use Rattle.reach.specs.Mark.{traced_mark}
use Rattle.reach.proofs.Arrived.{arrived}
use Rattle.reach.proofs.Mark.{traced_test}
use Rattle.marks.specs.Refusals.{damaged}
use Rattle.trace.specs.Run.{run_marks}
use Rattle.trace_laws.specs.ClaimsJoin.{by_run}
use Rattle.trace_laws.proofs.ClaimsBetweenImages.{clean_agree}
use Rattle.trace_laws.proofs.Ends.{between}
use Rattle.views.specs.View.{off_jmpf, misplaced, damaged_here}
use Rattle.views.proofs.TracedAt.{traced_inside}
use Rattle.listing.specs.Hex.{hex4, hexes}
use Rattle.listing.specs.Line.{line}
use Rattle.listing.specs.Lines.{here_line, instr_text}
use Rattle.listing.specs.Operand.{first_of, operands_by}
use Rattle.listing_laws.specs.ClaimsShown.{TracedShown, TracedReachable}

-- a traced instruction that is cut off would be damage
uncut : (image m : List ℕ) (p : ℕ) → traced_mark (get_or m p 0) ≡ true → damaged_here image m p ≡ false → fits_here image p ≡ true
unfolding damaged_here misplaced
uncut image m p t d = by (damaged (get_or m p 0)) (traced_mark (get_or m p 0)) (fits_here image p) (off_jmpf image (get_or m p 0) p) t d
  where
    by : (a t b c : Bool) → t ≡ true → (a || ((t && not b) || c)) ≡ false → b ≡ true
    by a t true c f e = refl
    by a false false c f e = absurd (never (sym f))
    by true true false c f e = absurd (never e)
    by false true false c f e = absurd (never e)

-- the line of an instruction, by what its targets are
abbrev line_by : List ℕ → ℕ → Instr → Answer (List ℤ) → List ℕ
line_by image p i ts =
    line (code "I") (hex4 p ∷ hexes (take (size_of (form_in i)) (drop p image)) ∷ mnemonic_of (parts_of i).form ∷ operands_by (first_of ts) i)

pub traced_shown : TracedShown
unfolding instr_text
traced_shown mode image m B l U p t =
    let h : p < length image = traced_inside image m p t in
    let f : fits_here image p ≡ true = uncut image m p (second_part (ltb p (length image)) _ t) (U p h) in
    let i : Instr = instr_here image p in
    let w = within image p B h f in
    let a : decode_answer (drop p image) ≡ accepted i = answer image p h true f in
    let g : targets_answer mode p i ≡ accepted (targets_in mode (next_of p i) i) = sym (found mode p i (omega (arith, w.size, w.most)) (sym w.fit)) in
    record {
      instr = i;
      decoded = a;
      targets = targets_in mode (next_of p i) i;
      going = g;
      shown = ap (here_line mode image p) (sym (whole_here image p h i (sym a))) ∙ ap (line_by image p i) g;
    }

pub traced_reachable : TracedReachable
traced_reachable mode image marks order entries pins limit s B C a f p =
    let m = run_marks mode image marks order entries pins limit in
    let b = between mode image entries pins m (by_run marks order limit s a f refl) in (
      λ t. b.traced_only p (traced_inside image m p t) ((traced_test (get_or m p 0)).0 (second_part (ltb p (length image)) _ t)),
      λ r g. both (ltb p (length image)) (traced_mark (get_or m p 0)) (lt-ltb p (length image) (arrived r).inside)
          ((traced_test (get_or m p 0)).1 (b.traced_all p (clean_agree mode image entries pins true B C p g r) g)),
    )
