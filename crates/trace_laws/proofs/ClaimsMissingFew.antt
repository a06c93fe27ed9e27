-- Where step or run answers 5, the position is inside and its instruction does not fit: one or two bytes are missing.
-- Assumes nothing.
use Prim.Native.Nat.{ℕ, ◌<◌, ◌≤◌}
use native.Mathlib.Omega.{arith}
use mathlib.Core.Path.{◌≡◌, refl, sym, ap, subst, ◌∙◌}
use mathlib.Core.Bool.{Bool, true, false, not}
use mathlib.Core.List.{List, [], ◌∷◌}
use lib.IntN.{ℤ}
use lib.ListN.{length}
use borrow.Author.Tests.{leb-false, ltb-false}
use Rattle.instruction.specs.Bytes.{Bytes}
use Rattle.instruction.specs.Answer.{Answer, accepted, refused, judge}
use Rattle.instruction.specs.CutOff.{cut_values}
use Rattle.instruction.proofs.Judging.{other_passed, this_spoke, done}
use Rattle.instruction.proofs.Sign.{never}
use Rattle.instruction.specs.Decode.{cut_at}
use Rattle.instruction_laws.specs.Missing.{OneOrTwo}
use Rattle.instruction.proofs.Accepting.{passed}
use Rattle.instruction_laws.proofs.Missing.{cut_missing}
use Rattle.reach.specs.Run.{End, finished, stopped, cut_off, steps, noted}
use Rattle.reach.specs.Tracer.{targets}
use Rattle.reach.proofs.Run.{run_ending}
use Rattle.reach.specs.Pins.{table}
use Rattle.reach.proofs.Table.{table_base}
use Rattle.trace.specs.Run.{run_judged, ran_answer, end_of, outcome_of, and_then, run_answer}
use Rattle.trace.specs.Step.{damages, damage_refusals, step_refusals, step_answer}
use Rattle.marks.specs.Tracer.{tracer_of}
use Rattle.targets.specs.At.{fits_here}
use Rattle.trace_laws.specs.ClaimsMissing.{StepMissing, RunMissing}

-- a position inside whose instruction does not fit
few : (image : List ℕ) (p : ℕ) → Bytes image → p < length image → fits_here image p ≡ false → OneOrTwo (cut_values (cut_at image p))
unfolding fits_here
few image p bytes inside f = cut_missing image p (bytes p) inside (leb-false _ _ f)

-- damage of a target is 6
only_six : {A : Type 0} (n : ℕ) (m ts : List ℕ) (a : A) (vs : List ℤ) → judge (damages n m ts) a ≡ refused 5 vs → ⊥
unfolding damages
only_six n m [] a vs e = let g = sym (done a) ∙ e in let z : ◌≡◌ {A = ℕ} 0 1 = cc in omega arith
only_six n m (t ∷ ts) a vs e = only_six n m ts a vs (other_passed _ _ a 5 vs e (λ f. let g : ◌≡◌ {A = ℕ} 6 5 = f in omega arith)).1

cut_short : (b : Bool) → not b ≡ true → b ≡ false
cut_short true e = absurd (never (sym e))
cut_short false e = refl

pub step_missing : StepMissing
unfolding step_answer step_refusals damage_refusals
step_missing mode image m p vs bytes e =
    let a = other_passed _ _ _ 5 vs e (λ f. let g : ◌≡◌ {A = ℕ} 1 5 = f in omega arith) in
    let b = other_passed _ _ _ 5 vs a.1 (λ f. let g : ◌≡◌ {A = ℕ} 2 5 = f in omega arith) in
    let c = other_passed _ _ _ 5 vs b.1 (λ f. let g : ◌≡◌ {A = ℕ} 4 5 = f in omega arith) in
    let d = other_passed _ _ _ 5 vs c.1 (λ f. let g : ◌≡◌ {A = ℕ} 4 5 = f in omega arith) in
    let h = other_passed _ _ _ 5 vs d.1 (λ f. let g : ◌≡◌ {A = ℕ} 6 5 = f in omega arith) in
    let k = this_spoke _ _ _ 5 vs h.1
    (λ f. only_six (length image) m (targets (tracer_of mode image) m p) _ vs
    (other_passed _ _ _ 5 vs f (λ l. let g : ◌≡◌ {A = ℕ} 6 5 = l in omega arith)).1) in
    subst OneOrTwo k.1 (few image p bytes (leb-false (length image) p c.0) (cut_short (fits_here image p) k.0))

-- sizes that are right are not refused
judged : (image marks order : List ℕ) (vs : List ℤ) → run_judged image marks order ≡ refused 5 vs → ⊥
judged image marks order vs e =
    let a = other_passed _ _ _ 5 vs e (λ f. let g : ◌≡◌ {A = ℕ} 1 5 = f in omega arith) in
    let b = other_passed _ _ _ 5 vs a.1 (λ f. let g : ◌≡◌ {A = ℕ} 2 5 = f in omega arith) in
    let c = other_passed _ _ _ 5 vs b.1 (λ f. let g : ◌≡◌ {A = ℕ} 3 5 = f in omega arith) in
    let z : ◌≡◌ {A = ℕ} 0 1 = (let g = sym (done tt) ∙ c.1 in cc) in omega arith

pub run_missing : RunMissing
unfolding run_answer outcome_of
run_missing mode image marks order entries pins limit vs bytes e = by (run_judged image marks order) refl
  where
    ends : length image ≤ length marks → (d : End) → (outcome_of mode image marks entries pins limit).end ≡ d → (s n : ℕ) → end_of image d s n ≡ refused 5 vs
        → OneOrTwo vs
    ends room finished f s n g = absurd (let z : ◌≡◌ {A = ℕ} 0 1 = cc in omega arith)
    ends room stopped f s n g = absurd (let z : ◌≡◌ {A = ℕ} 0 1 = cc in omega arith)
    ends room (cut_off p) f s n g =
        let c = (run_ending limit (tracer_of mode image) entries (table (length image) pins marks)
        (table_base (tracer_of mode image) pins marks room)).when_cut p f in
        let h : cut_values (cut_at image p) ≡ vs = cc in subst OneOrTwo h (few image p bytes c.inside c.cut)

    by : (j : Answer (Unit {0})) → run_judged image marks order ≡ j → OneOrTwo vs
    by (accepted u) f =
        let a = passed _ _ _ f in
        let b = passed _ _ _ a.1 in
        let out = outcome_of mode image marks entries pins limit in
        let g : ran_answer image out ≡ refused 5 vs = ap (λ (j : Answer (Unit {0})). and_then j (ran_answer image out)) (sym f) ∙ e in
        ends (ltb-false (length marks) (length image) b.0) out.end refl (steps out) (length (noted out)) g
    by (refused n ws) f =
        let g : refused n ws ≡ refused 5 vs =
        ap (λ (j : Answer (Unit {0})). and_then j (ran_answer image (outcome_of mode image marks entries pins limit))) (sym f) ∙ e in
        let h : n ≡ 5 = cc in let k : ws ≡ vs = cc in
        absurd (judged image marks order vs (f ∙ (let l : ◌≡◌ {A = Answer (Unit {0})} (refused n ws) (refused 5 vs) = cc in l)))
