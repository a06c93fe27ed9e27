-- `flow::flow_of` meets its contract: antt computes the flow of each form, and a test holds each stretch of forms against it.
-- Assumes nothing.
use Rattle.std.proofs.Common.{◌≡◌, ℕ, ◌+◌, ◌<◌, ◌≤◌, Bool, T, eqb, [], ◌∷◌, get_or, sym, refl, ap, ◌∙◌, arith, eqb→eq}
use Rattle.instruction.specs.Flow.{flow_of, stops, jumps, branches}
use Rattle.instruction.specs.Forms.{forms, form_at}
use Rattle.instruction.specs.declared.flow.Flow.{Flow}
use Rattle.instruction.specs.declared.flow.Flow.TheVariants.{Stop, Next, Jump, Branch}
use Rattle.instruction.proofs.Every.{up_to, holds_from}
use Rattle.instruction.proofs.flow.flow_of.Statement.{statement}
use Rattle.instruction.proofs.flow.flow_of.Tie as tie

place : Flow → ℕ
place Stop = 0
place Next = 1
place Jump = 2
place Branch = 3

back : ℕ → Flow
back n = get_or (Stop ∷ Next ∷ Jump ∷ Branch ∷ []) n Stop

back_place : (f : Flow) → back (place f) ≡ f
unfolding back place
back_place Stop = refl
back_place Next = refl
back_place Jump = refl
back_place Branch = refl

is : Flow → ℕ → Bool
is f k = eqb (place f) (place (flow_of k))

-- all forms from low on, n of them, flow so
from : (f : Flow) (low n : ℕ) → T (up_to (λ j. is f (low + j)) n) → (k : ℕ) → low ≤ k → k < low + n → f ≡ flow_of k
unfolding is
from f low n t k h l =
    sym (back_place f) ∙ ap back (eqb→eq (place f) (place (flow_of k)) (holds_from (λ j. is f j) low n t k h l)) ∙ back_place (flow_of k)

pub flow_of_spec : {M : Type 1} → statement M
unfolding is place flow_of stops jumps branches form_at forms
flow_of_spec =
    tie.close
    (tie.spec
    (λ c. from Next 0 42 tt c.args.form (omega arith) (omega arith))
    (λ c. from Jump 42 4 tt c.args.form (omega arith) (omega arith))
    (λ c. from Branch 46 16 tt c.args.form (omega arith) (omega arith))
    (λ c. from Stop 62 2 tt c.args.form (omega arith) (omega arith))
    (λ c. from Next 64 6 tt c.args.form (omega arith) (omega arith)))
