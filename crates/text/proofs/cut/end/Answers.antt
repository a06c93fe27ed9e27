-- What `end` answers: the first byte s of the rest is where its first piece ends.
-- Assumes nothing.
use Rattle.std.proofs.Common.{◌≡◌, ℕ, ◌+◌, ◌-◌, List, length, drop, ap, ◌∙◌, arith, rules}
use Rattle.std.proofs.Common.{eqb, take, take_all, length-drop, tests}
use Rattle.std.proofs.lemmas.Iterator.{YieldsList-from_slice}
use Rattle.std.proofs.lemmas.Iterator.Search.{position_from_yields_List}
use Rattle.text.proofs.Cuts.{first_end, found_at}
use Rattle.text.proofs.cut.end.Goals as goal

pub returns-then-text-at : goal.returns-then-text-at
returns-then-text-at c = omega (arith, ap length (first_end c.args.s c.args.text.now c.args.at c.if-text-at.true))

pub returns : goal.returns
returns c =
    let t : List ℕ = drop c.args.at c.args.text.now in
    let n : ℕ = length c.args.text.now - c.args.at in
    let all : take n t ≡ t = take_all n t (omega (arith, length-drop c.args.at c.args.text.now)) in
    let given = YieldsList-from_slice (take n t) cc in
    let r =
    position_from_yields_List (λ b. eqb b c.args.s) _ _ c.position.result c.position.ensures.ran given (λ x b q k. search (rules, tests)) in
    ap (λ (n : ℕ). c.args.at + n) ((rw all at c.unwrap_or.ensures) ∙ found_at c.args.s t c.position.result (rw all at r))
