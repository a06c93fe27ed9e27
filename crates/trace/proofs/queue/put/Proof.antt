-- `queue::put` meets its contract.
-- Assumes nothing.
use mathlib.Core.Path.{◌≡◌, refl, sym, ap}
use mathlib.Core.List.{List, [], ◌∷◌}
use Prim.Native.Nat.{ℕ, suc, ◌+◌, ◌≤◌}
use native.Mathlib.Nat.{add-zero}
use native.Mathlib.Omega.{arith}
use borrow.Author.Rules.{rules}
use lib.ListN.{length, length-set, set}
use lib.Seq.{sets}
use Rattle.targets.specs.Ways.{places_in}
use Rattle.targets.specs.declared.place.Places.{Places}
use Rattle.trace.proofs.Queueing.{Put, room_for}
use Rattle.trace.proofs.queue.put.Statement.{statement}
use Rattle.trace.proofs.queue.put.Tie as tie

-- what holds of an arm's positions holds of all
said : (o : List ℕ) (t : ℕ) {w w' : Places} (r : ℕ) (o' : List ℕ) → w ≡ w' → Put o t (places_in w') o' r → Put o t (places_in w) o' r
said o t r o' e p = rw e p

-- two written one after the other
both : (o : List ℕ) (t a b : ℕ) → set (set o t a) (t + 1) b ≡ sets o t (a ∷ b ∷ [])
both o t a b = let e : t + 1 ≡ suc t = omega arith in ap (λ (k : ℕ). set (set o t a) k b) e

one : (c : tie.In-First) → c.args.tail + 1 ≤ length c.args.order.now
one c =
    let s = c.before in
    room_for s.args.tail (length s.args.order.now) _ _ (sym (ap places_in c.in-First.is)) s.requires

two : (c : tie.In-Both) → c.args.tail + 2 ≤ length c.args.order.now
two c =
    let s = c.before in
    room_for s.args.tail (length s.args.order.now) _ _ (sym (ap places_in c.in-Both.is)) s.requires

pub put_spec : {M : Type 1} → statement M
put_spec =
    tie.close
    (tie.spec
    (λ c. search rules)
    (λ c. search rules)
    (λ c. let h = one c in omega arith)
    (λ c. let h = one c in omega arith)
    (λ c. let h = one c in omega arith)
    (λ c. search rules)
    (λ c. let h = two c in omega arith)
    (λ c. let h = two c in omega arith)
    (λ c. let h = two c in omega arith)
    (λ c. let h = two c in omega arith)
    (λ c. let h = two c in simp length-set (omega arith))
    (λ c. let h = two c in omega arith)
    (λ c. let s = c.before in said s.args.order.now s.args.tail _ _ c.in-Nothing.is (sym (add-zero s.args.tail), refl))
    (λ c. search rules)
    (λ c. let w = c in let s = w.before in said s.args.order.now s.args.tail _ _ w.in-First.is (refl, refl))
    (λ c. search rules)
    (λ c. let w = c in let s = w.before in
    said s.args.order.now s.args.tail _ _ w.in-Both.is (refl, both s.args.order.now s.args.tail _ _)))
