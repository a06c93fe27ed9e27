-- What there is room for is written at its place; what falls past the end is none of it.
-- Assumes nothing.
use Rattle.std.proofs.Common.{◌≡◌, ℕ, suc, ◌+◌, ◌<◌, ◌≤◌, List, [], ◌∷◌, length, drop, get_or, set, arith, refl, sym, ap, ap₂, ◌∙◌, length-set}
use native.Mathlib.Nat.{add-zero}
use mathlib.Core.Logic.{⊎_elim}
use lib.ListN.{drop_of_length-le}
use lib.Seq.{sets, set_out, drop-cons}
use Rattle.reach.proofs.Cases.{lt_or_le}
use Rattle.report_text.proofs.copy.copy.Goals as goal

-- past the end nothing is written
sets_past : (l vs : List ℕ) (i : ℕ) → length l ≤ i → sets l i vs ≡ l
sets_past l [] i h = refl
sets_past l (x ∷ vs) i h = ap (λ (m : List ℕ). sets m (suc i) vs) (set_out l i x h) ∙ sets_past l vs (suc i) (omega arith)

next : (t room : List ℕ) (at i : ℕ) → i < length t
    → sets room (at + i) (drop i t) ≡ sets (set room (at + i) (get_or t i 0)) (at + (i + 1)) (drop (i + 1) t)
next t room at i h =
    let s : suc i ≡ i + 1 = omega arith in
    let u : suc (at + i) ≡ at + (i + 1) = omega arith in
    ap (sets room (at + i)) (drop-cons t i 0 h) ∙ ap₂ (λ (p q : ℕ). sets (set room (at + i) (get_or t i 0)) p (drop q t)) u s

pub loop-i-init : goal.loop-i-init
loop-i-init c = (refl, ap (λ (k : ℕ). sets c.args.room.now k c.args.text.now) (add-zero c.args.at))

pub loop-i-preserved : goal.loop-i-preserved
loop-i-preserved c =
    let l = c.loop-i in
    let a = c.args in
    let t : List ℕ = a.text.now in (
      length-set l.room (a.at + l.i) (get_or t l.i 0) ∙ l.invariant.0,
      sym (next t l.room a.at l.i (omega (arith, c.loop-i-test.true, c.min-n.ensures))) ∙ l.invariant.1,
    )

pub returns-after-loop-i : goal.returns-after-loop-i
returns-after-loop-i c =
    let l = c.loop-i in
    let a = c.args in
    let t : List ℕ = a.text.now in
    let to : ℕ = a.at + l.i in
    let e : l.room ≡ sets l.room to (drop l.i t) =
    ⊎_elim (λ h. sym (sets_past l.room (drop l.i t) to (omega (arith, h, c.min-n.ensures, l.invariant.0, c.loop-i-test.false))))
    (λ h. sym (ap (sets l.room to) (drop_of_length-le t h))) (lt_or_le l.i (length t)) in
    e ∙ l.invariant.1

pub returns-else-at-room : goal.returns-else-at-room
returns-else-at-room c = sym (sets_past c.args.room.now c.args.text.now c.args.at c.if-at-room.false)
