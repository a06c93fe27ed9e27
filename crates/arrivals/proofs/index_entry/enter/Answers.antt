-- What is not found of `index_entry::enter`: the index with one position more.
-- Assumes nothing.
use mathlib.Core.Path.{ap, sym, subst, ◌∙◌}
use mathlib.Core.List.{List}
use Prim.Native.Nat.{ℕ, ◌+◌}
use lib.ListN.{length}
use Rattle.arrivals.specs.Index.{name_at}
use Rattle.arrivals.specs.Entered.{linked, headed, Entered}
use Rattle.arrivals.proofs.Entering.{entered}
use Rattle.arrivals.proofs.index_entry.enter.Goals as goal

pub returns : goal.returns
returns c =
    let s = c.args in
    let n : ℕ = length s.image.now in
    let a : ℕ = name_at s.mode s.image.now s.marks.now s.q in
    let e = c.link.ensures ∙ ap (λ (x : ℕ). linked n x (n + s.q) s.index.now) c.named_at-t.ensures in
    let f = c.head.ensures ∙ ap (λ (x : ℕ). headed n x s.q c.link.new.index) c.named_at-t.ensures ∙ ap (headed n a s.q) e in
    subst (λ (l : List ℕ). Entered s.mode s.image.now s.marks.now s.q l) (sym f)
    (entered s.mode s.image.now s.marks.now c.requires.1 s.q c.requires.0 s.index.now c.requires.2)
