-- There are none, or the line is put.
-- Assumes nothing.
use Rattle.std.proofs.Common.{◌≡◌, ◌+◌, ◌<◌, List, ℕ, length, sym, ap, ◌∙◌, arith}
use Rattle.instruction.specs.declared.mode.Mode.{Mode}
use Rattle.arrivals.specs.Arrivals.{arrivals_of, next_arrival}
use Rattle.arrivals.specs.ClaimsIndex.{OfBytes}
use Rattle.arrivals.specs.Index.{names_held, next_namer, next_held, index_of, first_in}
use Rattle.arrivals.proofs.Arriving.{left_from, all_left, none_left, next_is}
use Rattle.text.proofs.Putting.{puts_as, puts_none, puts_then}
use Rattle.listing.proofs.Chaining.{chain_first, held_fewer, lower_arrival}
use Rattle.listing.proofs.Lining.{puts_begin, no_arrivals, arrivals}
use Rattle.listing.proofs.lines.put_arrivals.Goals as goal

-- the first of the index, and who arrives by a name from there on
named : (mode : Mode) (image marks index : List ℕ) → OfBytes image → index ≡ index_of mode image marks → (p : ℕ) → p < length image → (q : ℕ) → q ≡ first_in index p
    → (q ≡ next_namer mode image marks p q) × (next_held mode image marks p q ≡ next_held mode image marks p 0)
named mode image marks index b e p i q f =
    chain_first mode image marks b p (names_held mode image marks p) (held_fewer mode image marks b p) i q (f ∙ ap (λ (l : List ℕ). first_in l p) e)

pub held_from-named-requires : goal.held_from-named-requires
held_from-named-requires c =
    let s = c.args.lent.now in
    (named s.mode s.image.now s.marks.now s.index.now s.small s.made c.args.p c.requires.1 c.first-first.result c.first-first.ensures).0

pub returns-then-lent-min-clause-puts : goal.returns-then-lent-min-clause-puts
returns-then-lent-min-clause-puts c =
    let s = c.args.lent.now in
    let p = c.args.p in
    let f = named s.mode s.image.now s.marks.now s.index.now s.small s.made p c.requires.1 c.first-first.result c.first-first.ensures in
    let l = c.min.ensures ∙ lower_arrival s.mode s.image.now s.marks.now s.small p c.requires.1 0 c.held_from-named.result c.next_fall-falls.result
    (c.held_from-named.ensures ∙ f.1) c.next_fall-falls.ensures in
    let n = next_is s.mode s.image.now s.marks.now p s.small.1 0 c.min.result l in
    let all : arrivals_of s.mode s.image.now s.marks.now p ≡ left_from s.mode s.image.now s.marks.now p c.min.result =
    sym (n.same ∙ all_left s.mode s.image.now s.marks.now p) in
    puts_as (no_arrivals p _ (all ∙ none_left s.mode s.image.now s.marks.now p c.min.result c.if-lent-min.true)) (puts_none _ _)

pub put_arrived-requires : goal.put_arrived-requires
put_arrived-requires c =
    let s = c.args.lent.now in
    let f = named s.mode s.image.now s.marks.now s.index.now s.small s.made c.args.p c.requires.1 c.first-first.result c.first-first.ensures in
    let h = puts_begin c.args.p c.put_start-a.ensures in
    (omega arith, c.requires.1, c.held_from-named.ensures ∙ f.1, c.next_fall-falls.ensures)

pub returns-clause-puts : goal.returns-clause-puts
returns-clause-puts c =
    let s = c.args.lent.now in
    let p = c.args.p in
    let f = named s.mode s.image.now s.marks.now s.index.now s.small s.made p c.requires.1 c.first-first.result c.first-first.ensures in
    let l = c.min.ensures ∙ lower_arrival s.mode s.image.now s.marks.now s.small p c.requires.1 0 c.held_from-named.result c.next_fall-falls.result
    (c.held_from-named.ensures ∙ f.1) c.next_fall-falls.ensures in
    let n = next_is s.mode s.image.now s.marks.now p s.small.1 0 c.min.result l in
    let all : arrivals_of s.mode s.image.now s.marks.now p ≡ left_from s.mode s.image.now s.marks.now p c.min.result =
    sym (n.same ∙ all_left s.mode s.image.now s.marks.now p) in
    puts_as (arrivals p _ c.min.result (left_from s.mode s.image.now s.marks.now p (c.min.result + 1)) (all ∙ n.head c.if-lent-min.false))
    (puts_then c.put_start-a.ensures c.put_arrived.ensures.puts)

pub returns-clause-upper_bound : goal.returns-clause-upper_bound
returns-clause-upper_bound c = let h = puts_begin c.args.p c.put_start-a.ensures in omega (arith, c.put_arrived.ensures.upper_bound)
