-- One byte more is put at the next place, and past the end nothing is.
use Rattle.std.proofs.Common.{rules, arith, ◌≡◌, ◌≤◌, ℕ, suc, ◌+◌, List, [], ◌∷◌, ◌++◌, length, refl, set, min, sym, ap, ◌∙◌, length-set}
use Rattle.std.specs.Slice.Iter.{chunks_rest, chunks_size}
use lib.Seq.{sets, set_out}
use Rattle.runner.specs.Digits.{byte_of, in_pairs}
use Rattle.runner.proofs.room.put_hex.Goals as goal
use Rattle.runner.proofs.room.put_hex.Goals.{In-Some}

-- the bytes of digits that begin with a pair: that of the pair, and then those of the rest
first_pair : (pair rest : List ℕ) → length pair ≡ min 2 (length (pair ++ rest)) → 1 ≤ length pair → in_pairs (pair ++ rest) ≡ byte_of pair ∷ in_pairs rest
first_pair [] rest e h = absurd (omega arith)
first_pair (b ∷ []) [] e h = refl
first_pair (b ∷ []) (c ∷ rest) e h = absurd (omega arith)
first_pair (high ∷ low ∷ []) rest e h = refl
first_pair (high ∷ low ∷ b ∷ pair) rest e h = absurd (omega arith)

no_pair : (digits : List ℕ) → length digits ≡ 0 → in_pairs digits ≡ []
no_pair [] h = refl
no_pair (b ∷ digits) h = absurd (omega arith)

sets_out : (l : List ℕ) (i : ℕ) (xs : List ℕ) → length l ≤ i → sets l i xs ≡ l
sets_out l i [] h = refl
sets_out l i (x ∷ xs) h = let e = set_out l i x h in rw e (sets_out l (suc i) xs (omega arith))

one_more : (l : List ℕ) (x : ℕ) (xs : List ℕ) (i j : ℕ) → suc i ≡ j → sets (set l i x) j xs ≡ sets l i (x ∷ xs)
one_more l x xs i j e = ap (λ (k : ℕ). sets (set l i x) k xs) (sym e)

-- the byte that is put, and what is left after it
next : (c : In-Some) → in_pairs (chunks_rest c.loop-pair.pair-iterator) ≡ byte_of c.in-Some.pair.now ∷ in_pairs (chunks_rest c.next.new.self)
next c =
    let s = c.in-Some.ensures.steps in
    let rest = chunks_rest c.next.new.self in
    let pair = c.in-Some.pair.now in
    let l : length pair ≡ min 2 (length (pair ++ rest)) =
    s.1.1
    ∙ ap (λ (k : ℕ). min k (length (chunks_rest c.loop-pair.pair-iterator))) c.loop-pair.invariant.0
    ∙ ap (λ (t : List ℕ). min 2 (length t)) s.1.0
    in
    ap in_pairs s.1.0 ∙ first_pair pair rest l (omega (arith, s.1.2, l, ap length s.1.0))

pub loop-pair-init : goal.loop-pair-init
loop-pair-init c =
    let it = c.into_iter-pair-iterator.result in
    let s : chunks_size it ≡ 2 = cc in
    let r : chunks_rest it ≡ c.args.digits.now = cc in
    (s, refl, rw r refl, rw r refl)

pub loop-pair-preserved : goal.loop-pair-preserved
loop-pair-preserved c =
    let l = c.loop-pair in
    let rest = in_pairs (chunks_rest c.next.new.self) in
    let n = next (goal.at.loop-pair-preserved c).In-Some in
    let wide = length-set l.room l.next c.byte.result in (
      c.in-Some.ensures.steps.0 ∙ l.invariant.0,
      wide ∙ l.invariant.1,
      ap (λ (b : ℕ). sets (set l.room l.next b) (l.next + 1) rest) c.byte.ensures
          ∙ one_more l.room (byte_of c.in-Some.pair.now) rest l.next (l.next + 1) (omega arith)
          ∙ sym (ap (λ (xs : List ℕ). sets l.room l.next xs) n) ∙ l.invariant.2,
      omega (arith, wide, ap length n, l.invariant.3, c.if-room-next.false),
    )

pub returns-then-room-next-clause-room_after : goal.returns-then-room-next-clause-room_after
returns-then-room-next-clause-room_after c =
    let l = c.loop-pair in sym (sets_out l.room l.next (in_pairs (chunks_rest l.pair-iterator)) c.if-room-next.true) ∙ l.invariant.2

pub returns-then-room-next-clause-next : goal.returns-then-room-next-clause-next
returns-then-room-next-clause-next c = omega (arith, c.if-room-next.true, c.loop-pair.invariant.3)

pub returns-clause-room_after : goal.returns-clause-room_after
returns-clause-room_after c =
    let l = c.loop-pair in
    sym (ap (λ (xs : List ℕ). sets l.room l.next xs) (no_pair (chunks_rest l.pair-iterator) c.in-None.ensures.steps.1.0)) ∙ l.invariant.2

pub returns-clause-next : goal.returns-clause-next
returns-clause-next c =
    let l = c.loop-pair in omega (arith, ap length (no_pair (chunks_rest l.pair-iterator) c.in-None.ensures.steps.1.0), l.invariant.3)
