-- `laying::agree` meets its contract.
-- Assumes nothing.
use Rattle.std.proofs.Common.{◌≡◌, ◌∙◌, ℕ, ◌+◌, ◌-◌, ◌*◌, ◌/◌, ◌<◌, List, [], ◌∷◌, ◌++◌, length, get_or, take, drop, sym, ap, arith}
use Rattle.std.proofs.lemmas.List.{length-append}
use Rattle.std.proofs.lemmas.Slice.Zip.{zip_turn, zip_end}
use Rattle.text.specs.Bytes.{bytes_of}
use Rattle.read_back.specs.Turn.{agree_to}
use Rattle.read_back.proofs.Chunks.{chunk_in}
use Rattle.read_back.proofs.Notes.{compare_end, compare_off, compare_on}
use Rattle.read_back.proofs.laying.agree.Goals as goal
use Rattle.read_back.proofs.laying.agree.Goals.{In-Some}

-- the pair and the byte of a turn
turn : (c : In-Some)
    → (length c.loop-pair.yielded < length c.as_chunks.result.0.now)
    × (length c.loop-pair.yielded < length (take (c.args.end - c.min.result) (drop c.min.result c.args.image.now)))
    × ((d : List ℕ) → c.in-Some.pair.now ≡ get_or c.as_chunks.result.0.now (length c.loop-pair.yielded) d)
    × ((d : ℕ) → c.in-Some.byte.now ≡ get_or (take (c.args.end - c.min.result) (drop c.min.result c.args.image.now)) (length c.loop-pair.yielded) d)
turn c =
    zip_turn c.as_chunks.result.0.now (take (c.args.end - c.min.result) (drop c.min.result c.args.image.now)) c.loop-pair.yielded
    c.into_iter-pair-iterator.result c.loop-pair.pair-iterator c.next.new.self c.next.result (cc) (cc) c.loop-pair.yielded_by
    (c.in-Some.pair, c.in-Some.byte) c.in-Some.is c.next.ensures.steps

pub returns-then-byte-pair : goal.returns-then-byte-pair
returns-then-byte-pair c =
    let a = c.args in
    let k : ℕ = length c.loop-pair.yielded in
    let t = turn (goal.at.returns-then-byte-pair c).In-Some in
    let n : k < length a.digits.now / 2 = omega (arith, t.0, c.as_chunks.ensures.front_len) in
    compare_off a.digits.now a.image.now a.p a.end c.min.result c.min.ensures c.requires k c.loop-pair.invariant n t.1 c.in-Some.pair.now
    (t.2 [] ∙ chunk_in 2 (length a.digits.now / 2) a.digits.now [] _ k c.as_chunks.ensures.front n)
    c.pair.result c.pair.ensures c.in-Some.byte.now (t.3 0) c.if-byte-pair.true

pub loop-pair-preserved : goal.loop-pair-preserved
loop-pair-preserved c =
    let a = c.args in
    let k : ℕ = length c.loop-pair.yielded in
    let t = turn (goal.at.loop-pair-preserved c).In-Some in
    let n : k < length a.digits.now / 2 = omega (arith, t.0, c.as_chunks.ensures.front_len) in
    let e : k + 1 ≡ length (c.loop-pair.yielded ++ (c.in-Some.pair, c.in-Some.byte) ∷ []) =
    sym (length-append c.loop-pair.yielded ((c.in-Some.pair, c.in-Some.byte) ∷ [])) in
    compare_on a.digits.now a.image.now a.p a.end c.min.result c.min.ensures c.requires k c.loop-pair.invariant n t.1 c.in-Some.pair.now
    (t.2 [] ∙ chunk_in 2 (length a.digits.now / 2) a.digits.now [] _ k c.as_chunks.ensures.front n)
    c.pair.result c.pair.ensures c.in-Some.byte.now (t.3 0) c.if-byte-pair.false
    ∙ ap (λ (j : ℕ). agree_to a.end a.image.now (a.p + j) (bytes_of (drop (j * 2) a.digits.now))) e

pub returns : goal.returns
returns c =
    let a = c.args in
    compare_end a.digits.now a.image.now a.p a.end c.min.result c.min.ensures c.requires (length c.loop-pair.yielded) c.loop-pair.invariant
    (length c.as_chunks.result.0.now) c.as_chunks.ensures.front_len
    (zip_end c.as_chunks.result.0.now (take (a.end - c.min.result) (drop c.min.result a.image.now)) c.loop-pair.yielded
    c.into_iter-pair-iterator.result c.loop-pair.pair-iterator c.next.new.self c.next.result (cc) (cc) c.loop-pair.yielded_by c.in-None.is
    c.next.ensures.steps)
