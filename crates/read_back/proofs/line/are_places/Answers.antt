-- `line::are_places` meets its contract.
-- Assumes nothing.
use Rattle.std.proofs.Common.{◌≡◌, ◌∙◌, ℕ, ◌+◌, ◌*◌, ◌/◌, ◌<◌, List, length, drop, refl, sym, ap, arith}
use Rattle.read_back.specs.Offsets.{are_places}
use Rattle.read_back.proofs.Chunks.{chunk_in}
use Rattle.read_back.proofs.Lines.{places_bad, places_off, places_on, places_left}
use Rattle.read_back.proofs.line.are_places.Goals as goal

pub loop-place-init : goal.loop-place-init
loop-place-init c = refl

pub returns-then-place-ne-TAB : goal.returns-then-place-ne-TAB
returns-then-place-ne-TAB c =
    let s : List ℕ = c.args.s.now in
    let i : ℕ = c.loop-place.place-index in
    let n : i < length s / 5 = omega (arith, c.as_chunks.ensures.front_len, c.loop-place-test.true) in
    sym (c.loop-place.invariant
    ∙ places_bad s _ (i * 5) (omega arith) (chunk_in 5 (length s / 5) s _ _ i c.as_chunks.ensures.front n) c.if-place-ne-TAB.true)

pub returns-then-not-is_hex : goal.returns-then-not-is_hex
returns-then-not-is_hex c =
    let s : List ℕ = c.args.s.now in
    let i : ℕ = c.loop-place.place-index in
    let n : i < length s / 5 = omega (arith, c.as_chunks.ensures.front_len, c.loop-place-test.true) in
    sym (c.loop-place.invariant
    ∙ places_off s _ (i * 5) (omega arith) (chunk_in 5 (length s / 5) s _ _ i c.as_chunks.ensures.front n) c.if-place-ne-TAB.false _ c.is_hex.ensures
    c.if-not-is_hex.true)

pub loop-place-preserved : goal.loop-place-preserved
loop-place-preserved c =
    let s : List ℕ = c.args.s.now in
    let i : ℕ = c.loop-place.place-index in
    let n : i < length s / 5 = omega (arith, c.as_chunks.ensures.front_len, c.loop-place-test.true) in
    c.loop-place.invariant
    ∙ places_on s _ (i * 5) (omega arith) (chunk_in 5 (length s / 5) s _ _ i c.as_chunks.ensures.front n) c.if-place-ne-TAB.false _ c.is_hex.ensures
    c.if-not-is_hex.false
    ∙ ap (λ (j : ℕ). are_places (drop j s)) (let e : i * 5 + 5 ≡ (i + 1) * 5 = omega arith in e)

pub returns : goal.returns
returns c =
    let s : List ℕ = c.args.s.now in
    let i : ℕ = c.loop-place.place-index in
    let e : length s / 5 ≡ i = omega (arith, c.as_chunks.ensures.front_len, c.loop-place-test.false, c.loop-place.auto.place-index-end) in
    places_left _ (omega (arith, c.as_chunks.ensures.back_len))
    ∙ ap are_places (c.as_chunks.ensures.back ∙ ap (λ (j : ℕ). drop (j * 5) s) e)
    ∙ sym c.loop-place.invariant
