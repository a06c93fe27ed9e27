-- What `place_at` answers: each test of the first byte tells where the address stands.
-- Assumes nothing.
use Rattle.std.proofs.Common.{◌≡◌, ℕ, ◌+◌, ◌-◌, ◌*◌, ◌/◌, ◌<◌, ◌≤◌, ◌%◌, true, List, length, get_or, ℤ, sym, ap, ◌∙◌, subst, arith}
use Rattle.instruction.specs.Flow.{flow_of}
use Rattle.instruction.specs.declared.mode.Mode.{Mode}
use Rattle.targets.specs.At.{form_here, size_here, fits_here, instr_here, place_of}
use Rattle.targets.specs.Targets.{address_in}
use Rattle.targets.specs.Ways.{is_naming}
use Rattle.targets.proofs.AddressBytes.{told, Says, named, tells_page, tells_far, tells_long, tells_short, tells_high}
use Rattle.targets.proofs.Within.{Small, within}
use Rattle.targets.proofs.operand.place_at.Goals as goal
use Rattle.targets.proofs.operand.place_at.Goals.{then-first-lt64+else-first-ge8+else-first-eq16+else-first-eq8, else-first-lt64}

module _ (image : List ℕ) (p : ℕ) (bytes : Small image) (there : (p < length image) × (length image ≤ 65536)) where
  abbrev first : ℕ
  first = get_or image p 0

  -- the bytes of an instruction lie in the image
  inside : fits_here image p ≡ true → (i : ℕ) → i < size_here image p → p + i < length image
  inside f i h = omega (arith, (within image p bytes there.0 f).most)

  module _ (mode : Mode) (next : ℕ)
      (v : (fits_here image p ≡ true) × (next ≡ p + size_here image p) × (is_naming (flow_of (form_here image p)) ≡ true)) where
    abbrev address : ℤ
    address = address_in mode (p + size_here image p) (instr_here image p)

    -- what a kind's number says of the address
    says : {n : ℕ} → told first ≡ n
        → Says mode next n (size_here image p) first (get_or image (p + 1) 0) (get_or image (p + 2) 0) (get_or image (next - 1) 0) address
    says e =
        subst (λ (n : ℕ). Says mode next n (size_here image p) first (get_or image (p + 1) 0) (get_or image (p + 2) 0) (get_or image (next - 1) 0) address) e
        (rw v.1 (named image p bytes mode (p + size_here image p) v.2))

    next_small : (1 ≤ next) × (next ≤ 65536)
    next_small = let w = within image p bytes there.0 v.0 in (omega (arith, v.1, w.least), omega (arith, v.1, w.most, there.1))

    last_inside : next - 1 < length image
    last_inside = omega (arith, next_small.0, v.1, (within image p bytes there.0 v.0).most)

pub bounds-image-at-then-first-ge8 : goal.bounds-image-at-then-first-ge8
bounds-image-at-then-first-ge8 c =
    let a = c.args in
    let b : Small a.image.now = λ n. (c.type_inv.image n).fits in
    let e = tells_page (get_or a.image.now a.p 0) c.if-first-lt64.true c.if-first-ge8.true in
    let s = says a.image.now a.p b c.requires.p_in_bounds a.mode a.next c.requires.p_value e in
    let k = s.0 in
    inside a.image.now a.p b c.requires.p_in_bounds c.requires.p_value.0 1 (omega arith)

pub returns-then-first-ge8 : goal.returns-then-first-ge8
returns-then-first-ge8 c =
    let a = c.args in
    let b : Small a.image.now = λ n. (c.type_inv.image n).fits in
    let e = tells_page (get_or a.image.now a.p 0) c.if-first-lt64.true c.if-first-ge8.true in
    let s = says a.image.now a.p b c.requires.p_in_bounds a.mode a.next c.requires.p_value e in
    c.on_page.ensures.0 ∙ ap (λ (n : ℕ). a.next / 4096 % 16 * 4096 + n) c.twelve.ensures.0 ∙ ap place_of (sym s.1)

pub bounds-image-at-then-first-eq16 : goal.bounds-image-at-then-first-eq16
bounds-image-at-then-first-eq16 c =
    let a = c.args in
    let b : Small a.image.now = λ n. (c.type_inv.image n).fits in
    let e = tells_far (get_or a.image.now a.p 0) c.if-first-lt64.true c.if-first-ge8.false c.if-first-eq16.true in
    let s = says a.image.now a.p b c.requires.p_in_bounds a.mode a.next c.requires.p_value e in
    let k = s.0 in
    inside a.image.now a.p b c.requires.p_in_bounds c.requires.p_value.0 1 (omega arith)

pub bounds-image-at-then-first-eq16-2 : goal.bounds-image-at-then-first-eq16-2
bounds-image-at-then-first-eq16-2 c =
    let a = c.args in
    let b : Small a.image.now = λ n. (c.type_inv.image n).fits in
    let e = tells_far (get_or a.image.now a.p 0) c.if-first-lt64.true c.if-first-ge8.false c.if-first-eq16.true in
    let s = says a.image.now a.p b c.requires.p_in_bounds a.mode a.next c.requires.p_value e in
    let k = s.0 in
    inside a.image.now a.p b c.requires.p_in_bounds c.requires.p_value.0 2 (omega arith)

pub returns-then-first-eq16 : goal.returns-then-first-eq16
returns-then-first-eq16 c =
    let a = c.args in
    let b : Small a.image.now = λ n. (c.type_inv.image n).fits in
    let e = tells_far (get_or a.image.now a.p 0) c.if-first-lt64.true c.if-first-ge8.false c.if-first-eq16.true in
    let s = says a.image.now a.p b c.requires.p_in_bounds a.mode a.next c.requires.p_value e in
    c.pair.ensures.0 ∙ ap place_of (sym s.1)

pub bounds-image-at-then-first-eq8 : goal.bounds-image-at-then-first-eq8
bounds-image-at-then-first-eq8 c =
    let a = c.args in
    let b : Small a.image.now = λ n. (c.type_inv.image n).fits in
    let e = tells_long (get_or a.image.now a.p 0) c.if-first-lt64.true c.if-first-ge8.false c.if-first-eq16.false c.if-first-eq8.true in
    let s = says a.image.now a.p b c.requires.p_in_bounds a.mode a.next c.requires.p_value e in
    let k = s.0 in
    inside a.image.now a.p b c.requires.p_in_bounds c.requires.p_value.0 2 (omega arith)

pub bounds-image-at-then-first-eq8-2 : goal.bounds-image-at-then-first-eq8-2
bounds-image-at-then-first-eq8-2 c =
    let a = c.args in
    let b : Small a.image.now = λ n. (c.type_inv.image n).fits in
    let e = tells_long (get_or a.image.now a.p 0) c.if-first-lt64.true c.if-first-ge8.false c.if-first-eq16.false c.if-first-eq8.true in
    let s = says a.image.now a.p b c.requires.p_in_bounds a.mode a.next c.requires.p_value e in
    let k = s.0 in
    inside a.image.now a.p b c.requires.p_in_bounds c.requires.p_value.0 1 (omega arith)

pub behind-requires : goal.behind-requires
behind-requires c =
    let a = c.args in
    let b : Small a.image.now = λ n. (c.type_inv.image n).fits in
    let n = next_small a.image.now a.p b c.requires.p_in_bounds a.mode a.next c.requires.p_value in
    (n.0, n.1, c.pair-then-first-eq8.ensures.1)

pub returns-then-first-eq8 : goal.returns-then-first-eq8
returns-then-first-eq8 c =
    let a = c.args in
    let b : Small a.image.now = λ n. (c.type_inv.image n).fits in
    let e = tells_long (get_or a.image.now a.p 0) c.if-first-lt64.true c.if-first-ge8.false c.if-first-eq16.false c.if-first-eq8.true in
    let s = says a.image.now a.p b c.requires.p_in_bounds a.mode a.next c.requires.p_value e in
    c.behind.ensures.0 ∙ ap (λ (n : ℕ). (a.next - 1 + n) % 65536) c.pair-then-first-eq8.ensures.0 ∙ ap place_of (sym s.1)

pub overflow_sub-next : goal.overflow_sub-next
overflow_sub-next c =
    let a = c.args in
    let b : Small a.image.now = λ n. (c.type_inv.image n).fits in
    (next_small a.image.now a.p b c.requires.p_in_bounds a.mode a.next c.requires.p_value).0

pub bounds-image-next : goal.bounds-image-next
bounds-image-next c =
    let a = c.args in
    let b : Small a.image.now = λ n. (c.type_inv.image n).fits in
    last_inside a.image.now a.p b c.requires.p_in_bounds a.mode a.next c.requires.p_value

pub short-requires : goal.short-requires
short-requires c =
    let a = c.args in
    let b : Small a.image.now = λ n. (c.type_inv.image n).fits in
    (next_small a.image.now a.p b c.requires.p_in_bounds a.mode a.next c.requires.p_value).1

pub returns : goal.returns
returns c =
    let a = c.args in
    let b : Small a.image.now = λ n. (c.type_inv.image n).fits in
    let x : ℕ = get_or a.image.now a.p 0 in
    let e : told x ≡ 4 = elim c.if-first-lt64.branch [
      | then-first-lt64+else-first-ge8+else-first-eq16+else-first-eq8 w ↦
          tells_short x w.if-first-lt64.true w.if-first-ge8.false w.if-first-eq16.false w.if-first-eq8.false
      | else-first-lt64 w ↦ tells_high x w.if-first-lt64.false
    ] in
    let s = says a.image.now a.p b c.requires.p_in_bounds a.mode a.next c.requires.p_value e in
    c.short.ensures ∙ ap place_of (sym s)
