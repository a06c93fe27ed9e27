-- The address that a jump, branch or call names, from its bytes: the first byte tells of what kind it is, and the kind where it stands.
-- Assumes nothing.
use Rattle.std.proofs.Common.{◌≡◌, ℕ, zero, suc, ◌+◌, ◌-◌, ◌*◌, ◌/◌, ◌%◌, ◌<◌, ◌≤◌, true, cond, T, eqb, ltb, leb, List, length, get_or, drop, ℤ, pos, ◌+ℤ◌, sym, refl, ap, ◌∙◌, add-zero, arith, eqb→eq, get_or-drop, le-ltb, lt-ltb, ne_eqb, le-leb}
use borrow.Author.Tests.{lt-leb}
use Rattle.instruction.specs.Code.{short_of}
use Rattle.instruction.specs.Decode.{fields_in}
use Rattle.instruction.specs.Flow.{flow_of, stops, jumps, branches}
use Rattle.instruction.specs.Forms.{forms, form_at, form_of}
use Rattle.instruction.specs.Kinds.{kinds_of, kind_at}
use Rattle.instruction.specs.Layout.{blank}
use Rattle.instruction.specs.Pattern.{pattern, pattern_bytes, onto, bits_given, next_bracket}
use Rattle.instruction.specs.declared.instr.Parts.{Parts}
use Rattle.instruction.specs.declared.kind.Kind.{Kind}
use Rattle.instruction.specs.declared.kind.Kind.TheVariants.{Absent, Immediate, Direct, Register, BitNumber, Page, Far, Short, Long}
use Rattle.instruction.specs.declared.kind.Shape.{Shape}
use Rattle.instruction.specs.declared.kind.Shape.TheVariants.{Bare, Imm, D9, Ri, ImmD9, ImmRi, D9B3, A12, A16, R16, R8, D9B3R8, D9R8, RiR8, ImmR8, RiImmR8}
use Rattle.instruction.specs.declared.mode.Mode.{Mode}
use Rattle.instruction.proofs.Every.{holds}
use Rattle.instruction.proofs.FieldReading.{closed}
use Rattle.instruction.proofs.Reading.{formed, read}
use Rattle.instruction.proofs.Shapes.{sized}
use Rattle.instruction_laws.specs.PartsMade.{used_in}
use Rattle.instruction_laws.proofs.PartsMade.{parted}
use Rattle.targets.specs.At.{form_here, size_here, instr_here}
use Rattle.targets.specs.Ways.{is_naming}
use Rattle.targets.specs.Targets.{in_mode, address_of, address_in, last_of}
use Rattle.targets.proofs.Within.{Small, form_here_lem, size_short}

-- the kinds that name an address, by number
abbrev number : Kind → ℕ
number Absent = 0
number Immediate = 0
number Direct = 0
number Register = 0
number BitNumber = 0
number Page = 1
number Far = 2
number Long = 3
number Short = 4

-- that of a shape's last operand
abbrev last_number : Shape → ℕ
last_number t = number (last_of t (kind_at t 0) (kind_at t 1) (kind_at t 2))

-- what the first byte of a jump, branch or call tells
abbrev pub told : ℕ → ℕ
told x = cond (ltb x 64) (cond (leb 8 (x % 16)) 1 (cond (eqb (x / 2) 16) 2 (cond (eqb (x / 2) 8) 3 4))) 4

tells : (x : ℕ) → x < 256 → is_naming (flow_of (form_of x)) ≡ true → last_number (form_at (form_of x)).shape ≡ told x
unfolding kinds_of flow_of stops jumps branches form_of form_at forms pattern pattern_bytes onto bits_given next_bracket
tells x h e =
    let t : T (cond (is_naming (flow_of (form_of x))) (eqb (last_number (form_at (form_of x)).shape) (told x)) true)
    = holds (λ k. cond (is_naming (flow_of (form_of k))) (eqb (last_number (form_at (form_of k)).shape) (told k)) true) 256 tt x h in
    eqb→eq (last_number (form_at (form_of x)).shape) (told x) (rw e at t)

module _ (mode : Mode) (next : ℕ) where
  -- the address of the last operand of a shape
  abbrev address : Shape → Parts → ℤ
  address t v =
      last_of t (address_of mode next (kind_at t 0) v.a) (address_of mode next (kind_at t 1) v.b) (address_of mode next (kind_at t 2) v.c)

  -- what a kind's number says of the size and of the address: x, b and q are the first bytes, and l is the last
  abbrev pub Says : ℕ → ℕ → ℕ → ℕ → ℕ → ℕ → ℤ → Type 0
  Says zero size x b q l z = Unit {0}
  Says (suc zero) size x b q l z = (size ≡ 2) × (z ≡ pos (next / 4096 % 16 * 4096 + ((x / 16 % 2 * 8 + x % 8) * 256 + b)))
  Says (suc (suc zero)) size x b q l z = (size ≡ 3) × (z ≡ pos (b * 256 + q))
  Says (suc (suc (suc zero))) size x b q l z = (size ≡ 3) × (z ≡ pos ((next - 1 + (q * 256 + b)) % 65536))
  Says (suc (suc (suc (suc n)))) size x b q l z = z ≡ in_mode mode (pos next +ℤ short_of l)

  by_shape : (t : Shape) (k x b q : ℕ) (s : List ℕ) → x ≡ get_or s 0 0 → b ≡ get_or s 1 0 → q ≡ get_or s 2 0
      → Says (last_number t) (length (blank t)) x b q (get_or s (length (blank t) - 1) 0) (address t (used_in t (formed k (closed t x b q))))
  unfolding kinds_of address_of closed blank
  by_shape Bare k x b q s d e f = tt
  by_shape Imm k x b q s d e f = tt
  by_shape D9 k x b q s d e f = tt
  by_shape Ri k x b q s d e f = tt
  by_shape ImmD9 k x b q s d e f = tt
  by_shape ImmRi k x b q s d e f = tt
  by_shape D9B3 k x b q s d e f = tt
  by_shape A12 k x b q s d e f = (refl, refl)
  by_shape A16 k x b q s d e f = (refl, refl)
  by_shape R16 k x b q s d e f = (refl, refl)
  by_shape R8 k x b q s d e f = rw e
  by_shape D9B3R8 k x b q s d e f = rw f
  by_shape D9R8 k x b q s d e f = rw f
  by_shape RiR8 k x b q s d e f = rw e
  by_shape ImmR8 k x b q s d e f = rw f
  by_shape RiImmR8 k x b q s d e f = rw f

  moved : (x b q : ℕ) {n n' size size' l l' : ℕ} {z z' : ℤ} → n ≡ n' → size ≡ size' → l ≡ l' → z ≡ z'
      → Says n size x b q l z → Says n' size' x b q l' z'
  moved x b q e f g h w = rw (← e, ← f, ← g, ← h) w

same : (k : ℕ) (t : Shape) {x x' b b' q q' : ℕ} → x ≡ x' → b ≡ b' → q ≡ q' → formed k (closed t x b q) ≡ formed k (closed t x' b' q')
same k t d e f = rw (d, e, f)

module _ (image : List ℕ) (p : ℕ) (bytes : Small image) where
  abbrev s : List ℕ
  s = drop p image

  abbrev k : ℕ
  k = form_here image p

  abbrev t : Shape
  t = (form_at k).shape

  -- byte i of the instruction
  byte : (i : ℕ) → get_or s i 0 ≡ get_or image (p + i) 0
  byte i = get_or-drop p image i 0

  first : get_or image p 0 ≡ get_or s 0 0
  first = sym (byte 0 ∙ ap (λ (n : ℕ). get_or image n 0) (add-zero p))

  fields : formed k (closed t (get_or image p 0) (get_or image (p + 1) 0) (get_or image (p + 2) 0)) ≡ fields_in k s
  fields =
      same k t first (sym (byte 1)) (sym (byte 2)) ∙ read k t s (form_here_lem image p bytes) refl (λ i. rw (byte i) (bytes (p + i)))

  -- it ends with its last byte
  last : get_or s (length (blank t) - 1) 0 ≡ get_or image (p + size_here image p - 1) 0
  last =
      let e : length (blank t) ≡ size_here image p = sized k t (form_here_lem image p bytes) refl in
      let h : 0 < size_here image p = (size_short image p bytes).0 in
      let g : p + (length (blank t) - 1) ≡ p + size_here image p - 1 = omega arith in
      byte (length (blank t) - 1) ∙ ap (λ (n : ℕ). get_or image n 0) g

  module _ (mode : Mode) (next : ℕ) where
    address_is : address mode next t (used_in t (formed k (closed t (get_or image p 0) (get_or image (p + 1) 0) (get_or image (p + 2) 0))))
        ≡ address_in mode next (instr_here image p)
    unfolding address_in instr_here fields_in
    address_is =
        ap (λ (v : Parts). address mode next t (used_in t v)) fields
        ∙ sym (ap (λ (v : Parts). address mode next (form_at v.form).shape v) (parted (fields_in k s) (form_here_lem image p bytes)))

    -- the address by what the first byte tells
    pub named : is_naming (flow_of k) ≡ true
        → Says mode next (told (get_or image p 0)) (size_here image p) (get_or image p 0) (get_or image (p + 1) 0) (get_or image (p + 2) 0)
        (get_or image (p + size_here image p - 1) 0) (address_in mode next (instr_here image p))
    named e =
        moved mode next (get_or image p 0) (get_or image (p + 1) 0) (get_or image (p + 2) 0) (tells (get_or image p 0) (bytes p) e)
        (sized k t (form_here_lem image p bytes) refl) last address_is
        (by_shape mode next t k (get_or image p 0) (get_or image (p + 1) 0) (get_or image (p + 2) 0) s first (sym (byte 1)) (sym (byte 2)))

-- ---- what the tests of the code tell

module _ (x : ℕ) where
  module _ (low : x < 64) where
    pub tells_page : 8 ≤ x % 16 → told x ≡ 1
    tells_page h = rw (lt-ltb x 64 low, le-leb 8 (x % 16) h)

    module _ (left : x % 16 < 8) where
      pub tells_far : x / 2 ≡ 16 → told x ≡ 2
      tells_far e = rw (lt-ltb x 64 low, lt-leb 8 (x % 16) left, e)

      module _ (far : x / 2 ≡ 16 → ⊥) where
        pub tells_long : x / 2 ≡ 8 → told x ≡ 3
        tells_long e = rw (lt-ltb x 64 low, lt-leb 8 (x % 16) left, e)

        pub tells_short : (x / 2 ≡ 8 → ⊥) → told x ≡ 4
        tells_short long = rw (lt-ltb x 64 low, lt-leb 8 (x % 16) left, ne_eqb (x / 2) 16 far, ne_eqb (x / 2) 8 long)

  pub tells_high : 64 ≤ x → told x ≡ 4
  tells_high h = rw (le-ltb x 64 h)
