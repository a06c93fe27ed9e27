-- `lines::put_parts` meets its contract.
-- Assumes nothing.
use mathlib.Core.Path.{◌≡◌, sym, ap, ◌∙◌}
use mathlib.Core.List.{List}
use Prim.Native.Nat.{ℕ, ◌+◌, ◌^◌, ◌<◌, ◌≤◌}
use native.Mathlib.Omega.{arith}
use borrow.Author.Rules.{rules}
use lib.ListN.{length, take, length-take}
use Rattle.instruction.specs.Forms.{form_at, size_of}
use Rattle.instruction.specs.Mnemonic.{mnemonic_of, packed_letters}
use Rattle.instruction.specs.Parts.{parts_of, made_of}
use Rattle.instruction.specs.declared.instr.Instr.{Instr}
use Rattle.instruction.specs.declared.instr.Parts.{Parts}
use Rattle.targets.specs.Targets.{targets_answer}
use Rattle.text.specs.Puts.{letters}
use Rattle.text.proofs.Putting.{puts_as, puts_most, puts_then}
use Rattle.listing.specs.Alone.{operands_alone}
use Rattle.listing.specs.Line.{fields_text}
use Rattle.listing.specs.Operand.{first_of, operands_by}
use Rattle.listing.proofs.Alone.{operands_alone_lem}
use Rattle.listing.proofs.Lining.{puts_begin, puts_bytes, puts_word, instr}
use Rattle.listing.proofs.Naming.{spelled}
use Rattle.listing.proofs.Opened.{Opened, opened}
use Rattle.listing.proofs.Showing.{operands_length}
use Rattle.listing.proofs.lines.put_parts.Statement.{statement}
use Rattle.listing.proofs.lines.put_parts.Tie as tie

abbrev start : tie.After-size-n → tie.Start
start z = z.before.before.before

abbrev bytes : tie.After-size-n → List ℕ
bytes z = (start z).args.bytes.now

abbrev parts : tie.After-size-n → Parts
parts z = (start z).args.v

abbrev sized : tie.After-put_start-a1 → tie.After-size-n
sized j = j.before.before.before

abbrev begun : tie.After-put_bytes-a2 → tie.After-put_start-a1
begun b = b.before.before.before.before

known : (z : tie.After-size-n) → Opened (bytes z) (parts z)
known z = opened (bytes z) (parts z) (start z).requires.1 (λ n. (z.shared_slice_known-1.given n).fits)

wide : (s : tie.Start) → s.args.p < 4294967296
wide s = search rules

add-next : tie.Need-overflow_add-next
add-next c =
    let z = c.before in
    let e : z.size-n.result ≡ size_of (form_at (parts z).form) = z.size-n.ensures in
    record { fits = omega (arith, e, (known z).few, wide (start z)) }

-- the part of the bytes that is shown has at most three
short : (z : tie.After-size-n) → length (take z.size-n.result (bytes z)) ≤ 65536
short z =
    let e : z.size-n.result ≡ size_of (form_at (parts z).form) = z.size-n.ensures in
    omega (arith, e, (known z).few, length-take z.size-n.result (bytes z))

small : (j : tie.After-put_start-a1) → j.put_start-a1.result ≤ (start (sized j)).args.at + 6
small j = puts_begin (start (sized j)).args.p j.put_start-a1.ensures

put-bytes-requires : tie.Need-put_bytes-a2-requires
put-bytes-requires c κs =
    let j = c.before.before.before in
    let s = start (sized j) in
    let b : s.args.at < 2 ^ 54 = s.requires.0 in
    let h : j.put_start-a1.result ≤ s.args.at + 6 = small j in
    (omega arith, short (sized j))

after_bytes : (b : tie.After-put_bytes-a2) → b.put_bytes-a2.result ≤ (start (sized (begun b))).args.at + 131079
after_bytes b =
    let j = begun b in
    let z = sized j in
    let h : j.put_start-a1.result ≤ (start z).args.at + 6 = small j in
    let g : b.put_bytes-a2.result ≤ j.put_start-a1.result + 131073 = puts_bytes (take z.size-n.result (bytes z)) b.put_bytes-a2.ensures (short z) in
    omega arith

after_word : (w : tie.After-put_word-a3) → w.put_word-a3.result ≤ (start (sized (begun w.before.before.before.before))).args.at + 131088
after_word w =
    let b = w.before.before.before.before in
    let j = begun b in
    let h : b.put_bytes-a2.result ≤ (start (sized j)).args.at + 131079 = after_bytes b in
    let g : w.put_word-a3.result ≤ b.put_bytes-a2.result + 9 = puts_word j.mnemonic-word.result w.put_word-a3.ensures in
    omega arith

put-word-requires : tie.Need-put_word-a3-requires
put-word-requires c κs =
    let b = c.before.before.before in
    let s = start (sized (begun b)) in
    let l : s.args.at < 2 ^ 54 = s.requires.0 in
    let h : b.put_bytes-a2.result ≤ s.args.at + 131079 = after_bytes b in
    omega arith

put-operands-requires : tie.Need-put_operands-requires
put-operands-requires c κs =
    let w = c.before.before.before in
    let s = start (sized (begun w.before.before.before.before)) in
    let l : s.args.at < 2 ^ 54 = s.requires.0 in
    let h : w.put_word-a3.result ≤ s.args.at + 131088 = after_word w in
    omega arith

-- the shown part lies within the bytes
aggregate : tie.Need-slice_bounds-put_bytes-end
aggregate c =
    let z = sized c.before.before.before in
    let e : z.size-n.result ≡ size_of (form_at (parts z).form) = z.size-n.ensures in
    omega (arith, e, (known z).size, length-take z.size-n.result (bytes z))

-- what is shown of the parts is shown of the instruction that they make
module _ (z : tie.After-size-n) where
  abbrev v : Parts
  v = parts z

  abbrev i : Instr
  i = made_of v

  -- the size of the parts is the instruction's
  size_is : z.size-n.result ≡ size_of (form_at (parts_of i).form)
  size_is = z.size-n.ensures ∙ ap (λ (u : Parts). size_of (form_at u.form)) (sym (known z).apart)

  word_is : (w : ℕ) → w ≡ packed_letters (mnemonic_of v.form) → letters 8 w ≡ mnemonic_of (parts_of i).form
  word_is w e = ap (letters 8) (e ∙ ap (λ (u : Parts). packed_letters (mnemonic_of u.form)) (sym (known z).apart)) ∙ spelled i

  abbrev fields : List ℕ
  fields = fields_text (operands_by (first_of (targets_answer (start z).args.mode (start z).args.p i)) i)

  operands_are : operands_alone (start z).args.mode ((start z).args.p + z.size-n.result) v ≡ fields
  operands_are =
      ap (λ (n : ℕ). operands_alone (start z).args.mode ((start z).args.p + n) v) size_is
      ∙ ap (operands_alone (start z).args.mode ((start z).args.p + size_of (form_at (parts_of i).form))) (sym (known z).apart)
      ∙ operands_alone_lem (start z).args.mode (start z).args.p i (known z).fit

returns : tie.Need-returns
returns c =
    let n = c.before.before in
    let w = n.before.before.before.before in
    let b = w.before.before.before.before in
    let j = begun b in
    let m = j.before.before in
    let z = sized j in
    let a = (start z).args in
    let h : w.put_word-a3.result ≤ a.at + 131088 = after_word w in
    let g : n.put_operands.result ≤ w.put_word-a3.result + 16 =
    puts_most (puts_as (operands_are z) n.put_operands.ensures) (operands_length (first_of (targets_answer a.mode a.p (i z))) (i z)) in (
      puts_as
          (instr a.mode a.bytes.now a.p (i z) _ (operands_are z) m.mnemonic-word.result (word_is z m.mnemonic-word.result m.mnemonic-word.ensures)
          _ (ap (λ (k : ℕ). take k (bytes z)) (size_is z)))
          (puts_then j.put_start-a1.ensures (puts_then b.put_bytes-a2.ensures (puts_then w.put_word-a3.ensures n.put_operands.ensures))),
      omega arith,
    )

pub put_parts_spec : {M : Type 1} → statement M
put_parts_spec =
    tie.close
    (tie.spec (λ c κs. search rules) (λ c κs. search rules) add-next (λ c κs. search rules)
    aggregate put-bytes-requires put-word-requires put-operands-requires (λ c. search rules) returns)
