-- `operands::put_operands` meets its contract.
-- Assumes nothing.
use mathlib.Core.Path.{◌≡◌}
use mathlib.Core.List.{List, [], ◌∷◌, ◌++◌}
use Prim.Native.Nat.{ℕ, ◌≤◌, ◌<◌, ◌+◌, ◌^◌}
use native.Mathlib.Omega.{arith}
use borrow.Author.Rules.{rules}
use lib.IntN.{ℤ, nat_abs}
use mir.Syntax.{w32}
use mir.Val.{to_z, of_z}
use Rattle.instruction.specs.Forms.{form_at}
use Rattle.instruction.specs.Kinds.{three_of}
use Rattle.instruction.specs.declared.kind.Kind.{Kind}
use Rattle.instruction.specs.declared.kind.Kinds.{Kinds}
use Rattle.targets.specs.Asked.{operand_place}
use Rattle.targets.proofs.ReadBack.{Read}
use Rattle.text.specs.Puts.{Puts}
use Rattle.text.proofs.Putting.{puts_as, puts_most, puts_then}
use Rattle.listing.specs.Alone.{field_alone, operands_alone}
use Rattle.listing.proofs.Showing.{field_length}
use Rattle.listing.proofs.operands.put_operands.Statement.{statement}
use Rattle.listing.proofs.operands.put_operands.Tie as tie

abbrev kinds : tie.After-put_field-a → tie.After-kinds-k
kinds j = j.before.before.before

abbrev start : tie.After-put_field-a → tie.Start
start j = (kinds j).before.before

-- the operands' numbers, read back
read_a : (s : tie.Start) → Read s.args.v.a
read_a s = search rules

read_b : (s : tie.Start) → Read s.args.v.b
read_b s = search rules

read_c : (s : tie.Start) → Read s.args.v.c
read_c s = search rules

-- a field ends at most five bytes further on
five : (s : tie.Start) (k : Kind) (z : ℤ) {at r : ℕ} {o m : List ℕ} → Puts (field_alone s.args.mode s.args.next k z) at o m r → r ≤ at + 5
five s k z f = puts_most f (field_length (operand_place s.args.mode s.args.next k z) k (nat_abs z))

one : (j : tie.After-put_field-a) → j.put_field-a.result ≤ 2 ^ 57 + 5
one j =
    let s = start j in
    let p : s.args.at < 2 ^ 57 = s.requires in
    let h : j.put_field-a.result ≤ s.args.at + 5 = five s (kinds j).kinds-k.result.a (to_z w32 (of_z w32 s.args.v.a)) j.put_field-a.ensures in
    omega arith

two : (k : tie.After-put_field-b) → k.put_field-b.result ≤ 2 ^ 57 + 10
two k =
    let j = k.before.before.before.before.before in
    let s = start j in
    let p = one j in
    let h : k.put_field-b.result ≤ j.put_field-a.result + 5 =
    five s (kinds j).kinds-k.result.b (to_z w32 (of_z w32 s.args.v.b)) k.put_field-b.ensures in
    omega arith

three : (l : tie.After-put_field-c) → l.put_field-c.result ≤ 2 ^ 57 + 15
three l =
    let k = l.before.before.before.before.before in
    let j = k.before.before.before.before.before in
    let s = start j in
    let p = two k in
    let h : l.put_field-c.result ≤ k.put_field-b.result + 5 =
    five s (kinds j).kinds-k.result.c (to_z w32 (of_z w32 s.args.v.c)) l.put_field-c.ensures in
    omega arith

-- the text, by kinds and numbers
abbrev text : tie.Start → Kinds → ℤ → ℤ → ℤ → List ℕ
text s k a b c =
    field_alone s.args.mode s.args.next k.a a
    ++ (field_alone s.args.mode s.args.next k.b b ++ (field_alone s.args.mode s.args.next k.c c ++ (10 ∷ [])))

same : (s : tie.Start) {k k' : Kinds} {a a' b b' c c' : ℤ} → k ≡ k' → a ≡ a' → b ≡ b' → c ≡ c' → text s k a b c ≡ text s k' a' b' c'
same s e x y z = rw (e, x, y, z)

returns : tie.Need-returns
unfolding operands_alone
returns c =
    let n = c.before.before in
    let l = n.before.before.before.before in
    let k = l.before.before.before.before.before in
    let j = k.before.before.before.before.before in
    let s = start j in
    puts_as (same s {k' = three_of (form_at s.args.v.form).shape} (kinds j).kinds-k.ensures (read_a s) (read_b s) (read_c s))
    (puts_then j.put_field-a.ensures (puts_then k.put_field-b.ensures (puts_then l.put_field-c.ensures n.put_byte.ensures)))

pub put_operands_spec : {M : Type 1} → statement M
put_operands_spec =
    tie.close
    (tie.spec (λ c κs. search rules) (λ c κs. search rules)
    (λ c κs. let h = one c.before.before.before.before in omega arith) (λ c κs. let h = two c.before.before.before.before in omega arith)
    (λ c κs. let h = three c.before.before.before in omega arith)
    (λ c. search rules) returns)
