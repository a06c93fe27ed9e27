-- `read::read` meets its contract: each arm has the closed form of its operands.
-- Assumes nothing.
use Rattle.std.proofs.Common.{◌≡◌, ℕ, List, ℤ, refl, ◌∙◌, w32, to_z, of_z, rules}
use Rattle.instruction.specs.Layout.{fields_by}
use Rattle.instruction.specs.declared.kind.Shape.{Shape}
use Rattle.instruction.specs.declared.kind.Shape.TheVariants.{Bare, Imm, D9, Ri, ImmD9, ImmRi, D9B3, A12, A16, R16, R8, D9B3R8, D9R8, RiR8, ImmR8}
use Rattle.instruction.specs.declared.kind.Shape.TheVariants.{RiImmR8}
use Rattle.instruction.proofs.FieldReading.{closed, make3, read}
use Rattle.instruction.proofs.read.read.Statement.{statement}
use Rattle.instruction.proofs.read.read.Tie as tie

-- an operand read back from the machine's number
abbrev Read : ℤ → Type 0
Read z = to_z w32 (of_z w32 z) ≡ z

told : (c : tie.After-byte_at-q) (t : Shape) → c.args.shape ≡ t
    → closed t c.byte_at-x.result c.byte_at-p.result c.byte_at-q.result
    ≡ fields_by c.args.shape c.args.bytes.now
told c t e =
    let d = c.before.before.before in
    let s : List ℕ = d.args.bytes.now in
    rw (c.byte_at-x.ensures, c.byte_at-p.ensures, c.byte_at-q.ensures, e)
    (read t s (λ i. (d.shared_slice_known-1.given i).fits))

pub read_spec : {M : Type 1} → statement M
unfolding closed
read_spec =
    tie.close
    (tie.spec
    (λ c κs. search rules)
    (λ c κs. search rules)
    (λ c κs. search rules)
    (λ c. search rules)
    (λ c. search rules)
    (λ c κs. search rules)
    (λ c. search rules)
    (λ c κs. search rules)
    (λ c. search rules)
    (λ c κs. search rules)
    (λ c. search rules)
    (λ c κs. search rules)
    (λ c κs. search rules)
    (λ c. search rules)
    (λ c κs. search rules)
    (λ c κs. search rules)
    (λ c. search rules)
    (λ c κs. search rules)
    (λ c κs. search rules)
    (λ c. search rules)
    (λ c κs. search rules)
    (λ c. search rules)
    (λ c κs. search rules)
    (λ c. search rules)
    (λ c κs. search rules)
    (λ c. search rules)
    (λ c κs. search rules)
    (λ c. search rules)
    (λ c κs. search rules)
    (λ c κs. search rules)
    (λ c κs. search rules)
    (λ c. search rules)
    (λ c κs. search rules)
    (λ c κs. search rules)
    (λ c. search rules)
    (λ c κs. search rules)
    (λ c κs. search rules)
    (λ c. search rules)
    (λ c κs. search rules)
    (λ c κs. search rules)
    (λ c. search rules)
    (λ c κs. search rules)
    (λ c κs. search rules)
    (λ c κs. search rules)
    (λ c. told c.before Bare c.in-Bare.is)
    (λ c. let f : Read c.byte.result = search rules in
    make3 (f ∙ c.byte.ensures) refl refl ∙ told c.before.before Imm c.in-Imm.is)
    (λ c. let f : Read c.d9.result = search rules in
    make3 (f ∙ c.d9.ensures) refl refl ∙ told c.before.before D9 c.in-D9.is)
    (λ c. let f : Read c.register.result = search rules in
    make3 (f ∙ c.register.ensures) refl refl ∙ told c.before.before Ri c.in-Ri.is)
    (λ c. let f : Read c.byte-in-ImmD9.result = search rules in let g : Read c.d9-in-ImmD9.result = search rules in
    make3 (f ∙ c.byte-in-ImmD9.ensures) (g ∙ c.d9-in-ImmD9.ensures) refl ∙ told c.before.before.before ImmD9 c.in-ImmD9.is)
    (λ c. let f : Read c.byte-in-ImmRi.result = search rules in let g : Read c.register-in-ImmRi.result = search rules in
    make3 (f ∙ c.byte-in-ImmRi.ensures) (g ∙ c.register-in-ImmRi.ensures) refl
    ∙ told c.before.before.before ImmRi c.in-ImmRi.is)
    (λ c. let f : Read c.d9_by_bit.result = search rules in let g : Read c.bit.result = search rules in
    make3 (f ∙ c.d9_by_bit.ensures) (g ∙ c.bit.ensures) refl
    ∙ told c.before.before.before D9B3 c.in-D9B3.is)
    (λ c. let f : Read c.a12.result = search rules in
    make3 (f ∙ c.a12.ensures) refl refl ∙ told c.before.before A12 c.in-A12.is)
    (λ c. let f : Read c.pair.result = search rules in
    make3 (f ∙ c.pair.ensures) refl refl ∙ told c.before.before A16 c.in-A16.is)
    (λ c. let f : Read c.pair-in-R16.result = search rules in
    make3 (f ∙ c.pair-in-R16.ensures) refl refl ∙ told c.before.before R16 c.in-R16.is)
    (λ c. let f : Read c.short.result = search rules in
    make3 (f ∙ c.short.ensures) refl refl ∙ told c.before.before R8 c.in-R8.is)
    (λ c. let f : Read c.d9_by_bit-in-D9B3R8.result = search rules in let g : Read c.bit-in-D9B3R8.result = search rules in
    let h : Read c.short-in-D9B3R8.result = search rules in
    make3 (f ∙ c.d9_by_bit-in-D9B3R8.ensures) (g ∙ c.bit-in-D9B3R8.ensures) (h ∙ c.short-in-D9B3R8.ensures)
    ∙ told c.before.before.before.before D9B3R8 c.in-D9B3R8.is)
    (λ c. let f : Read c.d9-in-D9R8.result = search rules in let g : Read c.short-in-D9R8.result = search rules in
    make3 (f ∙ c.d9-in-D9R8.ensures) (g ∙ c.short-in-D9R8.ensures) refl
    ∙ told c.before.before.before D9R8 c.in-D9R8.is)
    (λ c. let f : Read c.register-in-RiR8.result = search rules in let g : Read c.short-in-RiR8.result = search rules in
    make3 (f ∙ c.register-in-RiR8.ensures) (g ∙ c.short-in-RiR8.ensures) refl
    ∙ told c.before.before.before RiR8 c.in-RiR8.is)
    (λ c. let f : Read c.byte-in-ImmR8.result = search rules in let g : Read c.short-in-ImmR8.result = search rules in
    make3 (f ∙ c.byte-in-ImmR8.ensures) (g ∙ c.short-in-ImmR8.ensures) refl
    ∙ told c.before.before.before ImmR8 c.in-ImmR8.is)
    (λ c. let f : Read c.register-in-RiImmR8.result = search rules in let g : Read c.byte-in-RiImmR8.result = search rules in
    let h : Read c.short-in-RiImmR8.result = search rules in
    make3 (f ∙ c.register-in-RiImmR8.ensures) (g ∙ c.byte-in-RiImmR8.ensures) (h ∙ c.short-in-RiImmR8.ensures)
    ∙ told c.before.before.before.before RiImmR8 c.in-RiImmR8.is))
