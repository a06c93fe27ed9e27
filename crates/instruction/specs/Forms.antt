-- The 70 forms, in the order of source document 000: the name, the kinds of the operands in the order shown, the bit pattern as 000
-- writes it, and the instruction. Document 01, 'Forms'.
-- Assumes nothing.
use Rattle.std.specs.Prelude.{ℕ, suc, cond, List, [], ◌∷◌, length, ℤ, slice_index_or}
use Prim.Native.String.{String}
use lib.Text.{eqt}
use Rattle.instruction.specs.Pattern.{Bit, pattern, agrees}
use Rattle.instruction.specs.declared.kind.Shape.{Shape}
use Rattle.instruction.specs.declared.kind.Shape.TheVariants.{Bare, Imm, D9, Ri, ImmD9, ImmRi, D9B3, A12, A16, R16, R8, D9B3R8, D9R8, RiR8, ImmR8}
use Rattle.instruction.specs.declared.kind.Shape.TheVariants.{RiImmR8}
use Rattle.instruction.specs.declared.instr.Instr.{Instr}
use Rattle.instruction.specs.declared.instr.Instr.TheVariants.{Add_i8, Add_d9, Add_Ri, Addc_i8, Addc_d9, Addc_Ri, Sub_i8, Sub_d9}
use Rattle.instruction.specs.declared.instr.Instr.TheVariants.{Sub_Ri, Subc_i8, Subc_d9, Subc_Ri, Inc_d9, Inc_Ri, Dec_d9, Dec_Ri, Mul}
use Rattle.instruction.specs.declared.instr.Instr.TheVariants.{Div, And_i8, And_d9, And_Ri, Or_i8, Or_d9, Or_Ri, Xor_i8, Xor_d9}
use Rattle.instruction.specs.declared.instr.Instr.TheVariants.{Xor_Ri, Rol, Rolc, Ror, Rorc, Ld_d9, Ld_Ri, St_d9, St_Ri, Mov_d9, Mov_Rj}
use Rattle.instruction.specs.declared.instr.Instr.TheVariants.{Ldc, Push, Pop, Xch_d9, Xch_Ri, Jmp, Jmpf, Br, Brf, Bz, Bnz, Bp, Bpc, Bn, Dbnz_d9}
use Rattle.instruction.specs.declared.instr.Instr.TheVariants.{Dbnz_Ri, Be_i8, Be_d9, Be_Rj, Bne_i8, Bne_d9, Bne_Rj, Call, Callf, Callr}
use Rattle.instruction.specs.declared.instr.Instr.TheVariants.{Ret, Reti, Clr1, Set1, Not1, Nop, Ldf, Stf}

pub record Form : Type 0 where
  pub name : String
  pub shape : Shape
  pub text : String
  pub make : ℤ → ℤ → ℤ → Instr

abbrev pub form : String → Shape → String → (ℤ → ℤ → ℤ → Instr) → Form
form n s t m = record { name = n; shape = s; text = t; make = m }

unfoldable pub forms : List Form
forms =
    form "Add_i8" Imm "10000001 [a7][a6][a5][a4][a3][a2][a1][a0]" (λ a b c. Add_i8 a) ∷
    form "Add_d9" D9 "1000001[a8] [a7][a6][a5][a4][a3][a2][a1][a0]" (λ a b c. Add_d9 a) ∷
    form "Add_Ri" Ri "100001[a1][a0]" (λ a b c. Add_Ri a) ∷
    form "Addc_i8" Imm "10010001 [a7][a6][a5][a4][a3][a2][a1][a0]" (λ a b c. Addc_i8 a) ∷
    form "Addc_d9" D9 "1001001[a8] [a7][a6][a5][a4][a3][a2][a1][a0]" (λ a b c. Addc_d9 a) ∷
    form "Addc_Ri" Ri "100101[a1][a0]" (λ a b c. Addc_Ri a) ∷
    form "Sub_i8" Imm "10100001 [a7][a6][a5][a4][a3][a2][a1][a0]" (λ a b c. Sub_i8 a) ∷
    form "Sub_d9" D9 "1010001[a8] [a7][a6][a5][a4][a3][a2][a1][a0]" (λ a b c. Sub_d9 a) ∷
    form "Sub_Ri" Ri "101001[a1][a0]" (λ a b c. Sub_Ri a) ∷
    form "Subc_i8" Imm "10110001 [a7][a6][a5][a4][a3][a2][a1][a0]" (λ a b c. Subc_i8 a) ∷
    form "Subc_d9" D9 "1011001[a8] [a7][a6][a5][a4][a3][a2][a1][a0]" (λ a b c. Subc_d9 a) ∷
    form "Subc_Ri" Ri "101101[a1][a0]" (λ a b c. Subc_Ri a) ∷
    form "Inc_d9" D9 "0110001[a8] [a7][a6][a5][a4][a3][a2][a1][a0]" (λ a b c. Inc_d9 a) ∷
    form "Inc_Ri" Ri "011001[a1][a0]" (λ a b c. Inc_Ri a) ∷
    form "Dec_d9" D9 "0111001[a8] [a7][a6][a5][a4][a3][a2][a1][a0]" (λ a b c. Dec_d9 a) ∷
    form "Dec_Ri" Ri "011101[a1][a0]" (λ a b c. Dec_Ri a) ∷
    form "Mul" Bare "00110000" (λ a b c. Mul) ∷
    form "Div" Bare "01000000" (λ a b c. Div) ∷
    form "And_i8" Imm "11100001 [a7][a6][a5][a4][a3][a2][a1][a0]" (λ a b c. And_i8 a) ∷
    form "And_d9" D9 "1110001[a8] [a7][a6][a5][a4][a3][a2][a1][a0]" (λ a b c. And_d9 a) ∷
    form "And_Ri" Ri "111001[a1][a0]" (λ a b c. And_Ri a) ∷
    form "Or_i8" Imm "11010001 [a7][a6][a5][a4][a3][a2][a1][a0]" (λ a b c. Or_i8 a) ∷
    form "Or_d9" D9 "1101001[a8] [a7][a6][a5][a4][a3][a2][a1][a0]" (λ a b c. Or_d9 a) ∷
    form "Or_Ri" Ri "110101[a1][a0]" (λ a b c. Or_Ri a) ∷
    form "Xor_i8" Imm "11110001 [a7][a6][a5][a4][a3][a2][a1][a0]" (λ a b c. Xor_i8 a) ∷
    form "Xor_d9" D9 "1111001[a8] [a7][a6][a5][a4][a3][a2][a1][a0]" (λ a b c. Xor_d9 a) ∷
    form "Xor_Ri" Ri "111101[a1][a0]" (λ a b c. Xor_Ri a) ∷
    form "Rol" Bare "11100000" (λ a b c. Rol) ∷
    form "Rolc" Bare "11110000" (λ a b c. Rolc) ∷
    form "Ror" Bare "11000000" (λ a b c. Ror) ∷
    form "Rorc" Bare "11010000" (λ a b c. Rorc) ∷
    form "Ld_d9" D9 "0000001[a8] [a7][a6][a5][a4][a3][a2][a1][a0]" (λ a b c. Ld_d9 a) ∷
    form "Ld_Ri" Ri "000001[a1][a0]" (λ a b c. Ld_Ri a) ∷
    form "St_d9" D9 "0001001[a8] [a7][a6][a5][a4][a3][a2][a1][a0]" (λ a b c. St_d9 a) ∷
    form "St_Ri" Ri "000101[a1][a0]" (λ a b c. St_Ri a) ∷
    form "Mov_d9" ImmD9 "0010001[b8] [b7][b6][b5][b4][b3][b2][b1][b0] [a7][a6][a5][a4][a3][a2][a1][a0]" (λ a b c. Mov_d9 a b) ∷
    form "Mov_Rj" ImmRi "001001[b1][b0] [a7][a6][a5][a4][a3][a2][a1][a0]" (λ a b c. Mov_Rj a b) ∷
    form "Ldc" Bare "11000001" (λ a b c. Ldc) ∷
    form "Push" D9 "0110000[a8] [a7][a6][a5][a4][a3][a2][a1][a0]" (λ a b c. Push a) ∷
    form "Pop" D9 "0111000[a8] [a7][a6][a5][a4][a3][a2][a1][a0]" (λ a b c. Pop a) ∷
    form "Xch_d9" D9 "1100001[a8] [a7][a6][a5][a4][a3][a2][a1][a0]" (λ a b c. Xch_d9 a) ∷
    form "Xch_Ri" Ri "110001[a1][a0]" (λ a b c. Xch_Ri a) ∷
    form "Jmp" A12 "001[a11]1[a10][a9][a8] [a7][a6][a5][a4][a3][a2][a1][a0]" (λ a b c. Jmp a) ∷
    form "Jmpf" A16 "00100001 [a15][a14][a13][a12][a11][a10][a9][a8] [a7][a6][a5][a4][a3][a2][a1][a0]" (λ a b c. Jmpf a) ∷
    form "Br" R8 "00000001 [a7][a6][a5][a4][a3][a2][a1][a0]" (λ a b c. Br a) ∷
    form "Brf" R16 "00010001 [a7][a6][a5][a4][a3][a2][a1][a0] [a15][a14][a13][a12][a11][a10][a9][a8]" (λ a b c. Brf a) ∷
    form "Bz" R8 "10000000 [a7][a6][a5][a4][a3][a2][a1][a0]" (λ a b c. Bz a) ∷
    form "Bnz" R8 "10010000 [a7][a6][a5][a4][a3][a2][a1][a0]" (λ a b c. Bnz a) ∷
    form "Bp" D9B3R8 "011[a8]1[b2][b1][b0] [a7][a6][a5][a4][a3][a2][a1][a0] [c7][c6][c5][c4][c3][c2][c1][c0]" (λ a b c. Bp a b c) ∷
    form "Bpc" D9B3R8 "010[a8]1[b2][b1][b0] [a7][a6][a5][a4][a3][a2][a1][a0] [c7][c6][c5][c4][c3][c2][c1][c0]" (λ a b c. Bpc a b c) ∷
    form "Bn" D9B3R8 "100[a8]1[b2][b1][b0] [a7][a6][a5][a4][a3][a2][a1][a0] [c7][c6][c5][c4][c3][c2][c1][c0]" (λ a b c. Bn a b c) ∷
    form "Dbnz_d9" D9R8 "0101001[a8] [a7][a6][a5][a4][a3][a2][a1][a0] [b7][b6][b5][b4][b3][b2][b1][b0]" (λ a b c. Dbnz_d9 a b) ∷
    form "Dbnz_Ri" RiR8 "010101[a1][a0] [b7][b6][b5][b4][b3][b2][b1][b0]" (λ a b c. Dbnz_Ri a b) ∷
    form "Be_i8" ImmR8 "00110001 [a7][a6][a5][a4][a3][a2][a1][a0] [b7][b6][b5][b4][b3][b2][b1][b0]" (λ a b c. Be_i8 a b) ∷
    form "Be_d9" D9R8 "0011001[a8] [a7][a6][a5][a4][a3][a2][a1][a0] [b7][b6][b5][b4][b3][b2][b1][b0]" (λ a b c. Be_d9 a b) ∷
    form "Be_Rj" RiImmR8 "001101[a1][a0] [b7][b6][b5][b4][b3][b2][b1][b0] [c7][c6][c5][c4][c3][c2][c1][c0]" (λ a b c. Be_Rj a b c) ∷
    form "Bne_i8" ImmR8 "01000001 [a7][a6][a5][a4][a3][a2][a1][a0] [b7][b6][b5][b4][b3][b2][b1][b0]" (λ a b c. Bne_i8 a b) ∷
    form "Bne_d9" D9R8 "0100001[a8] [a7][a6][a5][a4][a3][a2][a1][a0] [b7][b6][b5][b4][b3][b2][b1][b0]" (λ a b c. Bne_d9 a b) ∷
    form "Bne_Rj" RiImmR8 "010001[a1][a0] [b7][b6][b5][b4][b3][b2][b1][b0] [c7][c6][c5][c4][c3][c2][c1][c0]" (λ a b c. Bne_Rj a b c) ∷
    form "Call" A12 "000[a11]1[a10][a9][a8] [a7][a6][a5][a4][a3][a2][a1][a0]" (λ a b c. Call a) ∷
    form "Callf" A16 "00100000 [a15][a14][a13][a12][a11][a10][a9][a8] [a7][a6][a5][a4][a3][a2][a1][a0]" (λ a b c. Callf a) ∷
    form "Callr" R16 "00010000 [a7][a6][a5][a4][a3][a2][a1][a0] [a15][a14][a13][a12][a11][a10][a9][a8]" (λ a b c. Callr a) ∷
    form "Ret" Bare "10100000" (λ a b c. Ret) ∷
    form "Reti" Bare "10110000" (λ a b c. Reti) ∷
    form "Clr1" D9B3 "110[a8]1[b2][b1][b0] [a7][a6][a5][a4][a3][a2][a1][a0]" (λ a b c. Clr1 a b) ∷
    form "Set1" D9B3 "111[a8]1[b2][b1][b0] [a7][a6][a5][a4][a3][a2][a1][a0]" (λ a b c. Set1 a b) ∷
    form "Not1" D9B3 "101[a8]1[b2][b1][b0] [a7][a6][a5][a4][a3][a2][a1][a0]" (λ a b c. Not1 a b) ∷
    form "Nop" Bare "00000000" (λ a b c. Nop) ∷
    form "Ldf" Bare "01010000" (λ a b c. Ldf) ∷
    form "Stf" Bare "01010001" (λ a b c. Stf) ∷
    []

-- the form with a number: its place in the list
unfoldable pub form_at : ℕ → Form
form_at k = slice_index_or forms k (form "" Bare "" (λ a b c. Nop))

-- its pattern, and its size in bytes
abbrev pub bits : Form → List (List Bit)
bits w = pattern w.text

abbrev pub size_of : Form → ℕ
size_of w = length (bits w)

-- the number of the form that has a name
abbrev pub place_named : List Form → String → ℕ
place_named [] s = 0
place_named (w ∷ ws) s = let k : ℕ = place_named ws s in cond (eqt w.name s) 0 (suc k)

unfoldable pub form_named : String → ℕ
form_named s = place_named forms s

-- the number of the form whose pattern has the fixed bits of a first byte
abbrev pub matching : List Form → ℕ → ℕ
matching [] x = 0
matching (w ∷ ws) x = let k : ℕ = matching ws x in cond (agrees (slice_index_or (bits w) 0 []) x) 0 (suc k)

unfoldable pub form_of : ℕ → ℕ
form_of x = matching forms x
