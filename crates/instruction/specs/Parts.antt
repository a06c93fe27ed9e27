-- An instruction taken apart: the number of its form, and its operands in the order shown, 0 where it has none. And one put together.
-- Document 01, 'Forms' and 'What must change shape'.
-- Assumes nothing.
use Prim.Native.String.{String}
use Rattle.std.specs.Prelude.{ℤ, pos}
use Rattle.instruction.specs.Forms.{form_named, form_at}
use Rattle.instruction.specs.declared.instr.Parts.{Parts}
use Rattle.instruction.specs.declared.instr.Instr.{Instr}
use Rattle.instruction.specs.declared.instr.Instr.TheVariants.{Add_i8, Add_d9, Add_Ri, Addc_i8, Addc_d9, Addc_Ri, Sub_i8, Sub_d9}
use Rattle.instruction.specs.declared.instr.Instr.TheVariants.{Sub_Ri, Subc_i8, Subc_d9, Subc_Ri, Inc_d9, Inc_Ri, Dec_d9, Dec_Ri, Mul}
use Rattle.instruction.specs.declared.instr.Instr.TheVariants.{Div, And_i8, And_d9, And_Ri, Or_i8, Or_d9, Or_Ri, Xor_i8, Xor_d9}
use Rattle.instruction.specs.declared.instr.Instr.TheVariants.{Xor_Ri, Rol, Rolc, Ror, Rorc, Ld_d9, Ld_Ri, St_d9, St_Ri, Mov_d9, Mov_Rj}
use Rattle.instruction.specs.declared.instr.Instr.TheVariants.{Ldc, Push, Pop, Xch_d9, Xch_Ri, Jmp, Jmpf, Br, Brf, Bz, Bnz, Bp, Bpc, Bn, Dbnz_d9}
use Rattle.instruction.specs.declared.instr.Instr.TheVariants.{Dbnz_Ri, Be_i8, Be_d9, Be_Rj, Bne_i8, Bne_d9, Bne_Rj, Call, Callf, Callr}
use Rattle.instruction.specs.declared.instr.Instr.TheVariants.{Ret, Reti, Clr1, Set1, Not1, Nop, Ldf, Stf}

abbrev pub parts : String → ℤ → ℤ → ℤ → Parts
parts name a b c = record { form = form_named name; a = a; b = b; c = c }

unfoldable pub parts_of : Instr → Parts
parts_of (Add_i8 a) = parts "Add_i8" a (pos 0) (pos 0)
parts_of (Add_d9 a) = parts "Add_d9" a (pos 0) (pos 0)
parts_of (Add_Ri a) = parts "Add_Ri" a (pos 0) (pos 0)
parts_of (Addc_i8 a) = parts "Addc_i8" a (pos 0) (pos 0)
parts_of (Addc_d9 a) = parts "Addc_d9" a (pos 0) (pos 0)
parts_of (Addc_Ri a) = parts "Addc_Ri" a (pos 0) (pos 0)
parts_of (Sub_i8 a) = parts "Sub_i8" a (pos 0) (pos 0)
parts_of (Sub_d9 a) = parts "Sub_d9" a (pos 0) (pos 0)
parts_of (Sub_Ri a) = parts "Sub_Ri" a (pos 0) (pos 0)
parts_of (Subc_i8 a) = parts "Subc_i8" a (pos 0) (pos 0)
parts_of (Subc_d9 a) = parts "Subc_d9" a (pos 0) (pos 0)
parts_of (Subc_Ri a) = parts "Subc_Ri" a (pos 0) (pos 0)
parts_of (Inc_d9 a) = parts "Inc_d9" a (pos 0) (pos 0)
parts_of (Inc_Ri a) = parts "Inc_Ri" a (pos 0) (pos 0)
parts_of (Dec_d9 a) = parts "Dec_d9" a (pos 0) (pos 0)
parts_of (Dec_Ri a) = parts "Dec_Ri" a (pos 0) (pos 0)
parts_of Mul = parts "Mul" (pos 0) (pos 0) (pos 0)
parts_of Div = parts "Div" (pos 0) (pos 0) (pos 0)
parts_of (And_i8 a) = parts "And_i8" a (pos 0) (pos 0)
parts_of (And_d9 a) = parts "And_d9" a (pos 0) (pos 0)
parts_of (And_Ri a) = parts "And_Ri" a (pos 0) (pos 0)
parts_of (Or_i8 a) = parts "Or_i8" a (pos 0) (pos 0)
parts_of (Or_d9 a) = parts "Or_d9" a (pos 0) (pos 0)
parts_of (Or_Ri a) = parts "Or_Ri" a (pos 0) (pos 0)
parts_of (Xor_i8 a) = parts "Xor_i8" a (pos 0) (pos 0)
parts_of (Xor_d9 a) = parts "Xor_d9" a (pos 0) (pos 0)
parts_of (Xor_Ri a) = parts "Xor_Ri" a (pos 0) (pos 0)
parts_of Rol = parts "Rol" (pos 0) (pos 0) (pos 0)
parts_of Rolc = parts "Rolc" (pos 0) (pos 0) (pos 0)
parts_of Ror = parts "Ror" (pos 0) (pos 0) (pos 0)
parts_of Rorc = parts "Rorc" (pos 0) (pos 0) (pos 0)
parts_of (Ld_d9 a) = parts "Ld_d9" a (pos 0) (pos 0)
parts_of (Ld_Ri a) = parts "Ld_Ri" a (pos 0) (pos 0)
parts_of (St_d9 a) = parts "St_d9" a (pos 0) (pos 0)
parts_of (St_Ri a) = parts "St_Ri" a (pos 0) (pos 0)
parts_of (Mov_d9 a b) = parts "Mov_d9" a b (pos 0)
parts_of (Mov_Rj a b) = parts "Mov_Rj" a b (pos 0)
parts_of Ldc = parts "Ldc" (pos 0) (pos 0) (pos 0)
parts_of (Push a) = parts "Push" a (pos 0) (pos 0)
parts_of (Pop a) = parts "Pop" a (pos 0) (pos 0)
parts_of (Xch_d9 a) = parts "Xch_d9" a (pos 0) (pos 0)
parts_of (Xch_Ri a) = parts "Xch_Ri" a (pos 0) (pos 0)
parts_of (Jmp a) = parts "Jmp" a (pos 0) (pos 0)
parts_of (Jmpf a) = parts "Jmpf" a (pos 0) (pos 0)
parts_of (Br a) = parts "Br" a (pos 0) (pos 0)
parts_of (Brf a) = parts "Brf" a (pos 0) (pos 0)
parts_of (Bz a) = parts "Bz" a (pos 0) (pos 0)
parts_of (Bnz a) = parts "Bnz" a (pos 0) (pos 0)
parts_of (Bp a b c) = parts "Bp" a b c
parts_of (Bpc a b c) = parts "Bpc" a b c
parts_of (Bn a b c) = parts "Bn" a b c
parts_of (Dbnz_d9 a b) = parts "Dbnz_d9" a b (pos 0)
parts_of (Dbnz_Ri a b) = parts "Dbnz_Ri" a b (pos 0)
parts_of (Be_i8 a b) = parts "Be_i8" a b (pos 0)
parts_of (Be_d9 a b) = parts "Be_d9" a b (pos 0)
parts_of (Be_Rj a b c) = parts "Be_Rj" a b c
parts_of (Bne_i8 a b) = parts "Bne_i8" a b (pos 0)
parts_of (Bne_d9 a b) = parts "Bne_d9" a b (pos 0)
parts_of (Bne_Rj a b c) = parts "Bne_Rj" a b c
parts_of (Call a) = parts "Call" a (pos 0) (pos 0)
parts_of (Callf a) = parts "Callf" a (pos 0) (pos 0)
parts_of (Callr a) = parts "Callr" a (pos 0) (pos 0)
parts_of Ret = parts "Ret" (pos 0) (pos 0) (pos 0)
parts_of Reti = parts "Reti" (pos 0) (pos 0) (pos 0)
parts_of (Clr1 a b) = parts "Clr1" a b (pos 0)
parts_of (Set1 a b) = parts "Set1" a b (pos 0)
parts_of (Not1 a b) = parts "Not1" a b (pos 0)
parts_of Nop = parts "Nop" (pos 0) (pos 0) (pos 0)
parts_of Ldf = parts "Ldf" (pos 0) (pos 0) (pos 0)
parts_of Stf = parts "Stf" (pos 0) (pos 0) (pos 0)

-- the instruction that a form makes of operands
unfoldable pub made_of : Parts → Instr
made_of v = (form_at v.form).make v.a v.b v.c
