-- Every instruction is put together again from its parts, and its form's number is below 70.
-- Assumes nothing.
use Rattle.std.proofs.Common.{◌≡◌, ◌<◌, sym, refl, subst, lit<}
use Rattle.instruction.specs.Forms.{forms, form_at, form_named}
use Rattle.instruction.specs.Parts.{parts_of, made_of}
use Rattle.instruction.specs.declared.instr.Parts.{Parts}
use Rattle.instruction.specs.declared.instr.Instr.{Instr}
use Rattle.instruction.specs.declared.instr.Instr.TheVariants.{Add_i8, Add_d9, Add_Ri, Addc_i8, Addc_d9, Addc_Ri, Sub_i8, Sub_d9}
use Rattle.instruction.specs.declared.instr.Instr.TheVariants.{Sub_Ri, Subc_i8, Subc_d9, Subc_Ri, Inc_d9, Inc_Ri, Dec_d9, Dec_Ri, Mul}
use Rattle.instruction.specs.declared.instr.Instr.TheVariants.{Div, And_i8, And_d9, And_Ri, Or_i8, Or_d9, Or_Ri, Xor_i8, Xor_d9}
use Rattle.instruction.specs.declared.instr.Instr.TheVariants.{Xor_Ri, Rol, Rolc, Ror, Rorc, Ld_d9, Ld_Ri, St_d9, St_Ri, Mov_d9, Mov_Rj}
use Rattle.instruction.specs.declared.instr.Instr.TheVariants.{Ldc, Push, Pop, Xch_d9, Xch_Ri, Jmp, Jmpf, Br, Brf, Bz, Bnz, Bp, Bpc, Bn, Dbnz_d9}
use Rattle.instruction.specs.declared.instr.Instr.TheVariants.{Dbnz_Ri, Be_i8, Be_d9, Be_Rj, Bne_i8, Bne_d9, Bne_Rj, Call, Callf, Callr}
use Rattle.instruction.specs.declared.instr.Instr.TheVariants.{Ret, Reti, Clr1, Set1, Not1, Nop, Ldf, Stf}

pub record Known (i : Instr) : Type 0 where
  pub made : made_of (parts_of i) ≡ i
  pub small : (parts_of i).form < 70

pub known : (i : Instr) → Known i
unfolding parts_of made_of form_at form_named forms
known (Add_i8 a) = record { made = refl; small = lit< tt }
known (Add_d9 a) = record { made = refl; small = lit< tt }
known (Add_Ri a) = record { made = refl; small = lit< tt }
known (Addc_i8 a) = record { made = refl; small = lit< tt }
known (Addc_d9 a) = record { made = refl; small = lit< tt }
known (Addc_Ri a) = record { made = refl; small = lit< tt }
known (Sub_i8 a) = record { made = refl; small = lit< tt }
known (Sub_d9 a) = record { made = refl; small = lit< tt }
known (Sub_Ri a) = record { made = refl; small = lit< tt }
known (Subc_i8 a) = record { made = refl; small = lit< tt }
known (Subc_d9 a) = record { made = refl; small = lit< tt }
known (Subc_Ri a) = record { made = refl; small = lit< tt }
known (Inc_d9 a) = record { made = refl; small = lit< tt }
known (Inc_Ri a) = record { made = refl; small = lit< tt }
known (Dec_d9 a) = record { made = refl; small = lit< tt }
known (Dec_Ri a) = record { made = refl; small = lit< tt }
known Mul = record { made = refl; small = lit< tt }
known Div = record { made = refl; small = lit< tt }
known (And_i8 a) = record { made = refl; small = lit< tt }
known (And_d9 a) = record { made = refl; small = lit< tt }
known (And_Ri a) = record { made = refl; small = lit< tt }
known (Or_i8 a) = record { made = refl; small = lit< tt }
known (Or_d9 a) = record { made = refl; small = lit< tt }
known (Or_Ri a) = record { made = refl; small = lit< tt }
known (Xor_i8 a) = record { made = refl; small = lit< tt }
known (Xor_d9 a) = record { made = refl; small = lit< tt }
known (Xor_Ri a) = record { made = refl; small = lit< tt }
known Rol = record { made = refl; small = lit< tt }
known Rolc = record { made = refl; small = lit< tt }
known Ror = record { made = refl; small = lit< tt }
known Rorc = record { made = refl; small = lit< tt }
known (Ld_d9 a) = record { made = refl; small = lit< tt }
known (Ld_Ri a) = record { made = refl; small = lit< tt }
known (St_d9 a) = record { made = refl; small = lit< tt }
known (St_Ri a) = record { made = refl; small = lit< tt }
known (Mov_d9 a b) = record { made = refl; small = lit< tt }
known (Mov_Rj a b) = record { made = refl; small = lit< tt }
known Ldc = record { made = refl; small = lit< tt }
known (Push a) = record { made = refl; small = lit< tt }
known (Pop a) = record { made = refl; small = lit< tt }
known (Xch_d9 a) = record { made = refl; small = lit< tt }
known (Xch_Ri a) = record { made = refl; small = lit< tt }
known (Jmp a) = record { made = refl; small = lit< tt }
known (Jmpf a) = record { made = refl; small = lit< tt }
known (Br a) = record { made = refl; small = lit< tt }
known (Brf a) = record { made = refl; small = lit< tt }
known (Bz a) = record { made = refl; small = lit< tt }
known (Bnz a) = record { made = refl; small = lit< tt }
known (Bp a b c) = record { made = refl; small = lit< tt }
known (Bpc a b c) = record { made = refl; small = lit< tt }
known (Bn a b c) = record { made = refl; small = lit< tt }
known (Dbnz_d9 a b) = record { made = refl; small = lit< tt }
known (Dbnz_Ri a b) = record { made = refl; small = lit< tt }
known (Be_i8 a b) = record { made = refl; small = lit< tt }
known (Be_d9 a b) = record { made = refl; small = lit< tt }
known (Be_Rj a b c) = record { made = refl; small = lit< tt }
known (Bne_i8 a b) = record { made = refl; small = lit< tt }
known (Bne_d9 a b) = record { made = refl; small = lit< tt }
known (Bne_Rj a b c) = record { made = refl; small = lit< tt }
known (Call a) = record { made = refl; small = lit< tt }
known (Callf a) = record { made = refl; small = lit< tt }
known (Callr a) = record { made = refl; small = lit< tt }
known Ret = record { made = refl; small = lit< tt }
known Reti = record { made = refl; small = lit< tt }
known (Clr1 a b) = record { made = refl; small = lit< tt }
known (Set1 a b) = record { made = refl; small = lit< tt }
known (Not1 a b) = record { made = refl; small = lit< tt }
known Nop = record { made = refl; small = lit< tt }
known Ldf = record { made = refl; small = lit< tt }
known Stf = record { made = refl; small = lit< tt }

pub form_small : (i : Instr) {v : Parts} → v ≡ parts_of i → v.form < 70
form_small i e = subst (λ (u : Parts). u.form < 70) (sym e) (known i).small
