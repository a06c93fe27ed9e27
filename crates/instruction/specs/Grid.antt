-- Document 01, 'Forms': the table of forms by first byte. A row for each value of the high four bits, and five columns by the low four:
-- 0, 1, 2-3, 4-7, 8-F.
-- Assumes nothing.
use Rattle.std.specs.Prelude.{ℕ, ◌/◌, ◌%◌, cond, List, [], ◌∷◌, get_or, nat_le, slice_index_or}
use Prim.Native.String.{String}
use Rattle.instruction.specs.Forms.{form_named}

unfoldable pub grid : List (List String)
grid =
    ("Nop" ∷ "Br" ∷ "Ld_d9" ∷ "Ld_Ri" ∷ "Call" ∷ []) ∷
    ("Callr" ∷ "Brf" ∷ "St_d9" ∷ "St_Ri" ∷ "Call" ∷ []) ∷
    ("Callf" ∷ "Jmpf" ∷ "Mov_d9" ∷ "Mov_Rj" ∷ "Jmp" ∷ []) ∷
    ("Mul" ∷ "Be_i8" ∷ "Be_d9" ∷ "Be_Rj" ∷ "Jmp" ∷ []) ∷
    ("Div" ∷ "Bne_i8" ∷ "Bne_d9" ∷ "Bne_Rj" ∷ "Bpc" ∷ []) ∷
    ("Ldf" ∷ "Stf" ∷ "Dbnz_d9" ∷ "Dbnz_Ri" ∷ "Bpc" ∷ []) ∷
    ("Push" ∷ "Push" ∷ "Inc_d9" ∷ "Inc_Ri" ∷ "Bp" ∷ []) ∷
    ("Pop" ∷ "Pop" ∷ "Dec_d9" ∷ "Dec_Ri" ∷ "Bp" ∷ []) ∷
    ("Bz" ∷ "Add_i8" ∷ "Add_d9" ∷ "Add_Ri" ∷ "Bn" ∷ []) ∷
    ("Bnz" ∷ "Addc_i8" ∷ "Addc_d9" ∷ "Addc_Ri" ∷ "Bn" ∷ []) ∷
    ("Ret" ∷ "Sub_i8" ∷ "Sub_d9" ∷ "Sub_Ri" ∷ "Not1" ∷ []) ∷
    ("Reti" ∷ "Subc_i8" ∷ "Subc_d9" ∷ "Subc_Ri" ∷ "Not1" ∷ []) ∷
    ("Ror" ∷ "Ldc" ∷ "Xch_d9" ∷ "Xch_Ri" ∷ "Clr1" ∷ []) ∷
    ("Rorc" ∷ "Or_i8" ∷ "Or_d9" ∷ "Or_Ri" ∷ "Clr1" ∷ []) ∷
    ("Rol" ∷ "And_i8" ∷ "And_d9" ∷ "And_Ri" ∷ "Set1" ∷ []) ∷
    ("Rolc" ∷ "Xor_i8" ∷ "Xor_d9" ∷ "Xor_Ri" ∷ "Set1" ∷ []) ∷
    []

-- the number of the form that stands in a row and a column
abbrev pub entry : ℕ → ℕ → ℕ
entry row col = form_named (get_or (slice_index_or grid row []) col "")

abbrev pub column : ℕ → ℕ
column low = cond (nat_le 8 low) 4 (cond (nat_le 4 low) 3 (cond (nat_le 2 low) 2 low))

-- in those of a first byte
unfoldable pub rule_of : ℕ → ℕ
rule_of x = entry (x / 16) (column (x % 16))
