-- What a shape writes it reads again: numbers x, y and z that fit their fields are read out of the bytes that they filled, whatever follows.
-- Assumes nothing.
use mathlib.Core.Path.{◌≡◌, refl, ap}
use mathlib.Core.List.{List, ◌++◌}
use Prim.Native.Nat.{ℕ, ◌+◌}
use native.Mathlib.Omega.{arith}
use lib.IntN.{pos}
use lib.ListN.{length, take, get_or}
use Rattle.instruction.specs.Code.{short_of}
use Rattle.instruction.specs.Kinds.{kinds_of}
use Rattle.instruction.specs.declared.kind.Shape.{Shape}
use Rattle.instruction.specs.declared.kind.Shape.TheVariants.{Bare, Imm, D9, Ri, ImmD9, ImmRi, D9B3, A12, A16, R16, R8, D9B3R8, D9R8, RiR8, ImmR8, RiImmR8}
use Rattle.instruction.proofs.Reading.{make3, formed}
use Rattle.instruction.proofs.FieldReading.{closed}
use Rattle.instruction.specs.Layout.{blank}
use Rattle.instruction.proofs.FieldWriting.{written}
use Rattle.instruction_laws.proofs.Fields.{limit}
use Rattle.instruction_laws.proofs.FirstByte.{held}
use Rattle.instruction_laws.proofs.FreeBits.{nil, byte, bit8, low2, bit8b3, high4}
use Rattle.instruction_laws.proofs.Numbers.{operands, In}

module _ (k t x y z : ℕ) (rest : List ℕ) where
  abbrev pub strung : Shape → List ℕ
  strung s = take (length (blank s)) (written s t x y z) ++ rest

  abbrev first : Shape → ℕ
  first s = get_or (strung s) 0 0

  pub back_by : (s : Shape) → In s x y z → t + held s (first s) ≡ first s → formed k (closed s (first s) (get_or (strung s) 1 0) (get_or (strung s) 2 0))
      ≡ operands s k x y z
  unfolding closed written blank kinds_of limit held
  back_by Bare (a, b, c) e = make3 k (ap pos (nil x a)) (ap pos (nil y b)) (ap pos (nil z c))
  back_by Imm (a, b, c) e = make3 k (ap pos (byte x a)) (ap pos (nil y b)) (ap pos (nil z c))
  back_by D9 (a, b, c) e = make3 k (ap pos (bit8 t _ x a refl e)) (ap pos (nil y b)) (ap pos (nil z c))
  back_by Ri (a, b, c) e = make3 k (ap pos (low2 t _ x a refl e)) (ap pos (nil y b)) (ap pos (nil z c))
  back_by ImmD9 (a, b, c) e = make3 k (ap pos (byte x a)) (ap pos (bit8 t _ y b refl e)) (ap pos (nil z c))
  back_by ImmRi (a, b, c) e = make3 k (ap pos (byte x a)) (ap pos (low2 t _ y b refl e)) (ap pos (nil z c))
  back_by D9B3 (a, b, c) e = let r = bit8b3 t _ x y a b refl e in make3 k (ap pos r.0) (ap pos r.1) (ap pos (nil z c))
  back_by A12 (a, b, c) e = make3 k (ap pos (high4 t _ x a refl e)) (ap pos (nil y b)) (ap pos (nil z c))
  back_by A16 (a, b, c) e = make3 k (ap pos (omega arith)) (ap pos (nil y b)) (ap pos (nil z c))
  back_by R16 (a, b, c) e = make3 k (ap pos (omega arith)) (ap pos (nil y b)) (ap pos (nil z c))
  back_by R8 (a, b, c) e = make3 k (ap short_of (byte x a)) (ap pos (nil y b)) (ap pos (nil z c))
  back_by D9B3R8 (a, b, c) e = let r = bit8b3 t _ x y a b refl e in make3 k (ap pos r.0) (ap pos r.1) (ap short_of (byte z c))
  back_by D9R8 (a, b, c) e = make3 k (ap pos (bit8 t _ x a refl e)) (ap short_of (byte y b)) (ap pos (nil z c))
  back_by RiR8 (a, b, c) e = make3 k (ap pos (low2 t _ x a refl e)) (ap short_of (byte y b)) (ap pos (nil z c))
  back_by ImmR8 (a, b, c) e = make3 k (ap pos (byte x a)) (ap short_of (byte y b)) (ap pos (nil z c))
  back_by RiImmR8 (a, b, c) e = make3 k (ap pos (low2 t _ x a refl e)) (ap pos (byte y b)) (ap short_of (byte z c))
