-- What a shape reads it writes again: the numbers that the bytes x, p and q hold fit their fields, and fill the pattern with those bytes.
-- Assumes nothing.
use mathlib.Core.Path.{◌≡◌, refl}
use mathlib.Core.List.{[], ◌∷◌}
use Prim.Native.Nat.{ℕ, ◌+◌, ◌*◌, ◌/◌, ◌%◌, ◌<◌}
use native.Mathlib.Omega.{arith}
use lib.ListN.{length, take}
use Rattle.instruction.specs.Kinds.{kinds_of}
use Rattle.instruction.specs.declared.kind.Shape.{Shape}
use Rattle.instruction.specs.declared.kind.Shape.TheVariants.{Bare, Imm, D9, Ri, ImmD9, ImmRi, D9B3, A12, A16, R16, R8, D9B3R8, D9R8, RiR8, ImmR8, RiImmR8}
use Rattle.instruction.proofs.FieldReading.{closed}
use Rattle.instruction.proofs.FieldWriting.{cons}
use Rattle.instruction.proofs.Reading.{formed}
use Rattle.instruction.specs.Layout.{blank}
use Rattle.instruction.proofs.FieldWriting.{written}
use Rattle.instruction_laws.proofs.Fields.{limit}
use Rattle.instruction_laws.proofs.FirstByte.{held}
use Rattle.instruction_laws.proofs.FreeBits.{again_nine, again_twelve}
use Rattle.instruction_laws.proofs.Numbers.{operands, In}

pub record Read (s : Shape) (k t x p q : ℕ) : Type 0 where
  pub a : ℕ
  pub b : ℕ
  pub c : ℕ
  pub reads : formed k (closed s x p q) ≡ operands s k a b c
  pub fit : In s a b c
  pub bytes : take (length (blank s)) (written s t a b c) ≡ take (length (blank s)) (x ∷ p ∷ q ∷ [])

module _ (k t x p q : ℕ) (hx : x < 256) (hp : p < 256) (hq : q < 256) where
  pub read_by : (s : Shape) → t + held s x ≡ x → Read s k t x p q
  unfolding closed written blank kinds_of limit held
  read_by Bare e = record { a = 0; b = 0; c = 0; reads = refl; fit = (omega arith, omega arith, omega arith); bytes = cons (omega arith) refl }
  read_by Imm e = record {
    a = p;
    b = 0;
    c = 0;
    reads = refl;
    fit = (omega arith, omega arith, omega arith);
    bytes = cons (omega arith) (cons (omega arith) refl);
  }
  read_by D9 e = record {
    a = x % 2 * 256 + p;
    b = 0;
    c = 0;
    reads = refl;
    fit = (omega arith, omega arith, omega arith);
    bytes = cons (omega arith) (cons (omega arith) refl);
  }
  read_by Ri e = record { a = x % 4; b = 0; c = 0; reads = refl; fit = (omega arith, omega arith, omega arith); bytes = cons (omega arith) refl }
  read_by ImmD9 e = record {
    a = q;
    b = x % 2 * 256 + p;
    c = 0;
    reads = refl;
    fit = (omega arith, omega arith, omega arith);
    bytes = cons (omega arith) (cons (omega arith) (cons (omega arith) refl));
  }
  read_by ImmRi e = record {
    a = p;
    b = x % 4;
    c = 0;
    reads = refl;
    fit = (omega arith, omega arith, omega arith);
    bytes = cons (omega arith) (cons (omega arith) refl);
  }
  read_by D9B3 e = record {
    a = x / 16 % 2 * 256 + p;
    b = x % 8;
    c = 0;
    reads = refl;
    fit = (omega arith, omega arith, omega arith);
    bytes = cons (again_nine t x p hx hp e) (cons (omega arith) refl);
  }
  read_by A12 e = record {
    a = (x / 16 % 2 * 8 + x % 8) * 256 + p;
    b = 0;
    c = 0;
    reads = refl;
    fit = (omega arith, omega arith, omega arith);
    bytes = cons (again_twelve t x p hx hp e) (cons (omega arith) refl);
  }
  read_by A16 e = record {
    a = p * 256 + q;
    b = 0;
    c = 0;
    reads = refl;
    fit = (omega arith, omega arith, omega arith);
    bytes = cons (omega arith) (cons (omega arith) (cons (omega arith) refl));
  }
  read_by R16 e = record {
    a = q * 256 + p;
    b = 0;
    c = 0;
    reads = refl;
    fit = (omega arith, omega arith, omega arith);
    bytes = cons (omega arith) (cons (omega arith) (cons (omega arith) refl));
  }
  read_by R8 e = record {
    a = p;
    b = 0;
    c = 0;
    reads = refl;
    fit = (omega arith, omega arith, omega arith);
    bytes = cons (omega arith) (cons (omega arith) refl);
  }
  read_by D9B3R8 e = record {
    a = x / 16 % 2 * 256 + p;
    b = x % 8;
    c = q;
    reads = refl;
    fit = (omega arith, omega arith, omega arith);
    bytes = cons (again_nine t x p hx hp e) (cons (omega arith) (cons (omega arith) refl));
  }
  read_by D9R8 e = record {
    a = x % 2 * 256 + p;
    b = q;
    c = 0;
    reads = refl;
    fit = (omega arith, omega arith, omega arith);
    bytes = cons (omega arith) (cons (omega arith) (cons (omega arith) refl));
  }
  read_by RiR8 e = record {
    a = x % 4;
    b = p;
    c = 0;
    reads = refl;
    fit = (omega arith, omega arith, omega arith);
    bytes = cons (omega arith) (cons (omega arith) refl);
  }
  read_by ImmR8 e = record {
    a = p;
    b = q;
    c = 0;
    reads = refl;
    fit = (omega arith, omega arith, omega arith);
    bytes = cons (omega arith) (cons (omega arith) (cons (omega arith) refl));
  }
  read_by RiImmR8 e = record {
    a = x % 4;
    b = p;
    c = q;
    reads = refl;
    fit = (omega arith, omega arith, omega arith);
    bytes = cons (omega arith) (cons (omega arith) (cons (omega arith) refl));
  }
