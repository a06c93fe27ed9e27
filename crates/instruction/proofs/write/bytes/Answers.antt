-- `write::bytes` meets its contract: each arm has the closed form of its operands.
-- Assumes nothing.
use Rattle.std.proofs.Common.{◌≡◌, ℕ, List, [], ◌∷◌, length, take, refl}
use Rattle.instruction.specs.Layout.{blank, bytes_by}
use Rattle.instruction.specs.declared.kind.Shape.{Shape}
use Rattle.instruction.specs.declared.kind.Shape.TheVariants.{Bare, Imm, D9, Ri, ImmD9, ImmRi, D9B3, A12, A16, R16, R8, D9B3R8, D9R8, RiR8, ImmR8}
use Rattle.instruction.specs.declared.kind.Shape.TheVariants.{RiImmR8}
use Rattle.instruction.proofs.FieldWriting.{written, write}
use Rattle.instruction.proofs.write.bytes.Goals as goal

three : {u u' v v' w w' : ℕ} → u ≡ u' → v ≡ v' → w ≡ w' → u ∷ v ∷ w ∷ [] ≡ u' ∷ v' ∷ w' ∷ []
three p q r = cc

told : (shape : Shape) (fixed x y z : ℕ) (s : Shape) → shape ≡ s → (l : List ℕ) → l ≡ written s fixed x y z
    → take (length (blank shape)) l ≡ bytes_by fixed shape (x ∷ y ∷ z ∷ [])
told shape fixed x y z s e l g = rw (e, g) (write s fixed x y z)

pub returns-in-Bare : goal.returns-in-Bare
unfolding written
returns-in-Bare c =
    let a = c.args in told a.shape a.fixed a.x a.y a.z Bare c.in-Bare.is _ (three c.low.ensures refl refl)

pub returns-in-Imm : goal.returns-in-Imm
unfolding written
returns-in-Imm c =
    let a = c.args in told a.shape a.fixed a.x a.y a.z Imm c.in-Imm.is _ (three c.low-in-Imm.ensures c.low-in-Imm-2.ensures refl)

pub returns-in-D9 : goal.returns-in-D9
unfolding written
returns-in-D9 c =
    let a = c.args in told a.shape a.fixed a.x a.y a.z D9 c.in-D9.is _ (three c.low-in-D9.ensures c.low-in-D9-2.ensures refl)

pub returns-in-Ri : goal.returns-in-Ri
unfolding written
returns-in-Ri c =
    let a = c.args in told a.shape a.fixed a.x a.y a.z Ri c.in-Ri.is _ (three c.low-in-Ri.ensures refl refl)

pub returns-in-ImmD9 : goal.returns-in-ImmD9
unfolding written
returns-in-ImmD9 c =
    let a = c.args in told a.shape a.fixed a.x a.y a.z ImmD9 c.in-ImmD9.is _ (three c.low-in-ImmD9.ensures c.low-in-ImmD9-2.ensures c.low-in-ImmD9-3.ensures)

pub returns-in-ImmRi : goal.returns-in-ImmRi
unfolding written
returns-in-ImmRi c =
    let a = c.args in told a.shape a.fixed a.x a.y a.z ImmRi c.in-ImmRi.is _ (three c.low-in-ImmRi.ensures c.low-in-ImmRi-2.ensures refl)

pub returns-in-D9B3 : goal.returns-in-D9B3
unfolding written
returns-in-D9B3 c =
    let a = c.args in told a.shape a.fixed a.x a.y a.z D9B3 c.in-D9B3.is _ (three c.low-in-D9B3.ensures c.low-in-D9B3-2.ensures refl)

pub returns-in-A12 : goal.returns-in-A12
unfolding written
returns-in-A12 c =
    let a = c.args in told a.shape a.fixed a.x a.y a.z A12 c.in-A12.is _ (three c.low-in-A12.ensures c.low-in-A12-2.ensures refl)

pub returns-in-A16 : goal.returns-in-A16
unfolding written
returns-in-A16 c =
    let a = c.args in told a.shape a.fixed a.x a.y a.z A16 c.in-A16.is _ (three c.low-in-A16.ensures c.low-in-A16-2.ensures c.low-in-A16-3.ensures)

pub returns-in-R16 : goal.returns-in-R16
unfolding written
returns-in-R16 c =
    let a = c.args in told a.shape a.fixed a.x a.y a.z R16 c.in-R16.is _ (three c.low-in-R16.ensures c.low-in-R16-2.ensures c.low-in-R16-3.ensures)

pub returns-in-R8 : goal.returns-in-R8
unfolding written
returns-in-R8 c =
    let a = c.args in told a.shape a.fixed a.x a.y a.z R8 c.in-R8.is _ (three c.low-in-R8.ensures c.low-in-R8-2.ensures refl)

pub returns-in-D9B3R8 : goal.returns-in-D9B3R8
unfolding written
returns-in-D9B3R8 c =
    let a = c.args in told a.shape a.fixed a.x a.y a.z D9B3R8 c.in-D9B3R8.is _ (three c.low-in-D9B3R8.ensures c.low-in-D9B3R8-2.ensures c.low-in-D9B3R8-3.ensures)

pub returns-in-D9R8 : goal.returns-in-D9R8
unfolding written
returns-in-D9R8 c =
    let a = c.args in told a.shape a.fixed a.x a.y a.z D9R8 c.in-D9R8.is _ (three c.low-in-D9R8.ensures c.low-in-D9R8-2.ensures c.low-in-D9R8-3.ensures)

pub returns-in-RiR8 : goal.returns-in-RiR8
unfolding written
returns-in-RiR8 c =
    let a = c.args in told a.shape a.fixed a.x a.y a.z RiR8 c.in-RiR8.is _ (three c.low-in-RiR8.ensures c.low-in-RiR8-2.ensures refl)

pub returns-in-ImmR8 : goal.returns-in-ImmR8
unfolding written
returns-in-ImmR8 c =
    let a = c.args in told a.shape a.fixed a.x a.y a.z ImmR8 c.in-ImmR8.is _ (three c.low-in-ImmR8.ensures c.low-in-ImmR8-2.ensures c.low-in-ImmR8-3.ensures)

pub returns-in-RiImmR8 : goal.returns-in-RiImmR8
unfolding written
returns-in-RiImmR8 c =
    let a = c.args in told a.shape a.fixed a.x a.y a.z RiImmR8 c.in-RiImmR8.is _ (three c.low-in-RiImmR8.ensures c.low-in-RiImmR8-2.ensures c.low-in-RiImmR8-3.ensures)
