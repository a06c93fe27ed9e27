-- Four digits, each by itself.
-- Assumes nothing.
use Rattle.std.proofs.Common.{◌≡◌, ℕ, ◌/◌, List, [], ◌∷◌}
use Rattle.text.proofs.Putting.{puts_as}
use Rattle.listing.specs.Hex.{hex1, hex2, hex3, hex4}
use Rattle.dis_text.proofs.message.put_position.Goals as goal

four : (x y z w p : ℕ) → x ≡ hex1 (p / 4096) → y ≡ hex1 (p / 256) → z ≡ hex1 (p / 16) → w ≡ hex1 p → x ∷ y ∷ z ∷ w ∷ [] ≡ hex4 p
unfolding hex2 hex3 hex4
four x y z w p e f g h = rw (e, f, g, h)

pub returns : goal.returns
returns c = puts_as (four _ _ _ _ _ c.hex1.ensures c.hex1-2.ensures c.hex1-3.ensures c.hex1-4.ensures) c.put.ensures
