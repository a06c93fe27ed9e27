-- `rooms::first` meets its contract.
-- Assumes nothing.
use Rattle.std.proofs.Common.{◌≡◌, ◌∙◌, ℕ, min, Bool, true, false, List, length, take, refl, sym, ap, arith}
use borrow.Author.Tests.{ltb-true, ltb-false}
use lib.Dec.{ltb}
use lib.Seq.{take_all}
use Rattle.unlist_text.proofs.rooms.first.Goals as goal

few : (n : ℕ) (l : List ℕ) (b : Bool) → ltb n (length l) ≡ b → take (min n (length l)) l ≡ take n l
few n l true e = let h = ltb-true n (length l) e in ap (λ (k : ℕ). take k l) (let g : min n (length l) ≡ n = omega arith in g)
few n l false e = let h = ltb-false n (length l) e in take_all (min n (length l)) l (omega arith) ∙ sym (take_all n l h)

pub returns : goal.returns
returns c = let a = c.args in ap (λ (k : ℕ). take k a.bytes.now) c.min.ensures ∙ few a.n a.bytes.now _ refl
