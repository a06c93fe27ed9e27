-- A position taken up, in the marks and in an order list: without the exception its targets are noted, under it only its mark changes.
-- Assumes nothing.
use Prim.Native.Nat.{ℕ, ◌+◌}
use native.Mathlib.Omega.{arith}
use mathlib.Core.Path.{◌≡◌, sym, ap, ◌∙◌}
use mathlib.Core.Bool.{true, false}
use mathlib.Core.List.{List}
use lib.ListN.{length, set}
use lib.Seq.{sets}
use Rattle.reach.specs.Mark.{traced, flash}
use Rattle.reach.specs.Tracer.{Tracer}
use Rattle.reach.specs.Queue.{Noted, TakenInOrder}
use Rattle.reach.proofs.Exempt.{took_plain, found_plain, took_exempt, found_exempt}

module _ {G : Tracer} {p : ℕ} {m o : List ℕ} {tail : ℕ} where
  pub taken_plain : {m' o' : List ℕ} {tail' : ℕ} → G.exempt m p ≡ false → Noted G.size (G.ways p) (set m p traced) o tail m' o' tail'
      → TakenInOrder G p m o tail m' o' tail'
  taken_plain e N = record {
    marks_are = N.marks_are ∙ sym (took_plain G m p e);
    order_is = N.order_is ∙ ap (sets o tail) (sym (found_plain G m p e));
    tail_is = N.tail_is ∙ ap (λ (l : List ℕ). tail + length l) (sym (found_plain G m p e));
  }

  pub taken_exempt : G.exempt m p ≡ true → TakenInOrder G p m o tail (set m p flash) o tail
  taken_exempt e = record {
    marks_are = sym (took_exempt G m p e);
    order_is = ap (sets o tail) (sym (found_exempt G m p e));
    tail_is = omega (arith, ap length (found_exempt G m p e));
  }
