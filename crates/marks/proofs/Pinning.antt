-- One position pinned more, in its turn.
-- Assumes nothing.
use mathlib.Core.Path.{◌≡◌, ap, sym, ◌∙◌}
use mathlib.Core.Bool.{Bool, true, false, cond}
use mathlib.Core.List.{List}
use Prim.Native.Nat.{ℕ, ◌+◌, ◌<◌, ◌≤◌}
use lib.Dec.{ltb}
use lib.ListN.{length, get_or, set, take}
use borrow.Author.Tests.{lt-ltb, le-ltb}
use Rattle.reach.specs.Pins.{pinned, pin}
use Rattle.reach.proofs.Table.{pin_one, pin_next}

module _ (n : ℕ) (qs m₀ m : List ℕ) (i : ℕ) (h : i < length qs) (e : m ≡ pin n (take i qs) m₀) where
  abbrev q : ℕ
  q = get_or qs i 0

  next : (b : Bool) → ltb q n ≡ b → (m' : List ℕ) → m' ≡ cond b (set m q pinned) m → m' ≡ pin n (take (i + 1) qs) m₀
  next b f m' g = g ∙ sym (ap (λ (b : Bool). cond b (set m q pinned) m) f) ∙ ap (pin_one n q) e ∙ sym (pin_next n qs m₀ i h)

  pub one_pinned : q < n → (m' : List ℕ) → m' ≡ set m q pinned → m' ≡ pin n (take (i + 1) qs) m₀
  one_pinned k m' g = next true (lt-ltb q n k) m' g

  pub none_pinned : n ≤ q → (m' : List ℕ) → m' ≡ m → m' ≡ pin n (take (i + 1) qs) m₀
  none_pinned k m' g = next false (le-ltb q n k) m' g
