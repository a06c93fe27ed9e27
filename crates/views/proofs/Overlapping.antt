-- Overlaps at a position: what the code takes, in its order.
-- Assumes nothing.
use mathlib.Core.Path.{◌≡◌, sym, ap, ◌∙◌}
use mathlib.Core.Bool.{Bool, true, false}
use mathlib.Core.List.{List, [], ◌++◌, append-nil, append_assoc}
use Prim.Native.Nat.{ℕ, ◌+◌, ◌-◌, ◌<◌, ◌≤◌}
use native.Mathlib.Omega.{arith}
use lib.Dec.{leb}
use lib.ListN.{length}
use borrow.Author.Tests.{le-leb, lt-leb}
use Rattle.targets.specs.At.{size_here}
use Rattle.instruction.proofs.Ands.{not_second}
use Rattle.views.specs.Positions.{up_from, kept, traced_at}
use Rattle.views.proofs.Kept.{taken, kept_none, kept_one, kept_two}
use Rattle.views.specs.Overlaps.{from_before, overlaps_of}

module _ (image m : List ℕ) (p : ℕ) where
  pub past_limit : 65536 < length image → [] ≡ overlaps_of image m p
  unfolding overlaps_of
  past_limit h = rw (lt-leb (length image) 65536 h)

  pub untraced : traced_at image m p ≡ false → [] ≡ overlaps_of image m p
  unfolding overlaps_of
  untraced e = rw (not_second (leb (length image) 65536) (traced_at image m p) e)

  module _ (fits : length image ≤ 65536) (t : traced_at image m p ≡ true) (s : ℕ) (size : s ≡ size_here image p) (o : List ℕ)
      (e : o ≡ taken (from_before image m p) (p - 1)) where
    all : (l : List ℕ) → kept (traced_at image m) (up_from (s - 1) (p + 1)) ≡ l → o ++ l ≡ overlaps_of image m p
    unfolding overlaps_of
    all l k = rw (le-leb (length image) 65536 fits, t, ← size, ← e, k)

    pub one_byte : s < 2 → o ≡ overlaps_of image m p
    one_byte h = sym (append-nil o) ∙ all [] (kept_none (traced_at image m) (s - 1) (p + 1) (omega arith))

    module _ (a : List ℕ) (u : Bool) (f : a ≡ o ++ taken u (p + 1)) (g : u ≡ traced_at image m (p + 1)) where
      pub two_bytes : 2 ≤ s → s < 3 → a ≡ overlaps_of image m p
      two_bytes h k =
          f ∙ all (taken u (p + 1)) (kept_one (traced_at image m) (s - 1) (p + 1) (omega arith) ∙ ap (λ (b : Bool). taken b (p + 1)) (sym g))

      pub three_bytes : 3 ≤ s → s < 4 → (b : List ℕ) (v : Bool) → b ≡ a ++ taken v (p + 2) → v ≡ traced_at image m (p + 2) → b ≡ overlaps_of image m p
      three_bytes h k b v i j =
          let n : (p + 1) + 1 ≡ p + 2 = omega arith in
          i ∙ ap (λ (l : List ℕ). l ++ taken v (p + 2)) f ∙ append_assoc o _ _
          ∙ all (taken u (p + 1) ++ taken v (p + 2)) (kept_two (traced_at image m) (s - 1) (p + 1) (omega arith) ∙ rw (n, ← g, ← j))
