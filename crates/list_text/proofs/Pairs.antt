-- A line of image bytes, judged.
-- Assumes nothing.
use mathlib.Core.Path.{◌≡◌, refl, sym, ◌∙◌}
use mathlib.Core.Bool.{Bool, true, false}
use mathlib.Core.List.{List}
use Prim.Native.Nat.{ℕ, ◌/◌, ◌≤◌}
use native.Mathlib.Omega.{arith}
use lib.ListN.{length}
use Rattle.std.specs.Prelude.{Option, Some, None}
use Rattle.std.proofs.lemmas.Option.{cond_some}
use Rattle.text.specs.Bytes.{bytes_of, is_bytes}
use Rattle.text.proofs.Pairs.{pairs, bytes_parts}
use Rattle.list_text.specs.Bytes.{bytes_line}

module _ (l : List ℕ) where
  pub bad : is_bytes 32 l ≡ false → None ≡ bytes_line l
  unfolding bytes_line
  bad e = rw e

  pub good : is_bytes 32 l ≡ true → (n : ℕ) → n ≡ length l / 2 → Some n ≡ bytes_line l
  unfolding bytes_line
  good e n h = rw (e, pairs l n h)

-- what a judged line tells
pub bad_line : (l : List ℕ) → bytes_line l ≡ None → is_bytes 32 l ≡ false
unfolding bytes_line
bad_line l e = by (is_bytes 32 l) refl
  where
    by : (b : Bool) → is_bytes 32 l ≡ b → is_bytes 32 l ≡ false
    by true f = let g : Some (length (bytes_of l)) ≡ None = rw f at e in cc
    by false f = f

pub good_line : (l : List ℕ) (n : ℕ) → bytes_line l ≡ Some n → (is_bytes 32 l ≡ true) × (length (bytes_of l) ≡ n)
unfolding bytes_line
good_line l n e = cond_some (is_bytes 32 l) (length (bytes_of l)) n e

-- a good line is not longer than 32 bytes
pub small_line : (l : List ℕ) (r : Option ℕ) → r ≡ bytes_line l → (m : ℕ) → r ≡ Some m → m ≤ 32
small_line l r e m g =
    let w = good_line l m (sym e ∙ g) in
    omega (arith, w.1, (bytes_parts 32 l w.0).2)
