-- The entries that are listed from.
-- Assumes nothing.
use mathlib.Core.Path.{◌≡◌, sym, ap, ◌∙◌}
use mathlib.Core.Bool.{Bool, cond}
use mathlib.Core.List.{List}
use Prim.Native.Nat.{ℕ, ◌≤◌}
use lib.ListN.{length, take}
use lib.Seq.{length-take-le}
use borrow.Author.Tests.{ne_eqb}
use Rattle.dis_text.specs.Output.{game_entries, entries_for}

module _ (k : ℕ) (es : List ℕ) where
  pub none_asked : k ≡ 0 → entries_for (take k es) ≡ game_entries
  none_asked e = rw e

  pub some_asked : k ≤ length es → (k ≡ 0 → ⊥) → entries_for (take k es) ≡ take k es
  some_asked h n =
      let l = length-take-le k es h in
      ap (λ (t : Bool). cond t game_entries (take k es)) (ne_eqb (length (take k es)) 0 (λ e. n (sym l ∙ e)))
