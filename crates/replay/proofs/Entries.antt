-- The table of entries: a bit is set exactly where an entry in memory is.
-- Assumes nothing.
use Prim.Native.Nat.{ℕ, suc, ◌+◌, ◌/◌, ◌%◌, ◌<◌, ◌≤◌}
use native.Mathlib.Omega.{arith}
use mathlib.Core.Path.{◌≡◌, refl, sym, ap, ◌∙◌}
use mathlib.Core.Bool.{Bool, true, false, cond}
use mathlib.Core.List.{List}
use lib.Dec.{ltb}
use lib.ListN.{length, get_or, set, drop, length-set, drop_of_length-le}
use lib.Seq.{drop-cons}
use borrow.Author.Tests.{lt-ltb, le-ltb}
use Rattle.map.specs.Bits.{with_ones}
use Rattle.map.specs.Packed.{with_code}
use Rattle.replay.specs.Entry.{with_entry, with_entries}

pub entry_length : (q : ℕ) (ws : List ℕ) → length (with_entry q ws) ≡ length ws
unfolding with_code
entry_length q ws = by (ltb q 65536)
  where
    by : (b : Bool) → length (cond b (with_code ws q) ws) ≡ length ws
    by true = length-set ws (q / 64) _
    by false = refl

pub entry_outside : (q : ℕ) (ws : List ℕ) → 65536 ≤ q → ws ≡ with_entry q ws
entry_outside q ws h = rw (le-ltb q 65536 h) refl

pub entry_inside : (q w : ℕ) (ws : List ℕ) → q < 65536 → w ≡ with_ones (get_or ws (q / 64) 0) (q % 64) (q % 64 + 1) → set ws (q / 64) w ≡ with_entry q ws
unfolding with_code
entry_inside q w ws h e = rw (lt-ltb q 65536 h, e) refl

-- what is left to enter
pub Enters : List ℕ → List ℕ → ℕ → List ℕ → Type 0
Enters entries ws i t = with_entries (drop i entries) ws ≡ t

pub enters_start : (entries ws : List ℕ) → Enters entries ws 0 (with_entries entries ws)
unfolding Enters
enters_start entries ws = refl

pub enters_next : (entries ws t : List ℕ) (i : ℕ) → i < length entries → Enters entries ws i t → Enters entries (with_entry (get_or entries i 0) ws) (i + 1) t
unfolding Enters with_entries
enters_next entries ws t i h e =
    ap (λ (j : ℕ). with_entries (drop j entries) (with_entry (get_or entries i 0) ws)) (let g : i + 1 ≡ suc i = omega arith in g)
    ∙ sym (ap (λ (l : List ℕ). with_entries l ws) (drop-cons entries i 0 h)) ∙ e

pub enters_end : (entries ws t : List ℕ) (i : ℕ) → length entries ≤ i → Enters entries ws i t → ws ≡ t
unfolding Enters with_entries
enters_end entries ws t i h e = sym (ap (λ (l : List ℕ). with_entries l ws) (drop_of_length-le entries h)) ∙ e
