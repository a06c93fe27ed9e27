-- Start makes as many positions wait as stand among the entries and not among the pins. Assumes nothing.
use Prim.Native.Nat.{ℕ, ◌<◌, ◌≤◌}
use native.Mathlib.Omega.{arith}
use mathlib.Core.Bool.{Bool, true, false, not, ◌&&◌}
use mathlib.Core.Path.{◌≡◌}
use mathlib.Core.Logic.{◌⊎◌, inl, inr}
use mathlib.Core.List.{List}
use lib.ListN.{length, get_or, take}
use lib.Dec.{eqb}
use borrow.Author.Tests.{ne_eqb}
use Rattle.reach.specs.HowMany.{how_many, is_among}
use Rattle.reach.specs.Mark.{waiting, count}
use Rattle.reach.specs.Note.{note, fresh}
use Rattle.reach.specs.Pins.{pinned, table}
use Rattle.reach.proofs.Cases.{yes_or_no, not_both}
use Rattle.reach.proofs.Count.{count_none}
use Rattle.reach.proofs.FreshCount.{count_note}
use Rattle.reach.proofs.HowMany.{many_same, many_marks}
use Rattle.reach.proofs.IsAmong.{among_test}
use Rattle.reach.proofs.Note.{length_note}
use Rattle.reach.proofs.NoteAt.{Noticed, as_before, newly, noticed}
use Rattle.reach.proofs.Table.{length_table, table_at, table_pinned, table_only}

module _ (n : ℕ) (entries pins m : List ℕ) (l : n ≤ length m) where
  abbrev base : List ℕ
  base = table n pins m

  abbrev begun : List ℕ
  begun = note n entries base

  base_long : n ≤ length base
  base_long = omega (arith, length_table n pins m l)

  -- nothing waits in the table
  unmarked : (q : ℕ) → q < n → eqb (get_or base q 0) waiting ≡ false
  unmarked q h = by (table_at n pins m q l h)
    where
      by : (get_or base q 0 ≡ 0) ⊎ (get_or base q 0 ≡ pinned) → eqb (get_or base q 0) waiting ≡ false
      by (inl e) = ne_eqb (get_or base q 0) 1 (λ f. omega arith)
      by (inr e) = ne_eqb (get_or base q 0) 1 (λ f. omega arith)

  -- a position that is not pinned is open
  clear : (q : ℕ) → q < n → is_among q pins ≡ false → get_or base q 0 ≡ 0
  clear q h b = by (table_at n pins m q l h)
    where
      by : (get_or base q 0 ≡ 0) ⊎ (get_or base q 0 ≡ pinned) → get_or base q 0 ≡ 0
      by (inl e) = e
      by (inr e) = absurd (not_both ((among_test q pins).1 (table_only n pins m q l h e)) b)

  -- what waits after the entries were noted
  waits : (q : ℕ) → q < n → eqb (get_or begun q 0) waiting ≡ (is_among q entries && not (is_among q pins))
  waits q h = by (noticed n entries base q base_long) (yes_or_no (is_among q entries)) (yes_or_no (is_among q pins))
    where
      by : Noticed n entries base q → (is_among q entries ≡ true) ⊎ (is_among q entries ≡ false) → (is_among q pins ≡ true) ⊎ (is_among q pins ≡ false)
          → eqb (get_or begun q 0) waiting ≡ (is_among q entries && not (is_among q pins))
      by (as_before f e) (inl a) (inl b) = rw (e, a, b) (unmarked q h)
      by (as_before f e) (inl a) (inr b) = absurd (f ((among_test q entries).0 a) (record { inside = h; clear = clear q h b }))
      by (as_before f e) (inr a) b = rw (e, a) (unmarked q h)
      by (newly i o e) (inl a) (inl b) =
          absurd (let x = table_pinned n pins m q l h ((among_test q pins).0 b) in let y = o.clear in omega arith)
      by (newly i o e) (inl a) (inr b) = rw (e, a, b)
      by (newly i o e) (inr a) b = absurd (not_both ((among_test q entries).1 i) a)

  pub fresh_distinct : length (fresh n entries base) ≡ how_many (λ (q : ℕ). is_among q entries && not (is_among q pins)) n 0
  fresh_distinct =
      let f : ℕ → Bool = λ (v : ℕ). eqb v waiting in
      let a = count_note f n entries base base_long in
      let b : count f (take n base) ≡ 0 = count_none f n base unmarked base_long in
      let c : count f (take n begun) ≡ how_many (λ (q : ℕ). f (get_or begun q 0)) n 0 =
      many_marks f n begun (omega (arith, length_note n entries base, base_long)) in
      let d = many_same (λ (q : ℕ). f (get_or begun q 0)) (λ (q : ℕ). is_among q entries && not (is_among q pins)) n 0 (λ q x y. waits q (omega arith)) in
      omega (arith, a, b, c, d)
