-- `print::list_asked` meets its contract.
-- Assumes nothing.
use mathlib.Core.Path.{◌≡◌, sym, ap, ◌∙◌}
use mathlib.Core.List.{List}
use Prim.Native.Nat.{ℕ, ◌≤◌}
use native.Mathlib.Omega.{arith}
use borrow.Author.Rules.{rules}
use lib.ListN.{length, take}
use lib.Seq.{length-take-le}
use Rattle.instruction.specs.Answer.{Answer}
use Rattle.list_text.specs.Output.{traced_with}
use Rattle.dis_text.specs.Output.{entries_for}
use Rattle.dis_text.proofs.AskedEntries.{none_asked, some_asked}
use Rattle.dis_text.proofs.Shows.{shown_as}
use Rattle.dis_text.proofs.print.list_asked.Statement.{statement}
use Rattle.dis_text.proofs.print.list_asked.Tie as tie

-- as many as there are
entries_in_lem : (s : tie.Start) → s.args.asked.entries ≤ length s.args.entries.now
entries_in_lem s = omega (arith, s.requires.0, s.requires.2.0)

pins_in : (s : tie.Start) → s.args.asked.pins ≤ length s.args.pins.now
pins_in s = omega (arith, s.requires.1, s.requires.2.1)

entries_long : (s : tie.Start) → s.args.asked.entries ≡ length (take s.args.asked.entries s.args.entries.now)
entries_long s = sym (length-take-le _ _ (entries_in_lem s))

pins_long : (s : tie.Start) → s.args.asked.pins ≡ length (take s.args.asked.pins s.args.pins.now)
pins_long s = sym (length-take-le _ _ (pins_in s))

-- from these entries
abbrev from : tie.Start → List ℕ → Answer (List ℕ)
from s es =
    let a = s.args in
    traced_with a.asked.mode a.image.now es (take a.asked.pins a.pins.now) a.asked.arrivals

abbrev asked : tie.Start → List ℕ
asked s = entries_for (take s.args.asked.entries s.args.entries.now)

returns : tie.Need-returns-then-k-eq0
returns c =
    let w = c.before.before in
    let g = w.before.before.before in
    let s = g.before.before.before.before.before.before in
    let a = s.args in
    shown_as (from s (asked s)) _ (ap (from s) (none_asked a.asked.entries a.entries.now g.if-k-eq0.true ∙ sym g.game_entries-game.ensures))
    a.room.now _ _ w.list_image.ensures

returns-2 : tie.Need-returns
returns-2 c =
    let w = c.before.before in
    let e = w.before.before in
    let s = e.before.before.before.before.before in
    let a = s.args in
    shown_as (from s (asked s)) _ (ap (from s) (some_asked a.asked.entries a.entries.now (entries_in_lem s) w.if-k-eq0.false)) a.room.now _ _
    w.list_image-2.ensures

pub list_asked_spec : {M : Type 1} → statement M
list_asked_spec =
    tie.close
    (tie.spec (λ c κs. search rules) (λ c. search rules) (λ c. pins_long c.before.before.before.before.before.before.before)
    (λ c κs. search rules)
    (λ c. search rules) returns (λ c. entries_long c.before.before.before.before.before)
    (λ c. pins_long c.before.before.before.before.before)
    (λ c κs. search rules) (λ c. search rules) returns-2)
