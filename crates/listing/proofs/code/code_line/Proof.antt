-- `code::code_line` meets its contract.
-- Assumes nothing.
use mathlib.Core.Path.{◌≡◌}
use mathlib.Core.List.{List}
use Prim.Native.Nat.{ℕ, ◌<◌}
use native.Mathlib.Omega.{arith}
use borrow.Author.Rules.{rules}
use Rattle.targets.specs.At.{size_here}
use Rattle.targets.proofs.Within.{Small, size_short}
use Rattle.text.proofs.Putting.{puts_as, puts_none}
use Rattle.listing.proofs.Opened.{none_alone, text_alone}
use Rattle.listing.proofs.code.code_line.Statement.{statement}
use Rattle.listing.proofs.code.code_line.Tie as tie

abbrev start : tie.After-size_at → tie.Start
start z = z.before.before.before

abbrev bytes : tie.After-size_at → List ℕ
bytes z = (start z).args.bytes.now

all : (z : tie.After-size_at) → Small (bytes z)
all z n = (z.shared_slice_known-1.given n).fits

size : (z : tie.After-size_at) → z.size_at.result ≡ size_here (bytes z) 0
size z = z.size_at.ensures

wide : (s : tie.Start) → s.args.p < 4294967296
wide s = search rules

add-next : tie.Need-overflow_add-next
add-next c = record { fits = omega (arith, size c, (size_short (bytes c) 0 (all c)).1, wide (start c)) }

returns : tie.Need-returns-then-next
returns c =
    let z = c.before in
    let a = (start z).args in
    puts_as (none_alone a.mode a.p (bytes z) (all z) (omega (arith, size z, c.if-next.true))) (puts_none _ _)

returns-2 : tie.Need-returns
returns-2 c =
    let k = c.before.before in
    let e = k.before.before in
    let z = e.before in
    let a = (start z).args in
    puts_as (text_alone a.mode a.p (bytes z) (all z) (omega (arith, size z, e.if-next.false))) k.put_instr.ensures.0

pub code_line_spec : {M : Type 1} → statement M
code_line_spec =
    tie.close
    (tie.spec (λ c κs. search rules) (λ c. search rules) add-next (λ c. search rules) returns (λ c κs. search rules) (λ c. search rules) returns-2)
