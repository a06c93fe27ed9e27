-- `line::is_code` meets its contract.
-- Assumes nothing.
use mathlib.Core.Path.{◌≡◌, sym, ap, ◌∙◌}
use mathlib.Core.List.{List, [], ◌∷◌, ◌++◌}
use Prim.Native.Nat.{ℕ, ◌+◌, ◌≤◌}
use native.Mathlib.Omega.{arith}
use borrow.Author.Rules.{rules}
use borrow.Author.Tests.{not-true, not-false}
use lib.ListN.{length, drop, length-drop}
use Rattle.instruction.specs.declared.mode.Mode.{Mode}
use Rattle.instruction.proofs.Sign.{never}
use Rattle.targets.proofs.HereIs.{to_end}
use Rattle.text.specs.Bytes.{bytes_of}
use Rattle.text.specs.Hex.{all_hex}
use Rattle.text.specs.Same.{same}
use Rattle.listing.specs.Rest.{code_rest}
use Rattle.read_back.specs.Offsets.{digits_at}
use Rattle.read_back.proofs.CodeRests.{Digits, unprinted, by_rest}
use Rattle.read_back.proofs.Codes.{digits_inside, too_wide, too_short_lem, no_tab_after}
use Rattle.read_back.proofs.Lines.{start_long}
use Rattle.read_back.proofs.line.is_code.Statement.{statement}
use Rattle.read_back.proofs.line.is_code.Tie as tie

returns : tie.Need-returns-then-n-gt-WIDEST
returns c = let a = c.args in too_wide a.mode a.line.now a.p c.if-n-gt-WIDEST.true

abbrev start : tie.Else-n-gt-WIDEST → tie.Start
start e = e.before.before

abbrev mode : tie.Else-n-gt-WIDEST → Mode
mode e = (start e).args.mode

abbrev line : tie.Else-n-gt-WIDEST → List ℕ
line e = (start e).args.line.now

abbrev at : tie.Else-n-gt-WIDEST → ℕ
at e = (start e).args.p

returns-2 : tie.Need-returns-then-n-eq-START
returns-2 c = let e = c.before in too_short_lem (mode e) (line e) (at e) c.if-n-eq-START.true

long : (f : tie.Else-n-eq-START) → 7 ≤ length (line f.before)
long f = let e = f.before in omega (arith, start_long (line e) (start e).requires.0, f.if-n-eq-START.false)

returns-3 : tie.Need-returns-then-line-ne-TAB
returns-3 c =
    let f = c.before.before in
    let e = f.before in
    no_tab_after (mode e) (line e) (at e) (long f) c.if-line-ne-TAB.true

abbrev back : tie.After-digits-d → tie.Else-n-eq-START
back d = d.before.before.before

abbrev from : tie.After-digits-d → tie.Else-n-gt-WIDEST
from d = (back d).before

abbrev got : tie.After-digits-d → List ℕ
got d = d.digits-d.result.now

are : (d : tie.After-digits-d) → got d ≡ digits_at (line (from d))
are d = d.digits-d.ensures

returns-4 : tie.Need-returns-then-k-d
returns-4 c =
    let d = c.before in
    let e = from d in
    unprinted (line e) (long (back d)) (mode e) (at e) (λ p. c.if-k-d.true (rw (are d) p.1))

hex : (h : tie.After-is_hex) → let d = h.before.before in h.is_hex.result ≡ all_hex (digits_at (line (from d)))
hex h = h.is_hex.ensures ∙ ap all_hex (are h.before.before)

returns-5 : tie.Need-returns-then-not-is_hex
returns-5 c =
    let h = c.before in
    let d = h.before.before in
    let e = from d in
    unprinted (line e) (long (back d)) (mode e) (at e) (λ p. never (sym (hex h ∙ p.0) ∙ not-true _ c.if-not-is_hex.true-raw))

abbrev digit : tie.Else-not-is_hex → tie.After-digits-d
digit g = g.before.before.before

inside : (g : tie.Else-not-is_hex) → let d = digit g in 7 + length (got d) ≤ length (line (from d))
inside g =
    let d = digit g in
    let l = line (from d) in
    omega (arith, ap length (are d), digits_inside l, length-drop 7 l, long (back d))

is : (g : tie.Else-not-is_hex) → Digits (line (from (digit g)))
is g =
    let h = g.before in
    let k = h.before in
    (sym (hex h) ∙ not-false _ g.if-not-is_hex.false-raw, rw (are (digit g)) at k.if-k-d.false)

requires : tie.Need-is_rest-requires
requires c κs =
    let g = c.before in
    let d = digit g in
    let l = line (from d) in (
      omega (arith, inside g, (from d).if-n-gt-WIDEST.false),
      omega (arith, ap length (to_end l (7 + length (got d))), length-drop (7 + length (got d)) l, (from d).if-n-gt-WIDEST.false),
    )

returns-6 : tie.Need-returns
returns-6 c =
    let g = c.before.before in
    let d = digit g in
    let e = from d in
    let s = start e in
    c.is_rest.ensures
    ∙ ap (λ (l : List ℕ). same (l ++ 10 ∷ []) (code_rest (mode e) (at e) (bytes_of (got d)))) (to_end (line e) (7 + length (got d)))
    ∙ ap (λ (l : List ℕ). same (drop (7 + length l) (line e) ++ 10 ∷ []) (code_rest (mode e) (at e) (bytes_of l))) (are d)
    ∙ by_rest (mode e) (line e) (at e) s.requires.0 s.requires.1 s.requires.2 (long (back d)) d.if-line-ne-TAB.false (is g)

pub is_code_spec : {M : Type 1} → statement M
is_code_spec =
    tie.close
    (tie.spec returns returns-2 (λ c. long c.before) returns-3 (λ c κs. search rules) (λ c. search rules) returns-4 (λ c κs. search rules) returns-5
    (λ c. search rules) inside inside (λ c. search rules) requires returns-6)
