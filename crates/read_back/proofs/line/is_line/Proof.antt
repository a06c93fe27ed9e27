-- `line::is_line` meets its contract.
-- Assumes nothing.
use mathlib.Core.Path.{◌≡◌, sym, ap, ◌∙◌}
use mathlib.Core.Bool.{Bool}
use mathlib.Core.List.{List}
use Prim.Native.Nat.{ℕ, ◌≤◌}
use Prim.Native.Char.{code}
use native.Mathlib.Omega.{arith}
use borrow.Author.Rules.{rules}
use lib.ListN.{length, get_or}
use Rattle.instruction.specs.declared.mode.Mode.{Mode}
use Rattle.targets.proofs.HereIs.{to_end}
use Rattle.read_back.specs.Line.{is_code, is_line}
use Rattle.read_back.specs.Offsets.{is_found_rest, is_data_rest, by_letter_at, bytes_at}
use Rattle.read_back.proofs.ByFields.{line_is}
use Rattle.read_back.proofs.NoLetters.{no_line}
use Rattle.read_back.proofs.Lines.{start_long, started, ended}
use Rattle.read_back.proofs.line.is_line.Statement.{statement}
use Rattle.read_back.proofs.line.is_line.Tie as tie

abbrev start : tie.After-shared_slice_known-2-1 → tie.Start
start k = k.before.before

abbrev mode : tie.After-shared_slice_known-2-1 → Mode
mode k = (start k).args.mode

abbrev line : tie.After-shared_slice_known-2-1 → List ℕ
line k = (start k).args.line.now

long : (k : tie.After-shared_slice_known-2-1) → 6 ≤ length (line k)
long k = start_long (line k) (start k).requires.0

-- what the letter says is what the line is
rest : (k : tie.After-shared_slice_known-2-1) → by_letter_at (mode k) (get_or (line k) 0 0) (line k) ≡ is_line (mode k) (line k)
rest k = started (line k) (start k).requires.0 (mode k) ∙ line_is (mode k) (line k)

lettered : (k : tie.After-shared_slice_known-2-1) (c : ℕ) → get_or (line k) 0 0 ≡ c → (b : Bool) → b ≡ by_letter_at (mode k) c (line k) → b ≡ is_line (mode k) (line k)
lettered k c e b f = f ∙ ap (λ (x : ℕ). by_letter_at (mode k) x (line k)) (sym e) ∙ rest k

returns : tie.Need-returns-in-76
returns c = let k = c.before in lettered k (code "L") c.in-76.is _ (ended (line k) (start k).requires.0)

returns-2 : tie.Need-returns-in-79
returns-2 c =
    let m = c.before.before in
    let k = m.before in
    lettered k (code "O") m.in-79.is _ (c.is_found.ensures ∙ ap is_found_rest (to_end (line k) 6))

returns-3 : tie.Need-returns-in-65
returns-3 c =
    let m = c.before.before in
    let k = m.before in
    lettered k (code "A") m.in-65.is _ (c.is_found-in-65.ensures ∙ ap is_found_rest (to_end (line k) 6))

returns-4 : tie.Need-returns-in-73
returns-4 c =
    let m = c.before in
    let k = m.before in
    lettered k (code "I") m.in-73.is _ (c.is_code.ensures ∙ ap (λ (p : ℕ). is_code (mode k) p (bytes_at (line k)) (line k)) (start k).requires.1)

returns-5 : tie.Need-returns-in-68
returns-5 c =
    let m = c.before.before in
    let k = m.before in
    lettered k (code "D") m.in-68.is _ (c.is_data.ensures ∙ ap is_data_rest (to_end (line k) 6))

returns-6 : tie.Need-returns-in_default
returns-6 c = let k = c.before in sym (no_line (mode k) _ (line k) c.in_default.in_default-own.rest) ∙ rest k

pub is_line_spec : {M : Type 1} → statement M
is_line_spec =
    tie.close
    (tie.spec (λ c. let h = start_long c.args.line.now c.requires.0 in omega arith)
    (λ c. long c.before) (λ c. long c.before) (λ c. search rules) (λ c κs. search rules)
    (λ c. long c.before) (λ c. long c.before) (λ c. search rules) (λ c κs. search rules)
    (λ c κs. let s = start c.before in (s.requires.0, s.requires.1, c.in-73.is))
    (λ c. long c.before) (λ c. long c.before) (λ c. search rules) (λ c κs. search rules)
    returns returns-2 returns-3 returns-4 returns-5 returns-6)
