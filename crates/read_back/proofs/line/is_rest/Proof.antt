-- `line::is_rest` meets its contract.
-- Assumes nothing.
use mathlib.Core.Path.{◌≡◌, refl, ap, subst, ◌∙◌}
use mathlib.Core.List.{List}
use Prim.Native.Nat.{ℕ, ◌/◌, ◌≤◌}
use native.Mathlib.Omega.{arith}
use borrow.Author.Rules.{rules}
use lib.ListN.{length, take, replicate, length-take}
use lib.Seq.{sets, length-sets}
use Rattle.text.specs.Bytes.{bytes_of}
use Rattle.text.specs.Puts.{Puts}
use Rattle.text.proofs.Putting.{puts_length}
use Rattle.listing.specs.Rest.{code_rest}
use Rattle.read_back.proofs.Codes.{read_bytes, other_width, other_end, compared}
use Rattle.read_back.proofs.line.is_rest.Statement.{statement}
use Rattle.read_back.proofs.line.is_rest.Tie as tie

abbrev start : tie.After-put → tie.Start
start u = u.before.before.before.before

abbrev digits : tie.After-put → List ℕ
digits u = (start u).args.d.now

-- the room of 16 holds their bytes
wrote : (u : tie.After-put) → u.put.new.room ≡ sets (replicate 16 0) 0 (bytes_of (digits u))
wrote u = u.put.ensures

long : (u : tie.After-put) → length u.put.new.room ≡ 16
long u = ap length (wrote u) ∙ length-sets (replicate 16 0) 0 (bytes_of (digits u))

prefix : tie.Need-slice_bounds-code-end
prefix c = let u = c.before in omega (arith, (start u).requires.0, long u)

part : tie.Need-slice_bounds-code_rest-end
part c = let u = c.before.before in omega (arith, (start u).requires.0, long u, length-take (length (digits u) / 2) u.put.new.room)

abbrev put : tie.After-code_rest-k → tie.After-put
put k = k.before.before.before.before

abbrev rest : tie.After-code_rest-k → List ℕ
rest k = (start (put k)).args.rest.now

few : (k : tie.After-code_rest-k) → length (rest k) ≤ 30
few k = (start (put k)).requires.1

abbrev new : tie.After-code_rest-k → List ℕ
new k = k.code_rest-k.new.room

-- what was written
written : (k : tie.After-code_rest-k)
    → let a = (start (put k)).args in Puts (code_rest a.mode a.p (bytes_of a.d.now)) 0 (replicate 32 0) (new k) k.code_rest-k.result
written k =
    let u = put k in
    let a = (start u).args in
    subst (λ (bs : List ℕ). Puts (code_rest a.mode a.p bs) 0 (replicate 32 0) (new k) k.code_rest-k.result)
    (ap (take (length (digits u) / 2)) (wrote u) ∙ read_bytes (digits u) (replicate 16 0) refl (start u).requires.0) k.code_rest-k.ensures

returns : tie.Need-returns-then-k-n
returns c = let k = c.before.before in other_width (rest k) _ _ _ _ (written k) c.if-k-n.true

returns-2 : tie.Need-returns-then-room-n-ne-LINE_END
returns-2 c =
    let e = c.before in
    let k = e.before.before in
    other_end (rest k) _ (replicate 32 0) _ _ (written k) e.if-k-n.false (omega (arith, e.if-k-n.false, few k)) c.if-room-n-ne-LINE_END.true

returns-3 : tie.Need-returns
returns-3 c =
    let f = c.before.before in
    let e = f.before in
    let k = e.before.before in
    c.same.ensures ∙ compared (rest k) _ (replicate 32 0) _ _ (written k) e.if-k-n.false (omega (arith, e.if-k-n.false, few k)) f.if-room-n-ne-LINE_END.false

shared : tie.Need-slice_bounds-room-end
shared c = let k = c.before.before.before in omega (arith, few k, puts_length (written k))

shown : tie.Need-slice_bounds-same-end
shown c =
    let k = c.before.before.before.before in
    omega (arith, few k, puts_length (written k), length-take (length (rest k)) (new k))

pub is_rest_spec : {M : Type 1} → statement M
is_rest_spec =
    tie.close
    (tie.spec (λ c. refl) (λ c κs. search rules) prefix part (λ c. refl) (λ c κs. search rules) (λ c. search rules) returns
    (λ c. omega (arith, few c.before.before)) returns-2 shared shown (λ c κs. search rules) returns-3)
