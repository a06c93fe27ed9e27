-- No operand is `?` where the first target is an address: a digit is none, and all else is longer.
-- Assumes nothing.
use mathlib.Core.Path.{◌≡◌, refl, ap, sym, ◌∙◌}
use mathlib.Core.Bool.{Bool, true, false, cond}
use mathlib.Core.List.Memᴰ
use mathlib.Core.List.{List, [], ◌∷◌, Memᴰ as Among}
use mathlib.Core.Logic.{⊎_elim}
use Prim.Native.Char.{code}
use Prim.Native.Nat.{ℕ, ◌+◌, ◌%◌, ◌<◌, ◌≤◌}
use native.Mathlib.Omega.{arith}
use borrow.Author.Tests.{ltb-true, ltb-false, le-ltb}
use lib.Dec.{ltb}
use lib.ListN.{length, get_or}
use Rattle.instruction.specs.declared.kind.Kind.{Kind}
use Rattle.instruction.specs.declared.kind.Kind.TheVariants.{Absent, Immediate, Direct, Register, BitNumber, Page, Far, Short, Long}
use Rattle.listing.specs.Hex.{hex1, hex2, hex3, hex4}
use Rattle.listing.specs.Operand.{target, shown, shown_all}

abbrev pub question : List ℕ
question = code "?" ∷ []

-- a digit is none
digit : (n : ℕ) → hex1 n ≡ code "?" → ⊥
unfolding hex1
digit n = by (ltb (n % 16) 10) refl
  where
    by : (t : Bool) → ltb (n % 16) 10 ≡ t → cond t (48 + n % 16) (55 + n % 16) ≡ 63 → ⊥
    by true e g = let h : n % 16 < 10 = ltb-true (n % 16) 10 e in omega arith
    by false e g = let h : 10 ≤ n % 16 = ltb-false (n % 16) 10 e in omega arith

-- nor is what has another length
longer : (l : List ℕ) → (length l ≡ 1 → ⊥) → l ≡ question → ⊥
longer l h e = h (ap length e)

four : (t : ℕ) → t ≤ 65535 → target t ≡ question → ⊥
unfolding target hex4 hex3 hex2
four t h = longer (target t) (λ (z : length (target t) ≡ 1). let w : length (target t) ≡ 4 = rw (le-ltb 65535 t h) in omega (arith, z, w))

-- an operand of an instruction whose first target is an address
one : (t : ℕ) → t ≤ 65535 → (k : Kind) (n : ℕ) → shown t k n ≡ question → ⊥
unfolding shown hex3 hex2
one t h Absent n = longer [] (λ z. omega arith)
one t h Immediate n = longer (code "#" ∷ hex2 n) (λ z. omega arith)
one t h Direct n = longer (hex3 n) (λ z. omega arith)
one t h Register n = longer (code "@" ∷ code "R" ∷ hex1 n ∷ []) (λ z. omega arith)
one t h BitNumber n = λ e. digit n (ap (λ (l : List ℕ). get_or l 0 0) e)
one t h Page n = four t h
one t h Far n = four t h
one t h Short n = four t h
one t h Long n = four t h

pub each : (t : ℕ) → t ≤ 65535 → (ks : List Kind) (ns f : List ℕ) → Among f (shown_all t ks ns) → f ≡ question → ⊥
each t h [] ns f i e = Memᴰ.not-nil i
each t h (k ∷ ks) [] f i e = Memᴰ.not-nil i
each t h (k ∷ ks) (n ∷ ns) f i e =
    ⊎_elim (λ (x : f ≡ shown t k n). one t h k n (sym x ∙ e)) (λ (j : Among f (shown_all t ks ns)). each t h ks ns f j e) (Memᴰ.cases_cons i)
