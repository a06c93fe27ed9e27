-- The table of entries tells which positions are entries.
-- Assumes nothing.
use Prim.Native.Nat.{ℕ, zero, suc, ◌+◌, ◌*◌, ◌/◌, ◌%◌, ◌<◌}
use native.Mathlib.Omega.{arith}
use mathlib.Core.Path.{◌≡◌, refl, sym, ap, subst, ◌∙◌}
use mathlib.Core.Bool.{Bool, true, false, cond, ◌&&◌, ◌||◌, or-false}
use mathlib.Core.List.{List, [], ◌∷◌}
use lib.Dec.{eqb, ltb}
use lib.ListN.{replicate, length-replicate, get_or-replicate}
use lib.Seq.{ext_get_or}
use borrow.Author.Tests.{lt-ltb, ltb-true, ltb-false, ne_eqb}
use Rattle.instruction.proofs.Ands.{not_second}
use Rattle.views.specs.Positions.{some}
use Rattle.map.specs.Bits.{one, digits}
use Rattle.map.specs.Packed.{with_code}
use Rattle.map.specs.Words.{code_at}
use Rattle.map.proofs.Digits.{one_digits}
use Rattle.map.proofs.Packing.{inside, map_by, map_length, map_at, map_same, one_more_lem}
use Rattle.replay.specs.Entry.{with_entry, with_entries}

digits_none : (f : ℕ → Bool) → ((i : ℕ) → f i ≡ false) → (k p : ℕ) → digits f k p ≡ 0
unfolding digits
digits_none f e zero p = refl
digits_none f e (suc k) p = rw (e p, digits_none f e k (suc p)) refl

no_entry : replicate 1024 0 ≡ map_by 65536 (λ (i : ℕ). false)
unfolding inside
no_entry =
    ext_get_or 0 (replicate 1024 0) (map_by 65536 (λ (i : ℕ). false)) (length-replicate {A = ℕ} 1024 0 ∙ sym (map_length 65536 (λ (i : ℕ). false)))
    (λ j h. let k : j < 1024 = subst (λ (x : ℕ). j < x) (length-replicate {A = ℕ} 1024 0) h in
    get_or-replicate 1024 j 0 0 k
    ∙ sym (map_at 65536 (λ (i : ℕ). false) j k ∙ digits_none (inside 65536 (λ (i : ℕ). false)) (λ i. not_second (ltb i 65536) false refl) 64 (64 * j)))

or_assoc : (a b c : Bool) → ((a || b) || c) ≡ (a || (b || c))
or_assoc true b c = refl
or_assoc false b c = refl

-- an entry more
entry_more : (f : ℕ → Bool) (q : ℕ) → with_entry q (map_by 65536 f) ≡ map_by 65536 (λ (i : ℕ). f i || eqb i q)
entry_more f q = by (ltb q 65536) refl
  where
    by : (b : Bool) → ltb q 65536 ≡ b → cond b (with_code (map_by 65536 f) q) (map_by 65536 f) ≡ map_by 65536 (λ (i : ℕ). f i || eqb i q)
    by true e = one_more_lem 65536 f q (ltb-true q 65536 e)
    by false e =
        map_same 65536 f (λ (i : ℕ). f i || eqb i q)
        (λ i h. let l = ltb-false q 65536 e in sym (ap (λ (b : Bool). f i || b) (ne_eqb i q (λ d. omega arith)) ∙ or-false (f i)))

entries_more : (es : List ℕ) (f : ℕ → Bool) → with_entries es (map_by 65536 f) ≡ map_by 65536 (λ (i : ℕ). f i || some (eqb i) es)
unfolding with_entries some
entries_more [] f = map_same 65536 f (λ (i : ℕ). f i || false) (λ i h. sym (or-false (f i)))
entries_more (q ∷ es) f =
    ap (with_entries es) (entry_more f q) ∙ entries_more es (λ (i : ℕ). f i || eqb i q)
    ∙ map_same 65536 (λ (i : ℕ). (f i || eqb i q) || some (eqb i) es) (λ (i : ℕ). f i || (eqb i q || some (eqb i) es))
    (λ i h. or_assoc (f i) (eqb i q) (some (eqb i) es))

bit_of_lem : (f : ℕ → Bool) (q : ℕ) → q < 65536 → code_at (map_by 65536 f) q ≡ f q
unfolding code_at inside
bit_of_lem f q h =
    ap (λ (w : ℕ). one w (q % 64)) (map_at 65536 f (q / 64) (omega arith))
    ∙ one_digits (inside 65536 f) 64 (64 * (q / 64)) (q % 64) (omega arith)
    ∙ ap (inside 65536 f) (let e : 64 * (q / 64) + q % 64 ≡ q = omega arith in e) ∙ ap (λ (b : Bool). b && f q) (lt-ltb q 65536 h)

pub entered : (es : List ℕ) (q : ℕ) → q < 65536 → code_at (with_entries es (replicate 1024 0)) q ≡ some (eqb q) es
entered es q h = ap (λ (ws : List ℕ). code_at ws q) (ap (with_entries es) no_entry ∙ entries_more es (λ (i : ℕ). false)) ∙ bit_of_lem (λ (i : ℕ). some (eqb i) es) q h
