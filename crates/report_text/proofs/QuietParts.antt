-- Bytes among which no empty line ends are held all at once.
-- Assumes nothing.
use Prim.Native.Nat.{ℕ, suc, ◌+◌, ◌-◌, ◌≤◌, ◌<◌, min}
use native.Mathlib.Nat.{add-zero}
use native.Mathlib.Omega.{arith}
use mathlib.Core.Bool.{Bool, true, false, not, ◌&&◌}
use mathlib.Core.List.{List, [], ◌∷◌, ◌++◌}
use mathlib.Core.Path.{◌≡◌, refl, sym, ap, ap₂, subst, ◌∙◌}
use borrow.Author.Tests.{lt-ltb, not-true}
use lib.Dec.{eqb}
use lib.ListN.{length, get_or, set, take, drop, take-append-drop}
use lib.Seq.{sets, length-take-le, get_or-take}
use Rattle.instruction.proofs.Ands.{first_part, second_part}
use Rattle.instruction.proofs.Sign.{never}
use Rattle.report_text.specs.Empty.{is_quiet}
use Rattle.report_text.specs.Going.{going, Gone, Going}
use Rattle.report_text.specs.Term.{State, most, pushed_count, pushed_room}
use Rattle.report_text.specs.declared.sums.Sums.{Sums}
use Rattle.report_text.proofs.Gathers.{gone_none, gone_more, gone_on, byte_held, pushed_as}

-- the byte after these begins a line
unfoldable fresh_after : Bool → List ℕ → Bool
fresh_after f [] = f
fresh_after f (b ∷ t) = fresh_after (eqb b 10) t

fresh_last : (f : Bool) (b : ℕ) (t : List ℕ) → fresh_after f (b ∷ t) ≡ eqb (get_or (b ∷ t) (length t) 0) 10
unfolding fresh_after
fresh_last f b [] = refl
fresh_last f b (c ∷ t) = fresh_last (eqb b 10) c t

fresh_at : (f : Bool) (p : List ℕ) → 0 < length p → fresh_after f p ≡ eqb (get_or p (length p - 1) 0) 10
fresh_at f [] h = absurd (omega arith)
fresh_at f (b ∷ t) h = let e : length t ≡ suc (length t) - 1 = omega arith in fresh_last f b t ∙ ap (λ (k : ℕ). eqb (get_or (b ∷ t) k 0) 10) e

-- one more byte, where there is room for it
held_more : (room : List ℕ) (held b : ℕ) → held < most → (suc held ≡ pushed_count held) × (set room held b ≡ pushed_room room held b)
held_more room held b h =
    let e : min held most ≡ held = omega arith in
    rw (e, lt-ltb held most h) (refl, refl)

gone_as : {s : State} {text text' : List ℕ} {t t' : State} {at at' : ℕ} → Gone s text t at → text ≡ text' → t ≡ t' → at ≡ at' → Gone s text' t' at'
gone_as {s} {text} {text'} {t} {t'} {at} {at'} g e f h =
    subst (λ (x : List ℕ). Gone s x t' at') e (subst (λ (x : State). Gone s text x at') f (subst (Gone s text t) h g))

module _ (s : Sums) where
  one_gone : (held : ℕ) (fresh : Bool) (room : List ℕ) (b : ℕ) (t : List ℕ) → held < most → (fresh && eqb b 10) ≡ false
      → Gone (going s held fresh room) (b ∷ t) (going s (suc held) (eqb b 10) (set room held b)) 1
  one_gone held fresh room b t h e =
      let p = byte_held s held fresh room b e in
      let m = held_more room held b h in
      gone_more (gone_none (going s held fresh room) (b ∷ t)) (omega arith) _ (p.0 ∙ pushed_as s held fresh room b _ _ m.0 m.1) p.1

  quiet_gone : (p : List ℕ) (held : ℕ) (fresh : Bool) (room rest : List ℕ) → held + length p ≤ most → is_quiet fresh p ≡ true
      → Gone (going s held fresh room) (p ++ rest) (going s (held + length p) (fresh_after fresh p) (sets room held p)) (length p)
  unfolding is_quiet fresh_after
  quiet_gone [] held fresh room rest h q =
      subst (λ (n : ℕ). Gone (going s held fresh room) rest (going s n fresh room) 0) (sym (add-zero held)) (gone_none (going s held fresh room) rest)
  quiet_gone (b ∷ p) held fresh room rest h q =
      let e = not-true (fresh && eqb b 10) (first_part (not (fresh && eqb b 10)) (is_quiet (eqb b 10) p) q) in
      let g = one_gone held fresh room b (p ++ rest) (omega arith) e in
      let r = quiet_gone p (suc held) (eqb b 10) (set room held b) rest (omega arith) (second_part (not (fresh && eqb b 10)) (is_quiet (eqb b 10) p) q) in
      let n : suc held + length p ≡ held + suc (length p) = omega arith in
      let k : 1 + length p ≡ suc (length p) = omega arith in
      gone_as (gone_on g r) refl (ap (λ (x : ℕ). going s x (fresh_after (eqb b 10) p) (sets (set room held b) (suc held) p)) n) k

pub quiet_going : (held : ℕ) (fresh : Bool) (text : List ℕ) (m : ℕ) (room room' p : List ℕ) → p ≡ take m text → 0 < m → m ≤ length text
    → held + m ≤ most → is_quiet fresh p ≡ true → room' ≡ sets room held p
    → Going held fresh text m room room' (record { held = held + m; fresh = eqb (get_or text (m - 1) 0) 10; used = m; complete = false })
quiet_going held fresh text m room room' p e h i k q w = record {
  inside = i;
  whole = λ f. (
    refl,
    λ s.
        gone_as (quiet_gone s p held fresh room (drop m text) (omega (arith, n)) q)
        (ap (λ (x : List ℕ). x ++ drop m text) e ∙ take-append-drop m text)
        (ap₂ (λ (x : ℕ) (y : Bool). going s (held + x) y (sets room held p)) n b ∙ ap (going s (held + m) (eqb (get_or text (m - 1) 0) 10)) (sym w)) n,
  );
  ended = λ f. absurd (never (sym f));
}
  where
    n : length p ≡ m
    n = ap length e ∙ length-take-le m text i

    b : fresh_after fresh p ≡ eqb (get_or text (m - 1) 0) 10
    b =
        fresh_at fresh p (omega (arith, n)) ∙ ap₂ (λ (x : List ℕ) (j : ℕ). eqb (get_or x (j - 1) 0) 10) e n
        ∙ ap (λ (x : ℕ). eqb x 10) (get_or-take m text (m - 1) 0 (omega arith))
