-- The line of entries, written field by field.
-- Assumes nothing.
use mathlib.Core.Path.{◌≡◌, refl, sym, ap, ◌∙◌}
use mathlib.Core.List.{List, [], ◌∷◌, map}
use Prim.Native.Nat.{ℕ, ◌+◌, ◌-◌, ◌≤◌, ◌<◌}
use native.Mathlib.Numerals.{add-one}
use native.Mathlib.Omega.{arith}
use lib.ListN.{length, set, take, drop, length-set}
use lib.Seq.{sets}
use Rattle.text.specs.Cut.{up_to, fields}
use Rattle.text.specs.Four.{four_of}
use Rattle.text.proofs.Cuts.{field_next, field_last}
use Rattle.list_text.specs.Entries.{entries_in}
use Rattle.list_text.proofs.Fields.{fields_of, some_field, fields_some}

pub nothing : (l room : List ℕ) → length l ≡ 0 → room ≡ sets room 0 (entries_in l)
nothing [] room h = refl
nothing (b ∷ l) room h = absurd (omega arith)

-- what remains of the line, written from here, is the whole line written
pub record Putting (l room₀ room : List ℕ) (at n : ℕ) : Type 0 where
  pub same : length room ≡ length room₀
  pub fits : n + length (fields_of (drop at l)) ≤ length room
  pub rest : sets room n (map four_of (fields_of (drop at l))) ≡ sets room₀ 0 (entries_in l)

module _ (l room₀ : List ℕ) where
  pub put_start : (length l ≡ 0 → ⊥) → length (fields l) ≤ length room₀ → Putting l room₀ room₀ 0 0
  put_start h k =
      let f = fields_some l (omega arith) in
      record { same = refl; fits = omega (arith, ap length f); rest = ap (λ (fs : List (List ℕ)). sets room₀ 0 (map four_of fs)) (sym f) }

  module _ (room : List ℕ) (at n : ℕ) (s : Putting l room₀ room at n) where
    pub put_full : length room ≤ n → {A : Type 0} → A
    put_full h = absurd (omega (arith, s.fits, some_field (drop at l)))

    module _ (e : ℕ) (p : e ≡ at + length (up_to 9 (drop at l))) (x : ℕ) (v : x ≡ four_of (take (e - at) (drop at l))) where
      pub put_next : e < length l → Putting l room₀ (set room n x) (e + 1) (n + 1)
      put_next h =
          let c = field_next l at e p h in
          record {
            same = length-set room n x ∙ s.same;
            fits = simp length-set (omega (arith, s.fits, ap length c));
            rest = rw (add-one, v) (sym (ap (λ (fs : List (List ℕ)). sets room n (map four_of fs)) c) ∙ s.rest);
          }

      pub put_last : e ≡ length l → set room n x ≡ sets room₀ 0 (entries_in l)
      put_last h =
          let c = field_last l at e p h in
          rw v (sym (ap (λ (fs : List (List ℕ)). sets room n (map four_of fs)) c) ∙ s.rest)
