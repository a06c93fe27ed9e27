-- What a line says, put together.
-- Assumes nothing.
use mathlib.Core.Path.{◌≡◌, refl, sym, ap, ap₂, ◌∙◌}
use mathlib.Core.Bool.{false, cond}
use mathlib.Core.List.{List}
use Prim.Native.Nat.{ℕ, ◌-◌, ◌/◌}
use Prim.Native.Char.{code}
use borrow.Author.Tests.{ne_eqb}
use lib.ListN.{length, length-drop}
use Rattle.text.specs.Bytes.{bytes_of}
use Rattle.text.proofs.Pairs.{pairs}
use Rattle.read_back.specs.Line.{letter_on, bytes_on, further_on, has_bytes, record_of}
use Rattle.read_back.specs.Offsets.{position_at, digits_at, Spaced}
use Rattle.read_back.specs.declared.place.Place.{Place}
use Rattle.read_back.specs.declared.place.Record.{Record}

abbrev the : ℕ → ℕ → ℕ → Record
the c p n = record { letter = c; position = p; count = n }

pub made : (r : Record) (c p n : ℕ) → (r.letter ≡ c) × (r.position ≡ p) × (r.count ≡ n) → r ≡ the c p n
made r c p n e = rw (← e.0, ← e.1, ← e.2)

-- of a good line
module _ (line : List ℕ) (g : Spaced line) (p : ℕ) (e : p ≡ position_at line) where
  by_place : (n : ℕ) → n ≡ cond (has_bytes (letter_on line)) (length (bytes_on line)) (length (further_on line)) → the (letter_on line) p n ≡ record_of line
  unfolding record_of
  by_place n f = ap₂ (the (letter_on line)) (e ∙ g.position) f

  pub with_data : letter_on line ≡ code "D" → the (letter_on line) p ((length line - 6) / 2) ≡ record_of line
  with_data h = by_place _ (ap (λ (k : ℕ). k / 2) (sym (length-drop 6 line)) ∙ g.halves h ∙ sym (rw h))

  pub with_code : letter_on line ≡ code "I" → (d : List ℕ) → d ≡ digits_at line → the (letter_on line) p (length d / 2) ≡ record_of line
  with_code h d f = by_place _ (sym (pairs d (length d / 2) refl) ∙ ap (λ (x : List ℕ). length (bytes_of x)) (f ∙ g.digits) ∙ sym (rw h))

  pub with_places : (letter_on line ≡ code "I" → ⊥) → (letter_on line ≡ code "D" → ⊥) → the (letter_on line) p ((length line - 6) / 5) ≡ record_of line
  with_places i d =
      let h : has_bytes (letter_on line) ≡ false = rw (ne_eqb (letter_on line) (code "I") i, ne_eqb (letter_on line) (code "D") d) in
      by_place _ (ap (λ (k : ℕ). k / 5) (sym (length-drop 6 line)) ∙ g.count h ∙ sym (rw h))

-- a place, put together
pub placed : (n : Place) (a k p c : ℕ) → (n.at ≡ a) × (n.line ≡ k) × (n.last ≡ p) × (n.letter ≡ c) → n ≡ record { at = a; line = k; last = p; letter = c }
placed n a k p c e = rw (← e.0, ← e.1, ← e.2, ← e.3)
