-- Puts compose: a text and then another is the two joined; and a writer that goes on says what is left.
-- Assumes nothing.
use mathlib.Core.Path.{◌≡◌, refl, ap, sym, subst, ◌∙◌}
use mathlib.Core.List.{List, [], ◌∷◌, ◌++◌}
use Prim.Native.Nat.{ℕ, ◌+◌, ◌≤◌}
use native.Mathlib.Nat.{add-zero, add-suc, suc-add}
use native.Mathlib.Omega.{arith}
use lib.ListN.{length, set, length-append}
use lib.Seq.{sets, length-sets, set_out}
use Rattle.text.specs.Puts.{Puts, Needed}

sets_append : (s t l : List ℕ) (i : ℕ) → sets l i (s ++ t) ≡ sets (sets l i s) (i + length s) t
sets_append [] t l i = rw add-zero
sets_append (a ∷ s) t l i = rw (add-suc, ← suc-add, sets_append s t (set l i a))

pub puts_then : {s t o m n : List ℕ} {at r q : ℕ} → Puts s at o m r → Puts t r m n q → Puts (s ++ t) at o n q
puts_then {s} {t} {o} {m} {n} {at} {r} {q} f g = record {
  next = omega (arith, f.next, g.next, length-append s t);
  wrote = g.wrote ∙ rw (f.wrote, f.next, sets_append);
}

-- nothing is put
pub puts_none : (at : ℕ) (o : List ℕ) → Puts [] at o o at
puts_none at o = record { next = sym (add-zero at); wrote = refl }

-- a byte past the end
pub puts_past : (b at : ℕ) (o : List ℕ) → length o ≤ at → Puts (b ∷ []) at o o (at + 1)
puts_past b at o h = record { next = refl; wrote = sym (set_out o at b h) }

-- a put keeps the length
pub puts_length : {s o m : List ℕ} {at r : ℕ} → Puts s at o m r → length m ≡ length o
puts_length {s} {o} {m} {at} f = ap length f.wrote ∙ length-sets o at s

-- a text of at most n bytes ends at most n further on
pub puts_most : {s o m : List ℕ} {at r n : ℕ} → Puts s at o m r → length s ≤ n → r ≤ at + n
puts_most {s} {o} {m} {at} {r} {n} f h = omega (arith, f.next, h)

-- the same text by another name
pub puts_as : {s t o m : List ℕ} {at r : ℕ} → s ≡ t → Puts s at o m r → Puts t at o m r
puts_as {s} {t} {o} {m} {at} {r} e p = subst (λ (x : List ℕ). Puts x at o m r) e p

-- the writer is at a place in o, with rest still to come, on its way to put the whole into o₀
pub record Going (whole o₀ : List ℕ) (from : ℕ) (o : List ℕ) (at : ℕ) (rest : List ℕ) : Type 0 where
  pub text : sets o at rest ≡ sets o₀ from whole
  pub size : at + length rest ≡ from + length whole

pub going_start : (whole o₀ : List ℕ) (from : ℕ) → Going whole o₀ from o₀ from whole
going_start whole o₀ from = record { text = refl; size = refl }

-- the whole is what is left
pub going_from : {w l : List ℕ} (o : List ℕ) (from : ℕ) → l ≡ w → Going w o from o from l
going_from {w} {l} o from e = subst (λ (x : List ℕ). Going w o from o from x) (sym e) (going_start w o from)

going_more : {w o₀ o m s t : List ℕ} {from at r : ℕ} → Going w o₀ from o at (s ++ t) → Puts s at o m r → Going w o₀ from m r t
going_more {w} {o₀} {o} {m} {s} {t} {from} {at} {r} g p = record {
  text = rw (p.wrote, p.next, ← sets_append s t o at) g.text;
  size = omega (arith, g.size, p.next, length-append s t);
}

pub going_next : {w o₀ o m s t l : List ℕ} {from at r : ℕ} → Going w o₀ from o at l → l ≡ s ++ t → Puts s at o m r → Going w o₀ from m r t
going_next {w} {o₀} {o} {m} {s} {t} {l} {from} {at} {r} g e p = going_more (subst (λ (x : List ℕ). Going w o₀ from o at x) e g) p

going_done : {w o₀ o : List ℕ} {from at : ℕ} → Going w o₀ from o at [] → Puts w from o₀ o at
going_done {w} {o₀} {o} {from} {at} g = record { next = omega (arith, g.size); wrote = g.text }

pub going_over : {w o₀ o l : List ℕ} {from at : ℕ} → Going w o₀ from o at l → l ≡ [] → Puts w from o₀ o at
going_over {w} {o₀} {o} {l} {from} {at} g e = going_done (subst (λ (x : List ℕ). Going w o₀ from o at x) e g)

-- what was put from the start on is exactly what is needed
pub puts_needed : {text o m : List ℕ} {r room : ℕ} → Puts text 0 o m r → Needed text room r
puts_needed {text} {r = r} p = let e : length text ≡ r = omega (arith, p.next) in record { covers = omega (arith, e); exact = λ h. e }
