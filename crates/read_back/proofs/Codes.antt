-- An `I` line, written again and compared.
-- Assumes nothing.
use mathlib.Core.Path.{◌≡◌, refl, sym, ap, ◌∙◌}
use mathlib.Core.Bool.{false}
use mathlib.Core.List.{List, [], ◌∷◌, ◌++◌}
use Prim.Native.Nat.{ℕ, suc, ◌+◌, ◌/◌, ◌≤◌, ◌<◌}
use native.Mathlib.Omega.{arith}
use lib.ListN.{length, get_or, set, take, drop, length-append, length-drop, length-take, get_or-append}
use lib.Seq.{sets, get_or-take, get_or-append_seam, take-take}
use Rattle.instruction.specs.declared.mode.Mode.{Mode}
use Rattle.listing.specs.Lines.{code_line}
use Rattle.text.specs.Puts.{Puts}
use Rattle.listing.proofs.Widths.{alone_width}
use Rattle.text.specs.Bytes.{bytes_of}
use Rattle.text.proofs.Cuts.{take_first}
use Rattle.text.proofs.Pairs.{pairs, bytes_small}
use Rattle.text.specs.Same.{same}
use Rattle.read_back.specs.Line.{is_code}
use Rattle.read_back.specs.Offsets.{digits_at, bytes_at}
use Rattle.text.proofs.Sames.{other_length, same_false, same_but_last}
use Rattle.read_back.proofs.Rests.{seventh}

-- what is written from the start on stands at the start
sets_cons : (room : List ℕ) (x : ℕ) (i : ℕ) (s : List ℕ) → sets (x ∷ room) (suc i) s ≡ x ∷ sets room i s
sets_cons room x i [] = refl
sets_cons room x i (a ∷ s) = sets_cons (set room i a) x (suc i) s

pub take_sets : (s room : List ℕ) → length s ≤ length room → take (length s) (sets room 0 s) ≡ s
take_sets [] room h = refl
take_sets (a ∷ s) [] h = absurd (omega arith)
take_sets (a ∷ s) (x ∷ room) h = ap (take (suc (length s))) (sets_cons room a 0 s) ∙ ap (λ (l : List ℕ). a ∷ l) (take_sets s room (omega arith))

-- a field is no longer than what it begins
pub digits_inside : (line : List ℕ) → length (digits_at line) ≤ length (drop 7 line)
digits_inside line = omega (arith, ap length (take_first 9 (drop 7 line)), length-take (length (digits_at line)) (drop 7 line))

pub digits_short : (line : List ℕ) → length (digits_at line) ≤ length line
digits_short line = omega (arith, digits_inside line, length-drop 7 line)

-- the bytes of digits, as they were read into a room of 16
pub read_bytes : (d room : List ℕ) → length room ≡ 16 → length d ≤ 30 → take (length d / 2) (sets room 0 (bytes_of d)) ≡ bytes_of d
read_bytes d room l h =
    let q : length (bytes_of d) ≡ length d / 2 = pairs d (length d / 2) refl in
    ap (λ (k : ℕ). take k (sets room 0 (bytes_of d))) (sym q) ∙ take_sets (bytes_of d) room (omega (arith, q))

module _ (mode : Mode) (line : List ℕ) (p : ℕ) where
  pub too_wide : 30 < length line → false ≡ is_code mode p (bytes_at line) line
  unfolding is_code
  too_wide h =
      sym (other_length (line ++ 10 ∷ []) (code_line mode p (bytes_at line))
      (λ e. absurd (omega (arith, e, length-append line (10 ∷ []), alone_width mode (bytes_at line) [] (bytes_small (digits_at line)) p))))

  -- no tab after the position
  no_seventh : (get_or (line ++ 10 ∷ []) 6 0 ≡ 9 → ⊥) → false ≡ is_code mode p (bytes_at line) line
  unfolding is_code
  no_seventh n =
      sym (same_false (line ++ 10 ∷ []) (code_line mode p (bytes_at line))
      (λ e. n (ap (λ (l : List ℕ). get_or l 6 0) e ∙ seventh mode p (bytes_at line) (omega (arith, ap length e, length-append line (10 ∷ []))))))

  pub too_short_lem : length line ≡ 6 → false ≡ is_code mode p (bytes_at line) line
  too_short_lem h =
      let z : get_or (line ++ 10 ∷ []) 6 0 ≡ 10 = sym (ap (λ (i : ℕ). get_or (line ++ 10 ∷ []) i 0) h) ∙ get_or-append_seam line 10 [] 0 in
      no_seventh (λ e. omega arith)

  pub no_tab_after : 7 ≤ length line → (get_or line 6 0 ≡ 9 → ⊥) → false ≡ is_code mode p (bytes_at line) line
  no_tab_after h n = no_seventh (λ e. n (sym (get_or-append line (10 ∷ []) 0 6 h) ∙ e))

-- a text and byte 10, compared with one that was written
module _ (u written room new : List ℕ) (k : ℕ) (w : Puts written 0 room new k) where
  longer : length (u ++ 10 ∷ []) ≡ length u + 1
  longer = length-append u (10 ∷ [])

  size : k ≡ length written
  size = omega (arith, w.next)

  pub other_width : (k ≡ length u + 1 → ⊥) → false ≡ same (u ++ 10 ∷ []) written
  other_width n = sym (other_length (u ++ 10 ∷ []) written (λ e. n (omega (arith, e, longer, size))))

  module _ (g : k ≡ length u + 1) (l : k ≤ length room) where
    shown : take (length written) new ≡ written
    shown = ap (take (length written)) w.wrote ∙ take_sets written room (omega (arith, size))

    last : get_or written (length u) 0 ≡ get_or new (length u) 0
    last = ap (λ (t : List ℕ). get_or t (length u) 0) (sym shown) ∙ get_or-take (length written) new (length u) 0 (omega (arith, size, g))

    pub other_end : (get_or new (length u) 0 ≡ 10 → ⊥) → false ≡ same (u ++ 10 ∷ []) written
    other_end n = sym (same_false (u ++ 10 ∷ []) written (λ e. n (sym last ∙ sym (ap (λ (t : List ℕ). get_or t (length u) 0) e) ∙ at_end u)))
      where
        at_end : (s : List ℕ) → get_or (s ++ 10 ∷ []) (length s) 0 ≡ 10
        at_end [] = refl
        at_end (a ∷ s) = at_end s

    pub compared : get_or new (length u) 0 ≡ 10 → same u (take (length u) new) ≡ same (u ++ 10 ∷ []) written
    compared e =
        ap (same u) (sym (take-take (length u) (length written) new (omega (arith, size, g))) ∙ ap (take (length u)) shown)
        ∙ sym (same_but_last u written 10 (omega (arith, size, g)) (last ∙ e))
