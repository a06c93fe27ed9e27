-- The lines of image bytes, written line by line.
-- Assumes nothing.
use mathlib.Core.Path.{◌≡◌, refl, sym, ap, ◌∙◌}
use mathlib.Core.List.{List, [], ◌∷◌, ◌++◌}
use Prim.Native.Nat.{ℕ, suc, ◌+◌, ◌-◌, ◌≤◌, ◌<◌}
use native.Mathlib.Omega.{arith}
use lib.ListN.{length, set, take, drop, length-append}
use lib.Seq.{sets, length-sets}
use Rattle.text.specs.Bytes.{bytes_of}
use Rattle.text.specs.Cut.{up_to, lines}
use Rattle.text.proofs.Cuts.{line_next, lines_end}
use Rattle.list_text.specs.Bytes.{bytes_in_lines}
use Rattle.list_text.proofs.Turns.{no_bytes}

sets_append : (room : List ℕ) (n : ℕ) (a b : List ℕ) → sets room n (a ++ b) ≡ sets (sets room n a) (n + length a) b
sets_append room n [] b = let q : n + 0 ≡ n = omega arith in rw q
sets_append room n (x ∷ a) b = let q : n + suc (length a) ≡ suc n + length a = omega arith in rw q (sets_append (set room n x) (suc n) a b)

module _ (text : List ℕ) (from : ℕ) (image₀ : List ℕ) where
  -- what remains, written from here, is all written
  pub record Putting (image : List ℕ) (at n : ℕ) : Type 0 where
    pub long : length image ≡ length image₀
    pub fits : n + length (bytes_in_lines (lines (drop at text))) ≤ length image
    pub rest : sets image n (bytes_in_lines (lines (drop at text))) ≡ sets image₀ 0 (bytes_in_lines (lines (drop from text)))

  pub put_start : length (bytes_in_lines (lines (drop from text))) ≤ length image₀ → Putting image₀ from 0
  put_start h = record { long = refl; fits = omega arith; rest = refl }

  module _ (image : List ℕ) (at n : ℕ) (s : Putting image at n) where
    pub put_end : length text ≤ at → image ≡ sets image₀ 0 (bytes_in_lines (lines (drop from text)))
    put_end h = sym (ap (sets image n) (ap bytes_in_lines (lines_end text at h) ∙ no_bytes)) ∙ s.rest

    module _ (e : ℕ) (p : e ≡ at + length (up_to 10 (drop at text))) (h : at < length text) where
      abbrev bytes : List ℕ
      bytes = bytes_of (take (e - at) (drop at text))

      next : bytes_in_lines (lines (drop at text)) ≡ bytes ++ bytes_in_lines (lines (drop (e + 1) text))
      unfolding bytes_in_lines
      next = ap bytes_in_lines (line_next text at e p h)

      pub put_fits : n + length bytes ≤ length image
      put_fits = omega (arith, s.fits, ap length next, length-append bytes (bytes_in_lines (lines (drop (e + 1) text))))

      pub put_next : (m : ℕ) → m ≡ n + length bytes → (image' : List ℕ) → image' ≡ sets image n bytes → Putting image' (e + 1) m
      put_next m f image' g =
          let l : length image' ≡ length image = ap length g ∙ length-sets image n bytes in
          record {
            long = l ∙ s.long;
            fits = omega (arith, s.fits, ap length next, length-append bytes (bytes_in_lines (lines (drop (e + 1) text))));
            rest = rw (f, g) (sym (ap (sets image n) next ∙ sets_append image n bytes (bytes_in_lines (lines (drop (e + 1) text)))) ∙ s.rest);
          }
