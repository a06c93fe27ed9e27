-- Image lines cut again, one by one.
-- Assumes nothing.
use mathlib.Core.Path.{◌≡◌, refl, sym, ap, ap₂, subst, ◌∙◌}
use mathlib.Core.Bool.{Bool, true, false, cond, not, ◌||◌}
use mathlib.Core.List.{List, [], ◌∷◌, ◌++◌}
use Prim.Native.Nat.{ℕ, zero, suc, ◌+◌, ◌≤◌, ◌<◌}
use native.Mathlib.Omega.{arith}
use lib.Dec.{eqb}
use lib.ListN.{length, take, drop, length-take, length-drop, take-append-drop}
use lib.Seq.{append_snoc, get_or-drop}
use borrow.Author.Tests.{le-ltb}
use Rattle.instruction.specs.Bytes.{Bytes}
use Rattle.instruction.specs.Answer.{accepted, judge}
use Rattle.instruction.proofs.Judging.{pass, done}
use Rattle.text.specs.Bytes.{bytes_of}
use Rattle.text.specs.Cut.{before, cut, up_to, lines}
use Rattle.list_text.specs.Bytes.{bytes_in_lines}
use Rattle.list_text.specs.Entries.{is_entries}
use Rattle.list_text.specs.Text.{bad, image_refusals}
use Rattle.listing.specs.Hex.{hexes}
use Rattle.unlist_text.specs.Unlisted.{image_text}
use Rattle.unlist_text.proofs.Lines.{lines_more, lines_none}
use Rattle.read_back_laws.proofs.ByteDigits.{hexes_whole, hexes_bytes, hexes_line}

-- a line with no byte 10, and then the lines of the rest
pub lines_first : (l t : List ℕ) → up_to 10 l ≡ l → lines (l ++ 10 ∷ t) ≡ l ∷ lines t
unfolding cut up_to
lines_first [] t e = refl
lines_first (b ∷ l) t e = by (eqb b 10) e (lines_first l t)
  where
    by : (x : Bool) → cond x [] (b ∷ up_to 10 l) ≡ b ∷ l → (up_to 10 l ≡ l → lines (l ++ 10 ∷ t) ≡ l ∷ lines t)
        → cond x ([] ∷ lines (l ++ 10 ∷ t)) (before b (lines (l ++ 10 ∷ t))) ≡ (b ∷ l) ∷ lines t
    by true f r = let z : ◌≡◌ {A = ℕ} 0 (suc (length l)) = ap length f in absurd (omega arith)
    by false f r = let g : up_to 10 l ≡ l = cc in ap (before b) (r g)

bytes_take : (n : ℕ) (l : List ℕ) → Bytes l → Bytes (take n l)
bytes_take zero l B p = omega arith
bytes_take (suc n) [] B p = omega arith
bytes_take (suc n) (b ∷ l) B zero = B 0
bytes_take (suc n) (b ∷ l) B (suc p) = bytes_take n l (λ q. B (suc q)) p

bytes_drop : (n : ℕ) (l : List ℕ) → Bytes l → Bytes (drop n l)
bytes_drop n l B p = subst (λ (b : ℕ). b < 256) (sym (get_or-drop n l p 0)) (B (n + p))

-- the first image line, and then the others
module _ (l : List ℕ) (h : 0 < length l) where
  cut_first : lines (image_text l) ≡ hexes (take 32 l) ∷ lines (image_text (drop 32 l))
  cut_first =
      ap lines (lines_more l h ∙ append_snoc (hexes (take 32 l)) 10 (image_text (drop 32 l)))
      ∙ lines_first (hexes (take 32 l)) (image_text (drop 32 l)) (hexes_whole (take 32 l))

cut_none : (l : List ℕ) → length l ≤ 0 → lines (image_text l) ≡ []
unfolding cut
cut_none l h = ap lines (lines_none l h)

-- the bytes on them are those of the image
same_bytes : (k : ℕ) (l : List ℕ) → length l ≤ k → Bytes l → bytes_in_lines (lines (image_text l)) ≡ l
unfolding bytes_in_lines
same_bytes zero [] h B = ap bytes_in_lines (cut_none [] (omega arith))
same_bytes zero (b ∷ l) h B = absurd (omega arith)
same_bytes (suc k) [] h B = ap bytes_in_lines (cut_none [] (omega arith))
same_bytes (suc k) (b ∷ l) h B =
    let m = b ∷ l in
    let d = length-drop 32 m in
    ap bytes_in_lines (cut_first m (omega arith))
    ∙ ap₂ (λ (x y : List ℕ). x ++ y) (hexes_bytes (take 32 m) (bytes_take 32 m B)) (same_bytes k (drop 32 m) (omega (arith, d)) (bytes_drop 32 m B))
    ∙ take-append-drop 32 m

pub read_bytes : (l : List ℕ) → Bytes l → bytes_in_lines (lines (image_text l)) ≡ l
read_bytes l B = same_bytes (length l) l (omega arith) B

-- and they are good, where there are no more than are allowed
module _ {A : Type 0} (a : A) where
  good : (k j n : ℕ) (l : List ℕ) → length l ≤ k → Bytes l → n + length l ≤ 16384 → judge (image_refusals j n (lines (image_text l))) a ≡ accepted a
  unfolding image_refusals
  good zero j n [] h B m = rw (cut_none [] (omega arith)) (done a)
  good zero j n (b ∷ l) h B m = absurd (omega arith)
  good (suc k) j n [] h B m = rw (cut_none [] (omega arith)) (done a)
  good (suc k) j n (b ∷ l) h B m =
      let m' = b ∷ l in
      let d = length-drop 32 m' in
      let t = length-take 32 m' in
      let e = hexes_bytes (take 32 m') (bytes_take 32 m' B) in
      let f = ap length e in
      ap (λ (ls : List (List ℕ)). judge (image_refusals j n ls) a) (cut_first m' (omega arith))
      ∙ pass _ _ a (ap₂ (λ (x y : Bool). not x || y) (hexes_line (take 32 m') (bytes_take 32 m' B) (omega (arith, t)) (omega (arith, t)))
      (le-ltb 16384 (n + length (bytes_of (hexes (take 32 m')))) (omega (arith, f, t))))
      ∙ good k (suc j) (n + length (bytes_of (hexes (take 32 m')))) (drop 32 m') (omega (arith, d)) (bytes_drop 32 m' B) (omega (arith, d, f, t))

  -- after a good line of entries
  pub all_good : (e l : List ℕ) → is_entries e ≡ true → Bytes l → length l ≤ 16384
      → judge (bad (not (is_entries e)) 1 ∷ image_refusals 2 0 (lines (image_text l))) a ≡ accepted a
  all_good e l g B m = pass _ _ a (ap not g) ∙ good (length l) 2 0 l (omega arith) B (omega arith)
