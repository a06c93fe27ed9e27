-- A line that begins with the bytes held and goes on with those of a block.
-- Assumes nothing.
use Prim.Native.Nat.{ℕ, zero, suc, ◌+◌, ◌-◌, ◌/◌, ◌<◌, ◌≤◌, min}
use native.Mathlib.Omega.{arith}
use mathlib.Core.Path.{◌≡◌, refl, sym, ap, ◌∙◌}
use mathlib.Core.Logic.{◌⊎◌, inl, inr}
use mathlib.Core.List.{List, ◌++◌}
use lib.ListN.{length, take, drop, length-append}
use lib.Seq.{sets, sets-eq, length-sets, take_all, take-append-add, take-append_seam, length-take-le, drop-drop}
use Rattle.std.proofs.lemmas.List.{take_at, drop_at, append_assoc}
use Rattle.std.specs.Int.{w64, to_le_bytes}
use Rattle.reach.proofs.Cases.{lt_or_le}
use Rattle.replay.specs.Log.{bytes_in, partial}
use Rattle.replay.proofs.Bytes.{bytes_held}
use Rattle.replay.specs.declared.log.Log.{Log}

bytes_length : (k n : ℕ) → length (bytes_in k n) ≡ k
unfolding bytes_in
bytes_length zero n = refl
bytes_length (suc k) n = ap suc (bytes_length k (n / 256))

pub partial_length : (l : Log) → length (partial l) ≡ min l.held 6
unfolding partial
partial_length l = bytes_length (min l.held 6) l.part

take_most : (n : ℕ) (l : List ℕ) → take n l ≡ take (min n (length l)) l
take_most n l = by (lt_or_le n (length l))
  where
    by : (n < length l) ⊎ (length l ≤ n) → take n l ≡ take (min n (length l)) l
    by (inl h) = ap (λ (k : ℕ). take k l) (let e : n ≡ min n (length l) = omega arith in e)
    by (inr h) = take_all n l h ∙ sym (take_all (min n (length l)) l (omega arith))

-- seven bytes of what is held and the text after it
seven : (P text : List ℕ) (h q : ℕ) → length P ≡ h → h ≤ 6 → q ≡ min (7 - h) (length text) → take 7 (P ++ text) ≡ P ++ take q text
seven P text h q e l f =
    ap (λ (k : ℕ). take k (P ++ text)) (let g : 7 ≡ length P + (7 - h) = omega arith in g) ∙ take-append-add P text (7 - h)
    ∙ ap (λ (x : List ℕ). P ++ x) (take_most (7 - h) text ∙ ap (λ (k : ℕ). take k text) (sym f))

pub begun_line : (l : Log) (text line x y : List ℕ) (h q : ℕ) → length line ≡ 7 → h ≡ min l.held 6 → q ≡ min (length text) (7 - h)
    → x ≡ take h (to_le_bytes w64 l.part) → y ≡ take q text
    → (h + q ≡ length (take 7 (partial l ++ text)))
    × (take h (x ++ drop h line) ++ (y ++ drop (h + q - h) (drop h (x ++ drop h line))) ≡ sets line 0 (take 7 (partial l ++ text)))
unfolding partial
begun_line l text line x y h q z e f g k =
    let b : x ≡ bytes_in (min l.held 6) l.part = g ∙ bytes_held h l.part (omega arith) ∙ ap (λ (j : ℕ). bytes_in j l.part) e in
    let n : length x ≡ h = ap length b ∙ bytes_length (min l.held 6) l.part ∙ sym e in
    let m : length y ≡ q = ap length k ∙ length-take-le q text (omega arith) in
    let t : take 7 (partial l ++ text) ≡ x ++ y =
    ap (λ (w : List ℕ). take 7 (w ++ text)) (sym b) ∙ seven x text h q n (omega arith) (omega arith) ∙ ap (λ (w : List ℕ). x ++ w) (sym k) in
    let o : length (x ++ y) ≡ h + q = length-append x y ∙ (let u : length x + length y ≡ h + q = omega (arith, n, m) in u) in
    let r : drop (h + q - h) (drop h (x ++ drop h line)) ≡ drop (h + q) line =
    ap (drop (h + q - h)) (drop_at x (drop h line) h n) ∙ drop-drop (h + q - h) h line
    ∙ ap (λ (j : ℕ). drop j line) (let u : h + (h + q - h) ≡ h + q = omega arith in u) in (
      sym (ap length t ∙ o),
      ap (λ (w : List ℕ). w ++ (y ++ drop (h + q - h) (drop h (x ++ drop h line)))) (take_at x (drop h line) h n)
          ∙ ap (λ (w : List ℕ). x ++ (y ++ w)) r ∙ sym (append_assoc x y (drop (h + q) line))
          ∙ ap (λ (j : ℕ). (x ++ y) ++ drop j line) (let u : h + q ≡ 0 + length (x ++ y) = omega (arith, o) in u)
          ∙ sym (sets-eq (x ++ y) line 0 (omega (arith, o))) ∙ ap (sets line 0) (sym t),
    )

-- ---- the bytes of a line that was begun in an empty room

pub begun_part : (z s : List ℕ) → length s ≤ length z → take (length s) (sets z 0 s) ≡ s
begun_part z s h =
    ap (take (length s)) (sets-eq s z 0 (omega arith))
    ∙ take-append_seam s (drop (0 + length s) z)

pub begun_whole : (z s : List ℕ) → length s ≡ length z → sets z 0 s ≡ s
begun_whole z s h =
    sym (take_all (length s) (sets z 0 s) (omega (arith, length-sets z 0 s))) ∙ begun_part z s (omega arith)
