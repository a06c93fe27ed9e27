-- An image's lines one by one, and how long they are.
-- Assumes nothing.
use mathlib.Core.Bool.{Bool, true, false}
use mathlib.Core.Path.{◌≡◌, refl, sym, ap, ap₂, ◌∙◌}
use mathlib.Core.List.{List, [], ◌∷◌, ◌++◌, append-nil}
use Prim.Native.Nat.{ℕ, zero, suc, ◌+◌, ◌*◌, ◌/◌, ◌≤◌, ◌<◌, min}
use native.Mathlib.Numerals.{add-one}
use native.Mathlib.Omega.{arith}
use borrow.Author.Tests.{ltb-true, ltb-false}
use lib.Dec.{ltb}
use lib.ListN.{length, set, take, drop, drop_of_length-le, length-append, length-drop, length-take}
use lib.Seq.{take_all, append_snoc}
use Rattle.std.proofs.lemmas.List.{take_at, drop_at}
use Rattle.listing.specs.Hex.{hex1, hex2, hexes}
use Rattle.text.specs.Puts.{Puts}
use Rattle.listing.proofs.Hexing.{hexes_length}
use Rattle.unlist_text.specs.Unlisted.{lines_of, image_text}

abbrev pub line : List ℕ → List ℕ
line bytes = hexes bytes ++ 10 ∷ []

-- it does not matter how many lines there may be, if enough
lines_any : (k j : ℕ) (l : List ℕ) → length l ≤ k → length l ≤ j → lines_of k l ≡ lines_of j l
unfolding lines_of
lines_any zero zero l h g = refl
lines_any zero (suc j) [] h g = refl
lines_any zero (suc j) (b ∷ l) h g = absurd (omega arith)
lines_any (suc k) zero [] h g = refl
lines_any (suc k) zero (b ∷ l) h g = absurd (omega arith)
lines_any (suc k) (suc j) [] h g = refl
lines_any (suc k) (suc j) (b ∷ l) h g =
    let e = length-drop 32 (b ∷ l) in
    ap (λ (t : List ℕ). hexes (take 32 (b ∷ l)) ++ 10 ∷ t) (lines_any k j (drop 32 (b ∷ l)) (omega arith) (omega arith))

pub lines_more : (l : List ℕ) → 0 < length l → image_text l ≡ line (take 32 l) ++ image_text (drop 32 l)
unfolding image_text lines_of
lines_more [] h = absurd (omega arith)
lines_more (b ∷ l) h =
    let e = length-drop 32 (b ∷ l) in
    ap (λ (t : List ℕ). hexes (take 32 (b ∷ l)) ++ 10 ∷ t) (lines_any (length l) (length (drop 32 (b ∷ l))) (drop 32 (b ∷ l)) (omega arith) (omega arith))
    ∙ sym (append_snoc (hexes (take 32 (b ∷ l))) 10 (image_text (drop 32 (b ∷ l))))

pub lines_none : (l : List ℕ) → length l ≤ 0 → image_text l ≡ []
unfolding image_text lines_of
lines_none [] h = refl
lines_none (b ∷ l) h = absurd (omega arith)

pub line_length : (bytes : List ℕ) → length (line bytes) ≡ 2 * length bytes + 1
line_length bytes = omega (arith, length-append (hexes bytes) (10 ∷ []), hexes_length bytes)

-- two digits for each byte, and a byte 10 for each 32 and for what is left
lines_length : (k : ℕ) (l : List ℕ) → length l ≤ k → length (image_text l) ≡ length l * 2 + (length l + 31) / 32
lines_length zero [] h = omega (arith, ap length (lines_none [] (omega arith)))
lines_length zero (b ∷ l) h = absurd (omega arith)
lines_length (suc k) [] h = omega (arith, ap length (lines_none [] (omega arith)))
lines_length (suc k) (b ∷ l) h =
    let l' = b ∷ l in
    let e = ap length (lines_more l' (omega arith)) in
    let f = length-append (line (take 32 l')) (image_text (drop 32 l')) in
    let g = line_length (take 32 l') in
    let d = length-drop 32 l' in
    let t = length-take 32 l' in
    let r = lines_length k (drop 32 l') (omega (arith, d)) in
    omega (arith, e, f, g, d, t, r)

pub image_length : (l : List ℕ) → length (image_text l) ≡ length l * 2 + (length l + 31) / 32
image_length l = lines_length (length l) l (omega arith)

no_more : (l : List ℕ) → length l ≡ 0 → l ≡ []
no_more [] h = refl
no_more (b ∷ l) h = absurd (omega arith)

-- a line's bytes come off the front, as many as there are where they are few
pub next_line : (l bytes rest : List ℕ) → l ≡ bytes ++ rest → length bytes ≡ min 32 (length l) → 0 < length l → image_text l ≡ line bytes ++ image_text rest
next_line l bytes rest e n h =
    let p = by (ltb (length l) 32) refl in
    lines_more l h ∙ ap₂ (λ (x y : List ℕ). line x ++ image_text y) p.0 p.1
  where
    by : (b : Bool) → ltb (length l) 32 ≡ b → (take 32 l ≡ bytes) × (drop 32 l ≡ rest)
    by true f =
        let k = ltb-true (length l) 32 f in
        let z : rest ≡ [] = no_more rest (omega (arith, ap length e, length-append bytes rest, n)) in
        let w : l ≡ bytes = e ∙ ap (λ (x : List ℕ). bytes ++ x) z ∙ append-nil bytes in
        (take_all 32 l (omega arith) ∙ w, drop_of_length-le l (let m : length l ≤ 32 = omega arith in m) ∙ sym z)
    by false f =
        let k = ltb-false (length l) 32 f in
        let m : length bytes ≡ 32 = omega (arith, n) in
        (ap (take 32) e ∙ take_at bytes rest 32 m, ap (drop 32) e ∙ drop_at bytes rest 32 m)

-- the two digits of a byte put
pub pair_put : (b at x y : ℕ) (o : List ℕ) → x ≡ hex1 (b / 16) → y ≡ hex1 b → Puts (hex2 b) at o (set (set o at x) (at + 1) y) (at + 2)
unfolding hex2
pair_put b at x y o e f = record { next = refl; wrote = rw (add-one, e, f) }
