-- The ones of a stretch in parts: within a word, whole words, and what is left of the last.
-- Assumes nothing.
use mathlib.Core.Path.{◌≡◌, sym, ap, ap₂, ◌∙◌}
use mathlib.Core.List.{List}
use Prim.Native.Nat.{ℕ, ◌+◌, ◌*◌, ◌-◌, ◌/◌, ◌%◌, ◌^◌, ◌<◌, ◌≤◌}
use native.Mathlib.Omega.{arith}
use lib.Count.{ones}
use lib.ListN.{get_or}
use Rattle.map.specs.Bits.{count_in, ones_between}
use Rattle.map.specs.Words.{code_at}
use Rattle.map.proofs.Runs.{count_add, count_le}
use Rattle.map.proofs.InWords.{in_word, whole_word}

-- ---- whole words: n so far, and from word j on what is left

pub record Left (ws : List ℕ) (first last n j : ℕ) : Type 0 where
  pub from : first ≤ j
  pub to : j ≤ last
  pub small : n ≤ 64 * (j - first)
  pub all : n + count_in (code_at ws) (64 * (last - j)) (64 * j) ≡ count_in (code_at ws) (64 * (last - first)) (64 * first)

module _ (ws : List ℕ) (first last : ℕ) where
  pub left_start : first ≤ last → Left ws first last 0 first
  left_start h = record { from = omega arith; to = h; small = omega arith; all = omega arith }

  -- one word more
  pub word_le : (j : ℕ) → get_or ws j 0 < 2 ^ 64 → ones (get_or ws j 0) ≤ 64
  word_le j h = let e = whole_word ws j h in let k = count_le (code_at ws) 64 (64 * j) in omega arith

  pub left_next : (n j : ℕ) → j < last → get_or ws j 0 < 2 ^ 64 → Left ws first last n j → Left ws first last (n + ones (get_or ws j 0)) (j + 1)
  left_next n j h b L =
      let k = word_le j b in
      record {
        from = omega (arith, L.from);
        to = omega arith;
        small = omega (arith, L.from, L.small);
        all =
            ap (λ (x : ℕ). n + x + count_in (code_at ws) (64 * (last - (j + 1))) (64 * (j + 1))) (whole_word ws j b)
            ∙ (let e : n + count_in (code_at ws) 64 (64 * j) + count_in (code_at ws) (64 * (last - (j + 1))) (64 * (j + 1)) ≡ n
            + (count_in (code_at ws) 64 (64 * j) + count_in (code_at ws) (64 * (last - (j + 1))) (64 * (j + 1))) = omega arith in e)
            ∙ ap (λ (x : ℕ). n + (count_in (code_at ws) 64 (64 * j) + count_in (code_at ws) (64 * (last - (j + 1))) x))
            (let e : 64 * (j + 1) ≡ 64 * j + 64 = omega arith in e)
            ∙ ap (λ (x : ℕ). n + x) (sym (count_add (code_at ws) 64 (64 * (last - (j + 1))) (64 * j)))
            ∙ ap (λ (x : ℕ). n + count_in (code_at ws) x (64 * j)) (let e : 64 + 64 * (last - (j + 1)) ≡ 64 * (last - j) = omega arith in e)
            ∙ L.all;
      }

  none_left : (n j : ℕ) → last ≡ j → count_in (code_at ws) (64 * (last - j)) (64 * j) ≡ 0
  none_left n j e = let k = count_le (code_at ws) (64 * (last - j)) (64 * j) in omega arith

  pub left_end : (n j : ℕ) → last ≤ j → Left ws first last n j → n ≡ count_in (code_at ws) (64 * (last - first)) (64 * first)
  left_end n j h L =
      let e : last ≡ j = omega (arith, L.to) in
      let z = none_left n j e in
      omega (arith, L.all)

-- ---- a stretch

pub between_le : (w a e : ℕ) → ones_between w a e ≤ 64
unfolding ones_between
between_le w a e = count_le _ 64 0

pub body_le : (ws : List ℕ) (k p : ℕ) → count_in (code_at ws) k p ≤ k
body_le ws k p = count_le (code_at ws) k p

module _ (ws : List ℕ) (from to : ℕ) (h : from ≤ to) where
  abbrev count : ℕ → ℕ → ℕ
  count k p = count_in (code_at ws) k p

  -- within a word
  pub same_word : from / 64 ≡ to / 64 → ones_between (get_or ws (from / 64) 0) (from % 64) (to % 64) ≡ count (to - from) from
  same_word e =
      in_word ws (from / 64) (from % 64) (to % 64) (omega arith) (omega arith)
      ∙ ap₂ count (let g : to % 64 - from % 64 ≡ to - from = omega arith in g) (let g : 64 * (from / 64) + from % 64 ≡ from = omega arith in g)

  -- over several
  module _ (a b c : ℕ) (d : (from / 64 ≡ to / 64 → ⊥))
      (head : a ≡ ones_between (get_or ws (from / 64) 0) (from % 64) 64)
      (body : b ≡ count (64 * (to / 64 - (from / 64 + 1))) (64 * (from / 64 + 1)))
      (tail : c ≡ ones_between (get_or ws (to / 64) 0) 0 (to % 64)) where
    start : a ≡ count (64 - from % 64) from
    start =
        head ∙ in_word ws (from / 64) (from % 64) 64 (omega arith) (omega arith)
        ∙ ap (count (64 - from % 64)) (let g : 64 * (from / 64) + from % 64 ≡ from = omega arith in g)

    rest : c ≡ count (to % 64) (64 * (to / 64))
    rest =
        tail ∙ in_word ws (to / 64) 0 (to % 64) (omega arith) (omega arith)
        ∙ ap₂ count (let g : to % 64 - 0 ≡ to % 64 = omega arith in g) (let g : 64 * (to / 64) + 0 ≡ 64 * (to / 64) = omega arith in g)

    abbrev k : ℕ
    k = 64 * (to / 64 - (from / 64 + 1))

    pub in_parts : a + b + c ≡ count (to - from) from
    in_parts =
        let s : from / 64 < to / 64 = omega arith in
        ap₂ (λ (x y : ℕ). x + y) (ap₂ (λ (x y : ℕ). x + y) start body) rest
        ∙ (let g : count (64 - from % 64) from + count k (64 * (from / 64 + 1)) + count (to % 64) (64 * (to / 64)) ≡ count (64 - from % 64) from
        + (count k (64 * (from / 64 + 1)) + count (to % 64) (64 * (to / 64))) = omega arith in g)
        ∙ ap₂ (λ (x y : ℕ). count (64 - from % 64) from + (count k x + count (to % 64) y))
        (let g : 64 * (from / 64 + 1) ≡ from + (64 - from % 64) = omega arith in g)
        (let g : 64 * (to / 64) ≡ from + (64 - from % 64) + k = omega arith in g)
        ∙ ap (λ (x : ℕ). count (64 - from % 64) from + x) (sym (count_add (code_at ws) k (to % 64) (from + (64 - from % 64))))
        ∙ sym (count_add (code_at ws) (64 - from % 64) (k + to % 64) from)
        ∙ ap (λ (x : ℕ). count x from) (let g : 64 - from % 64 + (k + to % 64) ≡ to - from = omega arith in g)
