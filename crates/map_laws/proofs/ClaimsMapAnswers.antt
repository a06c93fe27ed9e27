-- Each answer over a built map is the one worked out from the byte mask.
-- Assumes nothing.
use Prim.Native.Nat.{ℕ, zero, suc, ◌+◌, ◌-◌, ◌<◌, ◌≤◌}
use native.Mathlib.Omega.{arith}
use mathlib.Core.Path.{◌≡◌, refl, sym, ap, ap₂, ◌∙◌}
use mathlib.Core.Bool.{Bool, true, false, not, ◌||◌}
use mathlib.Core.List.{List, ◌++◌}
use lib.Dec.{eqb, ltb, leb}
use lib.ListN.{length, get_or, take, drop}
use lib.Seq.{drop_at, drop-cons}
use borrow.Author.Tests.{le-ltb, lt-leb}
use Rattle.map.specs.Bits.{bit, count_in, first_in}
use Rattle.map.proofs.Digits.{first_same}
use Rattle.map.specs.Words.{words_for, code_at, data_at}
use Rattle.map.specs.Ask.{test_answer, count_answer, first_answer}
use Rattle.map.proofs.Asking.{allowed, told_all}
use Rattle.views.specs.Mask.{masked, mask_of}
use Rattle.views.proofs.Masking.{mask_length}
use Rattle.views.proofs.Ups.{up_at}
use Rattle.views.proofs.Viewing.{small}
use Rattle.map.specs.Packed.{packed}
use Rattle.map.proofs.Marking.{packed_length}
use Rattle.map_laws.specs.ClaimsMap.{sum, Answers, BuiltAnswers, BuiltPast}
use Rattle.map_laws.proofs.Built.{built, bit_inside, bit_past}
use lib.ListN.{length-append}

-- the bytes of a mask of ones and zeros, summed, are its ones, counted
summed : (f : ℕ → Bool) (mask : List ℕ) → ((q : ℕ) → q < length mask → get_or mask q 0 ≡ bit (f q)) → (k b : ℕ) → b + k ≤ length mask
    → count_in f k b ≡ sum (take k (drop b mask))
unfolding count_in sum
summed f mask e zero b h = refl
summed f mask e (suc k) b h =
    ap₂ (λ (x y : ℕ). x + y) (sym (e b (omega arith))) (summed f mask e k (suc b) (omega arith))
    ∙ sym (ap (λ (xs : List ℕ). sum (take (suc k) xs)) (drop-cons mask b 0 (omega arith)))

zero_digit : (b : Bool) → not b ≡ eqb (bit b) 0
zero_digit true = refl
zero_digit false = refl

module _ (image m : List ℕ) where
  abbrev n : ℕ
  n = length image

  abbrev mask : List ℕ
  mask = mask_of image m

  byte : (q : ℕ) → q < n → get_or mask q 0 ≡ bit (masked image m q)
  unfolding mask_of
  byte q h =
      up_at (λ (c : ℕ). bit (masked image m c)) n 0 q h ∙ ap (λ (c : ℕ). bit (masked image m c)) (let e : 0 + q ≡ q = omega arith in e)

  module _ (rest : List ℕ) (fits : n ≤ 65536) where
    abbrev ws : List ℕ
    ws = packed mask ++ rest

    room : words_for n ≤ length ws
    room = let e = length-append (packed mask) rest in let f = packed_length image m in omega arith

    inside : (q : ℕ) → q < n → get_or mask q 0 ≡ bit (code_at ws q)
    inside q h = byte q h ∙ ap bit (sym (bit_inside image m rest q h))

    answers : Answers mask ws n
    unfolding test_answer count_answer first_answer
    answers = record {
      test = λ p h. sym (told_all ws n (leb n p) p (bit (code_at ws p)) (allowed ws n (leb n p) p fits room (lt-leb n p h)) _ (inside p h));
      count = λ b e l h. sym (told_all ws n (ltb e b || ltb n e) b (count_in (code_at ws) (e - b) b)
          (allowed ws n (ltb e b || ltb n e) b fits room (ap₂ (λ (x y : Bool). x || y) (le-ltb e b l) (le-ltb n e h))) _ (sym (counted b e l h)));
      first = λ p h. sym (told_all ws n (leb n p) p (first_in (data_at ws) (n - p) p) (allowed ws n (leb n p) p fits room (lt-leb n p h)) _ (firsts p h));
    }
      where
        counted : (b e : ℕ) → b ≤ e → e ≤ n → count_in (code_at ws) (e - b) b ≡ sum (take (e - b) (drop b mask))
        counted b e l h =
            let k = mask_length image m in
            summed (code_at ws) mask (λ q g. inside q (omega arith)) (e - b) b (omega arith)

        firsts : (p : ℕ) → p < n → first_in (λ (q : ℕ). eqb (get_or mask q 0) 0) (n - p) p ≡ first_in (data_at ws) (n - p) p
        firsts p h =
            first_same (λ (q : ℕ). eqb (get_or mask q 0) 0) (data_at ws) (n - p) p
            (λ q l g. sym (zero_digit (code_at ws q) ∙ ap (λ (x : ℕ). eqb x 0) (sym (inside q (omega arith)))))

pub built_answers : BuiltAnswers
built_answers image m ws k e =
    let d = built image m ws k e in rw d.words (answers image m (drop (words_for (length image)) ws) (small image m d.sound))

pub built_past : BuiltPast
built_past image m ws k e =
    let d = built image m ws k e in
    let rest = drop (words_for (length image)) ws in
    record {
      clear = λ q h l. ap (λ (v : List ℕ). code_at v q) d.words ∙ bit_past image m rest q h l;
      rest = ap (drop (words_for (length image))) d.words ∙ drop_at (packed (mask_of image m)) rest (words_for (length image)) (packed_length image m);
    }
