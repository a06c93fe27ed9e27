-- Nothing is refused but 13 with the number of a word, 1 and 5.
-- Assumes nothing.
use mathlib.Core.Path.{◌≡◌, refl, sym, ap, ◌∙◌}
use mathlib.Core.Bool.{Bool, true, false, cond}
use mathlib.Core.List.{List, [], ◌∷◌}
use mathlib.Core.Logic.{◌⊎◌, inl, inr}
use Prim.Native.Nat.{ℕ, suc, ◌+◌, ◌≤◌, ◌<◌}
use native.Mathlib.Omega.{arith}
use lib.IntN.{ℤ, pos}
use lib.ListN.{length}
use Rattle.instruction.proofs.Accepting.{differ}
use Rattle.instruction.specs.Answer.{Answer, accepted, refused}
use Rattle.reach.proofs.Cases.{lt_or_le}
use Rattle.trace.specs.Run.{RunResult}
use Rattle.text.specs.Cut.{cut}
use Rattle.text.proofs.Pieces.{pieces_few}
use Rattle.list_text.proofs.Images.{answer}
use Rattle.list_text.proofs.RunRefused.{traced_one, run_five, run_refused}
use Rattle.dis_text.specs.Asked.{Asked, begun, may_stand, with_word, asked_from, asked_in}
use Rattle.dis_text.specs.ClaimsOutput.{OnlyThree}
use Rattle.dis_text.specs.Message.{value}
use Rattle.dis_text.specs.Output.{entries_for, listed_for, dis_of}
use Rattle.dis_text.specs.Word.{word_of}

-- 13 with a word's number, which is no higher than this
abbrev Thirteen : ℕ → ℕ → List ℤ → Type 0
Thirteen most n vs = (n ≡ 13) × (value vs 0 ≤ most)

this_word : (k most n : ℕ) (vs : List ℤ) → k ≤ most → ◌≡◌ {A = Answer Asked} (refused 13 (pos k ∷ [])) (refused n vs) → Thirteen most n vs
this_word k most n vs h e =
    let f : 13 ≡ n = cc in
    let g : pos k ∷ [] ≡ vs = cc in
    (sym f, let v = ap (λ (us : List ℤ). value us 0) g in omega (arith, v))

words_13 : (k : ℕ) (a : Asked) (ws : List (List ℕ)) (n : ℕ) (vs : List ℤ) → asked_from k a ws ≡ refused n vs → Thirteen (k + length ws) n vs
unfolding asked_from
words_13 k a [] n vs e = by a.pinning e
  where
    by : (t : Bool) → cond t (refused 13 (pos k ∷ [])) (accepted a) ≡ refused n vs → Thirteen (k + 0) n vs
    by true f = this_word k (k + 0) n vs (omega arith) f
    by false f = absurd (differ (sym f))
words_13 k a (w ∷ ws) n vs e = by (may_stand a (word_of w)) e (words_13 (suc k) (with_word a (word_of w)) ws n vs)
  where
    more : Thirteen (suc k + length ws) n vs → Thirteen (k + suc (length ws)) n vs
    more p = (p.0, omega (arith, p.1))

    by : (t : Bool) → cond t (asked_from (suc k) (with_word a (word_of w)) ws) (refused 13 (pos k ∷ [])) ≡ refused n vs
        → (asked_from (suc k) (with_word a (word_of w)) ws ≡ refused n vs → Thirteen (suc k + length ws) n vs) → Thirteen (k + suc (length ws)) n vs
    by true f rest = more (rest f)
    by false f rest = this_word k (k + suc (length ws)) n vs (omega arith) f

asked_13 : (words : List ℕ) (n : ℕ) (vs : List ℤ) → asked_in words ≡ refused n vs → Thirteen (2 + length words) n vs
unfolding asked_in
asked_13 words n vs e =
    let p = words_13 2 begun (cut 0 [] words) n vs e in (p.0, omega (arith, p.1, pieces_few 0 words))

-- what the run of what is asked says
abbrev run_for : Asked → List ℕ → Answer RunResult
run_for a image = answer a.mode image (entries_for a.entries) a.pins

-- why there is no listing
pub data Why (words image : List ℕ) (n : ℕ) (vs : List ℤ) : Type 0 where
  word : n ≡ 13 → value vs 0 ≤ 2 + length words → Why words image n vs
  long : n ≡ 1 → Why words image n vs
  cut_off : (a : Asked) → n ≡ 5 → run_for a image ≡ refused n vs → Why words image n vs

pub why : (words image : List ℕ) (n : ℕ) (vs : List ℤ) → dis_of words image ≡ refused n vs → Why words image n vs
unfolding dis_of
why words image n vs e = by (asked_in words) refl e
  where
    run : (a : Asked) → listed_for (accepted a) image ≡ refused n vs → (65536 < length image) ⊎ (length image ≤ 65536) → Why words image n vs
    run a f (inl h) =
        let g = sym (traced_one a.mode image (entries_for a.entries) a.pins a.arrivals h) ∙ f in
        let q : 1 ≡ n = cc in long (sym q)
    run a f (inr h) =
        let g = run_refused a.mode image (entries_for a.entries) a.pins h a.arrivals n vs f in
        cut_off a (run_five a.mode image (entries_for a.entries) a.pins h n vs g) g

    by : (r : Answer Asked) → asked_in words ≡ r → listed_for r image ≡ refused n vs → Why words image n vs
    by (accepted a) g f = run a f (lt_or_le 65536 (length image))
    by (refused k us) g f =
        let q : ◌≡◌ {A = Answer Asked} (refused k us) (refused n vs) = (let x : k ≡ n = cc in let y : us ≡ vs = cc in cc) in
        let p = asked_13 words n vs (g ∙ q) in word p.0 p.1

pub only_three : OnlyThree
only_three words image n vs e = by (why words image n vs e)
  where
    by : Why words image n vs → (n ≡ 13) ⊎ ((n ≡ 1) ⊎ (n ≡ 5))
    by (word p q) = inl p
    by (long p) = inr (inl p)
    by (cut_off a p q) = inr (inr p)
