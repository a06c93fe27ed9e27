-- The words, one by one: what is left says what the whole says.
-- Assumes nothing.
use mathlib.Core.Path.{◌≡◌, refl, sym, ap, ◌∙◌}
use mathlib.Core.Bool.{Bool, true, false, cond}
use mathlib.Core.List.{List, [], ◌∷◌}
use Prim.Native.Nat.{ℕ, suc, ◌+◌, ◌-◌, ◌≤◌, ◌<◌}
use native.Mathlib.Numerals.{add-one}
use native.Mathlib.Omega.{arith}
use lib.IntN.{pos}
use lib.ListN.{length, take, drop}
use Rattle.std.specs.Prelude.{Option, Some, None}
use Rattle.instruction.specs.Answer.{Answer, accepted, refused}
use Rattle.instruction.specs.declared.mode.Mode.TheVariants.{Unwrapped}
use Rattle.listing.specs.Walk.{unchosen}
use Rattle.text.specs.Cut.{cut, up_to}
use Rattle.text.proofs.Cuts.{piece_next, pieces_end, piece_inside}
use Rattle.dis_text.specs.Asked as words
use Rattle.dis_text.specs.Asked.{asked_from, asked_in, may_stand, with_word}
use Rattle.dis_text.specs.Held.{counts, held, Counted, CountedIn, took_of, word_answer}
use Rattle.dis_text.specs.Word.{word_of}
use Rattle.dis_text.specs.declared.asked.Asked.{Asked}
use Rattle.dis_text.specs.declared.word.Word.{Word}

-- what is asked after a word with the number k, which was answered so
abbrev after : ℕ → List (List ℕ) → Answer words.Asked → Answer words.Asked
after k ws (accepted a) = asked_from (suc k) a ws
after k ws (refused n vs) = refused 13 (pos k ∷ [])

one_word : (k : ℕ) (a : words.Asked) (w : List ℕ) (ws : List (List ℕ)) → asked_from k a (w ∷ ws) ≡ after k ws (word_answer a (word_of w))
unfolding asked_from word_answer
one_word k a w ws = by (may_stand a (word_of w))
  where
    by : (t : Bool) → cond t (asked_from (suc k) (with_word a (word_of w)) ws) (refused 13 (pos k ∷ []))
        ≡ after k ws (cond t (accepted (with_word a (word_of w))) (refused 13 []))
    by true = refl
    by false = refl

-- the first of two, or the second
module _ {A : Type 0} (t : Bool) where
  first_of : t ≡ true → (x y : A) → x ≡ cond t x y
  first_of e x y = rw e refl

  second_of : t ≡ false → (x y : A) → y ≡ cond t x y
  second_of e x y = rw e refl

module _ (text : List ℕ) where
  -- the words from a place on
  abbrev left : ℕ → List (List ℕ)
  left at = cut 0 [] (drop at text)

  pub record Asking (entries pins : List ℕ) (asked : Asked) (at k : ℕ) : Type 0 where
    pub inside : at ≤ length text + 1
    pub count : k ≤ at + 2
    pub counted : Counted asked
    pub entry_room : length entries ≡ 256
    pub pin_room : length pins ≡ 256
    pub same : asked_from k (held asked entries pins) (left at) ≡ asked_in text

  pub asking_start : (entries pins : List ℕ) → length entries ≡ 256 → length pins ≡ 256
      → (asked : Asked) → asked ≡ counts 0 0 Unwrapped unchosen false → Asking entries pins asked 0 2
  unfolding asked_in
  asking_start entries pins l m asked e =
      record {
        inside = omega arith;
        count = omega arith;
        counted = rw e (omega arith, omega arith);
        entry_room = l;
        pin_room = m;
        same = rw e refl;
      }

  module _ (entries pins : List ℕ) (asked : Asked) (at k : ℕ) (j : Asking entries pins asked at k) where
    -- no word is left
    none_left : length text ≤ at → cond asked.pinning (refused 13 (pos k ∷ [])) (accepted (held asked entries pins)) ≡ asked_in text
    unfolding asked_from
    none_left h = ap (asked_from k (held asked entries pins)) (sym (pieces_end 0 text at h)) ∙ j.same

    pub asking_end : length text ≤ at → asked.pinning ≡ false → accepted (held asked entries pins) ≡ asked_in text
    asking_end h e = second_of asked.pinning e _ _ ∙ none_left h

    pub asking_pin : length text ≤ at → asked.pinning ≡ true → refused 13 (pos k ∷ []) ≡ asked_in text
    asking_pin h e = first_of asked.pinning e _ _ ∙ none_left h

    module _ (e : ℕ) (p : e ≡ at + length (up_to 0 (drop at text))) (h : at < length text) (w : Option Word) (f : w ≡ word_of (take (e - at) (drop at text)))
      where
        -- it is none
        pub asking_none : w ≡ None → refused 13 (pos k ∷ []) ≡ asked_in text
        unfolding word_answer
        asking_none o =
            let y = sym f ∙ o in
            sym (ap (asked_from k (held asked entries pins)) (piece_next 0 text at e p h) ∙ one_word k (held asked entries pins) _ _
            ∙ ap (λ x. after k (left (e + 1)) (word_answer (held asked entries pins) x)) y) ∙ j.same

        module _ (now-entries now-pins : List ℕ) (r : Option Asked) (g : took_of r now-entries now-pins ≡ word_answer (held asked entries pins) w) where
          answered : after k (left (e + 1)) (took_of r now-entries now-pins) ≡ asked_in text
          answered =
              rw (g, f) (sym (ap (asked_from k (held asked entries pins)) (piece_next 0 text at e p h) ∙ one_word k (held asked entries pins) _ _)) ∙ j.same

          pub asking_bad : r ≡ None → refused 13 (pos k ∷ []) ≡ asked_in text
          asking_bad o = rw o at answered

          pub asking_next : length now-entries ≡ length entries → length now-pins ≡ length pins → CountedIn r → (asked' : Asked) → r ≡ Some asked'
              → Asking now-entries now-pins asked' (e + 1) (k + 1)
          asking_next l m c asked' o =
              let i = piece_inside 0 text at e p (omega arith) in
              record {
                inside = omega arith;
                count = omega (arith, j.count, p);
                counted = rw o at c;
                entry_room = l ∙ j.entry_room;
                pin_room = m ∙ j.pin_room;
                same = rw (add-one k) (rw o at answered);
              }
