-- The one answer to an input and the one content of each room: a bad line, too little room, or all written.
-- Assumes nothing.
use mathlib.Core.Path.{◌≡◌, refl, sym, ap, ◌∙◌}
use mathlib.Core.Bool.{Bool, true, false, ◌||◌}
use mathlib.Core.List.{List, [], ◌∷◌}
use mathlib.Core.Logic.{◌⊎◌, inl, inr}
use Prim.Native.Nat.{ℕ, ◌<◌, ◌≤◌}
use lib.Dec.{ltb}
use lib.IntN.{ℤ, pos}
use lib.ListN.{length}
use borrow.Author.Tests.{lt-ltb, le-ltb}
use Rattle.std.specs.Prelude.{Ok, Err}
use Rattle.instruction.specs.Answer.{Answer, accepted, refused, judge, after, laid}
use Rattle.instruction.proofs.Judging.{pass, stop, done, first_of, past_all, accepts}
use Rattle.list_text.specs.Text.{counts_of, entries_of, image_of, input_refusals, parsed_of, parse_answer, parse_entries, parse_image}
use Rattle.list_text.specs.declared.parsed.Input.{Input}
use Rattle.list_text.specs.declared.parsed.ParseError.{ParseError}
use Rattle.list_text.specs.declared.parsed.ParseError.TheVariants.{Malformed, NoRoom}

or_true : (t : Bool) → (t || true) ≡ true
or_true true = refl
or_true false = refl

module _ (text room image : List ℕ) where
  abbrev pub Is : Answer Input → List ℕ → List ℕ → Type 0
  Is r s t = (r ≡ parse_answer text room image) × (s ≡ parse_entries text room image) × (t ≡ parse_image text room image)

  -- what the lines alone are judged to be
  abbrev judged : Answer Input
  judged = judge (input_refusals text) (counts_of text)

  held : (r : Answer Input) → parse_answer text room image ≡ r → Is r (after r (laid (entries_of text) room) room) (after r (laid (image_of text) image) image)
  unfolding parse_entries parse_image
  held r e = (sym e, rw e, rw e)

  said : (n : ℕ) (vs : List ℤ) → refused n vs ≡ judged → Is (refused n vs) room image
  unfolding parse_answer
  said n vs e = held (refused n vs) (first_of _ (counts_of text) (counts_of text) (input_refusals text) n vs (sym e))

  -- an answer other than that all lines are good
  pub other : (d : ParseError) → parsed_of (Err d) ≡ judged → Is (parsed_of (Err d)) room image
  other (Malformed l) e = said 13 (pos l ∷ []) e
  other (NoRoom c) e = said 11 (pos c.entries ∷ pos c.bytes ∷ []) e

  module _ (c : Input) (e : parsed_of (Ok c) ≡ judged) where
    -- the counts are those of the text
    same : counts_of text ≡ c
    same = accepts (input_refusals text) (counts_of text) c (sym e)

    good : judged ≡ accepted (counts_of text)
    good = sym e ∙ ap accepted (sym same)

    pub entries_of_lem : length (entries_of text) ≡ c.entries
    unfolding counts_of
    entries_of_lem = ap (λ (x : Input). x.entries) same

    pub bytes_of : length (image_of text) ≡ c.bytes
    unfolding counts_of
    bytes_of = ap (λ (x : Input). x.bytes) same

    short : (ltb (length room) (length (entries_of text)) || ltb (length image) (length (image_of text))) ≡ true
        → Is (refused 11 (pos c.entries ∷ pos c.bytes ∷ [])) room image
    unfolding parse_answer
    short h =
        rw (← entries_of_lem, ← bytes_of)
        (held (refused 11 (pos (length (entries_of text)) ∷ pos (length (image_of text)) ∷ []))
        (past_all _ (counts_of text) (counts_of text) (input_refusals text) good ∙ stop _ _ _ h))

    few_entries : length room < c.entries → Is (parsed_of (Err (NoRoom c))) room image
    few_entries h = short (rw (lt-ltb (length room) (length (entries_of text)) (rw entries_of_lem h)))

    few_bytes : length image < c.bytes → Is (parsed_of (Err (NoRoom c))) room image
    few_bytes h = short (rw (lt-ltb (length image) (length (image_of text)) (rw bytes_of h)) (or_true (ltb (length room) (length (entries_of text)))))

    pub little_room : (length room < c.entries) ⊎ ((c.entries ≤ length room) × (length image < c.bytes)) → Is (parsed_of (Err (NoRoom c))) room image
    little_room (inl h) = few_entries h
    little_room (inr h) = few_bytes h.1

    module _ (h : c.entries ≤ length room) (k : c.bytes ≤ length image) where
      pub room_for : (length (entries_of text) ≤ length room) × (length (image_of text) ≤ length image)
      room_for = (rw entries_of_lem h, rw bytes_of k)

      pub shown : (s t : List ℕ) → s ≡ laid (entries_of text) room → t ≡ laid (image_of text) image → Is (accepted c) s t
      unfolding parse_answer
      shown s t x y =
          let f = room_for in
          let w : parse_answer text room image ≡ accepted (counts_of text) =
          past_all _ (counts_of text) (counts_of text) (input_refusals text) good
          ∙ pass _ _ _ (rw (le-ltb (length room) (length (entries_of text)) f.0, le-ltb (length image) (length (image_of text)) f.1))
          ∙ done (counts_of text) in
          let i = held (accepted (counts_of text)) w in
          (ap accepted (sym same) ∙ i.0, x ∙ i.1, y ∙ i.2)
