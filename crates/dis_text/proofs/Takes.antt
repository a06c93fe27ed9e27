-- What is asked with one word more, in two rooms.
-- Assumes nothing.
use mathlib.Core.Path.{◌≡◌, refl, sym, ap, ◌∙◌}
use mathlib.Core.Bool.{Bool, true, false, cond, not}
use mathlib.Core.List.{List, [], ◌∷◌, ◌++◌}
use Prim.Native.Nat.{ℕ, ◌+◌, ◌≤◌}
use native.Mathlib.Numerals.{add-one}
use native.Mathlib.Omega.{arith}
use borrow.Author.Tests.{ltb-true}
use lib.Dec.{ltb}
use lib.ListN.{length, take, set}
use lib.Seq.{length-take-le, take-suc-set}
use Rattle.std.specs.Prelude.{Option, Some, None}
use Rattle.instruction.specs.Answer.{accepted, refused}
use Rattle.instruction.specs.declared.mode.Mode.{Mode}
use Rattle.instruction.specs.declared.mode.Mode.TheVariants.{Wrapping}
use Rattle.listing.specs.declared.tabbed.Arrivals.{Arrivals}
use Rattle.listing.specs.declared.tabbed.Arrivals.TheVariants.{Declined}
use Rattle.dis_text.specs.Asked as words
use Rattle.dis_text.specs.Held.{counts, held, Counted, CountedIn, setting, took_of, word_answer}
use Rattle.dis_text.specs.declared.asked.Asked.{Asked}
use Rattle.dis_text.specs.declared.word.Word.{Word}
use Rattle.dis_text.specs.declared.word.Word.TheVariants.{Number, Wraps, NoArrivals, Pin}

-- the tests of a word, and what it leaves
answer_by_lem : (a : words.Asked) (w : Option Word) (t : Bool) → words.may_stand a w ≡ t → cond t (accepted (words.with_word a w)) (refused 13 []) ≡ word_answer a w
unfolding word_answer
answer_by_lem a w t e = rw e refl

-- a room that holds k numbers, and one number more
module _ (room : List ℕ) (l : length room ≡ 256) (k : ℕ) (h : k ≤ 256) where
  pub room_left : (t : Bool) → t ≡ ltb k (length room) → ltb (length (take k room)) 256 ≡ t
  room_left t e = rw (length-take-le k room (omega (arith, l)), ← l) (sym e)

  pub one_more_lem : (n : ℕ) → true ≡ ltb k (length room) → (take (k + 1) (set room k n) ≡ take k room ++ n ∷ []) × (k + 1 ≤ 256)
  one_more_lem n e =
      let i = ltb-true k (length room) (sym e) in
      (rw add-one (take-suc-set room k n i), omega (arith, l))

module _ (a : Asked) (n : ℕ) (entries pins : List ℕ) (l : length entries ≡ 256) (m : length pins ≡ 256) (c : Counted a) where
  module _ (e : a.pinning ≡ true) where
    pub pin_off : false ≡ ltb a.pins (length pins) → refused 13 [] ≡ word_answer (held a entries pins) (Some (Number n))
    pin_off f = answer_by_lem (held a entries pins) (Some (Number n)) false (rw e (room_left pins m a.pins c.1 false f))

    pub pin_on : true ≡ ltb a.pins (length pins) → (now : List ℕ) → now ≡ set pins a.pins n
        → (r : Asked) → r ≡ counts a.entries (a.pins + 1) a.mode a.arrivals false
        → (accepted (held r entries now) ≡ word_answer (held a entries pins) (Some (Number n))) × Counted r
    pin_on f now g r k =
        let o = one_more_lem pins m a.pins c.1 n f in
        let w : held r entries now ≡ words.with_word (held a entries pins) (Some (Number n)) = rw (k, g, e, o.0) refl in
        (ap accepted w ∙ answer_by_lem (held a entries pins) (Some (Number n)) true (rw e (room_left pins m a.pins c.1 true f)), rw k (c.0, o.1))

  module _ (e : a.pinning ≡ false) where
    pub entry_off : false ≡ ltb a.entries (length entries) → refused 13 [] ≡ word_answer (held a entries pins) (Some (Number n))
    entry_off f = answer_by_lem (held a entries pins) (Some (Number n)) false (rw e (room_left entries l a.entries c.0 false f))

    pub entry_on : true ≡ ltb a.entries (length entries) → (now : List ℕ) → now ≡ set entries a.entries n
        → (r : Asked) → r ≡ counts (a.entries + 1) a.pins a.mode a.arrivals false
        → (accepted (held r now pins) ≡ word_answer (held a entries pins) (Some (Number n))) × Counted r
    entry_on f now g r k =
        let o = one_more_lem entries l a.entries c.0 n f in
        let w : held r now pins ≡ words.with_word (held a entries pins) (Some (Number n)) = rw (k, g, e, o.0) refl in
        (ap accepted w ∙ answer_by_lem (held a entries pins) (Some (Number n)) true (rw e (room_left entries l a.entries c.0 true f)), rw k (o.1, c.1))

-- a word that changes settings
module _ (a : Asked) (entries pins : List ℕ) (c : Counted a) (w : Option Word) (mode : Mode) (arrivals : Arrivals) (pinning : Bool)
    (may : words.may_stand (held a entries pins) w ≡ not a.pinning)
    (gives : words.with_word (held a entries pins) w ≡ held (counts a.entries a.pins mode arrivals pinning) entries pins) where
  setting_took : (r : Option Asked) → r ≡ setting a mode arrivals pinning
      → (took_of r entries pins ≡ word_answer (held a entries pins) w) × CountedIn r
  setting_took r e = by a.pinning refl
    where
      by : (t : Bool) → a.pinning ≡ t → (took_of r entries pins ≡ word_answer (held a entries pins) w) × CountedIn r
      by true f =
          let g : r ≡ None = e ∙ rw f refl in
          rw g (answer_by_lem (held a entries pins) w false (may ∙ rw f refl), tt)
      by false f =
          let g : r ≡ Some (counts a.entries a.pins mode arrivals pinning) = e ∙ rw f refl in
          rw g (ap accepted (sym gives) ∙ answer_by_lem (held a entries pins) w true (may ∙ rw f refl), c)

module _ (a : Asked) (entries pins : List ℕ) (c : Counted a) (w : Word) (r : Option Asked) where
  abbrev Takes : Type 0
  Takes = (took_of r entries pins ≡ word_answer (held a entries pins) (Some w)) × CountedIn r

  pub takes_wraps : w ≡ Wraps → r ≡ setting a Wrapping a.arrivals false → Takes
  takes_wraps e f = rw e (setting_took a entries pins c (Some Wraps) Wrapping a.arrivals false refl refl r f)

  pub takes_no_arrivals : w ≡ NoArrivals → r ≡ setting a a.mode Declined false → Takes
  takes_no_arrivals e f = rw e (setting_took a entries pins c (Some NoArrivals) a.mode Declined false refl refl r f)

  pub takes_pin : w ≡ Pin → r ≡ setting a a.mode a.arrivals true → Takes
  takes_pin e f = rw e (setting_took a entries pins c (Some Pin) a.mode a.arrivals true refl refl r f)
