-- The answers of a query, in the order of the code.
-- Assumes nothing.
use mathlib.Core.Path.{◌≡◌, sym, ap, ◌∙◌}
use mathlib.Core.Bool.{Bool, true, false}
use mathlib.Core.List.{List, [], ◌∷◌}
use Prim.Native.Nat.{ℕ, ◌<◌, ◌≤◌}
use lib.IntN.{pos}
use lib.ListN.{length}
use borrow.Author.Tests.{lt-ltb, le-ltb, ltb-false}
use Rattle.instruction.specs.Answer.{Answer, accepted, refused, Refusal, judge}
use Rattle.instruction.proofs.Accepting.{passed}
use Rattle.instruction.proofs.Judging.{pass, stop, done, refuses_too, accepts_too}
use Rattle.map.specs.Words.{words_for}
use Rattle.map.specs.Ask.{ask_refusals, ask_refused}
use Rattle.map.specs.declared.ask.AskError.{AskError}
use Rattle.map.specs.declared.ask.AskError.TheVariants.{LongImage, NoRoom, Outside}

-- nothing is refused
pub record Good (ws : List ℕ) (n : ℕ) (o : Bool) : Type 0 where
  pub fits : n ≤ 65536
  pub room : words_for n ≤ length ws
  pub inside : o ≡ false

module _ (ws : List ℕ) (n : ℕ) (o : Bool) (p : ℕ) where
  abbrev refusals : List Refusal
  refusals = ask_refusals ws n o p

  abbrev Is : Answer (Unit {0}) → Type 0
  Is r = r ≡ judge refusals tt

  pub long : 65536 < n → Is (refused 1 (pos n ∷ []))
  long h = sym (stop _ _ tt (lt-ltb 65536 n h))

  module _ (fits : n ≤ 65536) where
    pub no_room_lem : length ws < words_for n → Is (refused 11 (pos (words_for n) ∷ []))
    no_room_lem h = sym (pass _ _ tt (le-ltb 65536 n fits) ∙ stop _ _ tt (lt-ltb (length ws) (words_for n) h))

    module _ (room : words_for n ≤ length ws) where
      pub outside : o ≡ true → Is (refused 17 (pos p ∷ []))
      outside e = sym (pass _ _ tt (le-ltb 65536 n fits) ∙ pass _ _ tt (le-ltb (length ws) (words_for n) room) ∙ stop _ _ tt e)

      pub allowed : o ≡ false → Is (accepted tt)
      allowed e = sym (pass _ _ tt (le-ltb 65536 n fits) ∙ pass _ _ tt (le-ltb (length ws) (words_for n) room) ∙ pass _ _ tt e ∙ done tt)

  module _ (a : ℕ) where
    -- what the refusals say, whatever is asked for
    pub refused_all : (e : AskError) → Is (ask_refused e) → ask_refused e ≡ judge refusals a
    refused_all (LongImage k) f = sym (refuses_too refusals tt a 1 (pos k ∷ []) (sym f))
    refused_all (NoRoom k) f = sym (refuses_too refusals tt a 11 (pos k ∷ []) (sym f))
    refused_all (Outside k) f = sym (refuses_too refusals tt a 17 (pos k ∷ []) (sym f))

    pub told_all : Is (accepted tt) → (v : ℕ) → v ≡ a → accepted v ≡ judge refusals a
    told_all e v f = ap accepted f ∙ sym (accepts_too refusals tt a (sym e))

  pub good : Is (accepted tt) → Good ws n o
  good e =
      let l = passed _ _ _ (sym e) in
      let r = passed _ _ _ l.1 in
      record { fits = ltb-false 65536 n l.0; room = ltb-false (length ws) (words_for n) r.0; inside = (passed _ _ _ r.1).0 }
