-- What is answered of an output in a room: it is written, or the room is too short.
-- Assumes nothing.
use mathlib.Core.Path.{◌≡◌, sym, ap, ◌∙◌}
use mathlib.Core.List.{List, [], ◌∷◌}
use Prim.Native.Nat.{ℕ, ◌≤◌, ◌<◌}
use native.Mathlib.Omega.{arith}
use lib.IntN.{ℤ, pos}
use lib.ListN.{length}
use lib.Seq.{sets}
use borrow.Author.Tests.{lt-ltb, le-ltb}
use Rattle.instruction.specs.Answer.{Answer, accepted, refused}
use Rattle.instruction.proofs.Judging.{pass, stop, done, accepts, accepts_too, refuses_too}
use Rattle.marks.specs.declared.sizes.SizeError.TheVariants.{LongImage, ShortMarks}
use Rattle.views.specs.View.{view_refused, room_answer, room_after}
use Rattle.views.specs.declared.view.ViewError.{ViewError}
use Rattle.views.specs.declared.view.ViewError.TheVariants.{Size, Damaged, NoRoom}
use Rattle.views.proofs.Rooming.{no_room_for}
use Rattle.list_text.proofs.RefusalPutting.{put_shown}
use Rattle.dis_text.specs.Message.{message}
use Rattle.dis_text.specs.Output.{Output, listing, told, printed, output_of, shown_answer}

module _ (d : Answer (List ℕ)) (room : List ℕ) where
  abbrev pub Is : Answer Output → List ℕ → Type 0
  Is r t = (r ≡ shown_answer d room) × (t ≡ room_after [] (printed d) room)

  short : length room < length (printed d) → shown_answer d room ≡ refused 11 (pos (length (printed d)) ∷ [])
  unfolding shown_answer
  short h = stop _ _ _ (lt-ltb (length room) (length (printed d)) h)

  long : length (printed d) ≤ length room → shown_answer d room ≡ accepted (output_of d)
  unfolding shown_answer
  long h = pass _ _ _ (le-ltb (length room) (length (printed d)) h) ∙ done _

  -- k bytes are needed
  pub too_short_lem : (k : ℕ) → length (printed d) ≡ k → length room < k → Is (refused 11 (pos k ∷ [])) room
  too_short_lem k e h =
      (ap (λ (j : ℕ). refused 11 (pos j ∷ [])) (sym e) ∙ sym (short (omega (arith, e))), (no_room_for [] (printed d) room (done 0) k e h).1)

-- a message is written
pub says : (n : ℕ) (vs : List ℤ) (room t : List ℕ) (k : ℕ) → length (message n vs) ≡ k → k ≤ length room → t ≡ sets room 0 (message n vs)
    → Is (refused n vs) room (accepted (told k)) t
says n vs room t k e h f =
    (ap (λ (j : ℕ). accepted (told j)) (sym e) ∙ sym (long (refused n vs) room (omega (arith, e))), (put_shown (message n vs) room t k e h f).1)

-- a listing is written, or there is no room
module _ (out room : List ℕ) where
  pub listed : (n : ℕ) → accepted n ≡ room_answer [] out room → accepted (listing n) ≡ shown_answer (accepted out) room
  unfolding room_answer shown_answer
  listed n e =
      let g : length out ≡ n = accepts _ (length out) n (sym e) in
      ap (λ (k : ℕ). accepted (listing k)) (sym g) ∙ sym (accepts_too _ (length out) (listing (length out)) (sym e ∙ ap accepted (sym g)))

  pub not_listed : (d : ViewError) → view_refused d ≡ room_answer [] out room → view_refused d ≡ shown_answer (accepted out) room
  unfolding room_answer shown_answer
  not_listed (Size (LongImage n)) e = sym (refuses_too _ _ _ 1 _ (sym e))
  not_listed (Size (ShortMarks n)) e = sym (refuses_too _ _ _ 2 _ (sym e))
  not_listed (Damaged p) e = sym (refuses_too _ _ _ 6 _ (sym e))
  not_listed (NoRoom n) e = sym (refuses_too _ _ _ 11 _ (sym e))

-- what is printed is the same
pub shown_as : (d e : Answer (List ℕ)) → d ≡ e → (room : List ℕ) (r : Answer Output) (t : List ℕ) → Is e room r t → Is d room r t
shown_as d e f room r t p = (
  p.0 ∙ ap (λ (x : Answer (List ℕ)). shown_answer x room) (sym f),
  p.1 ∙ ap (λ (x : Answer (List ℕ)). room_after [] (printed x) room) (sym f),
)
