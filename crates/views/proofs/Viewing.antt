-- The one answer of a view and the one content of its room: refused by what all views share, too little room, or shown.
-- Assumes nothing.
use mathlib.Core.Path.{◌≡◌, refl, sym, subst, ◌∙◌}
use mathlib.Core.List.{List, [], ◌∷◌, ◌++◌}
use Prim.Native.Nat.{ℕ, ◌<◌, ◌≤◌}
use lib.IntN.{pos}
use lib.ListN.{length, drop}
use borrow.Author.Tests.{ltb-false}
use Rattle.instruction.proofs.Accepting.{passed}
use Rattle.instruction.specs.Answer.{Answer, accepted, refused, Refusal, judge, after}
use Rattle.instruction.proofs.Judging.{pass, done, first_of, refuses_too, accepts_too}
use Rattle.marks.specs.declared.sizes.SizeError.TheVariants.{LongImage, ShortMarks}
use Rattle.views.specs.View.{Sound, view_refused, view_refusals, room_refusals, room_answer, room_after, view_answer, view_room}
use Rattle.views.specs.declared.view.ViewError.{ViewError}
use Rattle.views.specs.declared.view.ViewError.TheVariants.{Size, Damaged, NoRoom}
use Rattle.views.proofs.Rooming as rooming

abbrev pub Is : List ℕ → List ℕ → List ℕ → List ℕ → Answer ℕ → List ℕ → Type 0
Is image m out room r t = (r ≡ view_answer image m out room) × (t ≡ view_room image m out room)

-- what these refusals say where nothing is asked for
abbrev pub Judged : List Refusal → Answer (Unit {0}) → Type 0
Judged rs r = r ≡ judge rs tt

-- where they refuse, a call that goes on by others refuses alike
pub refused_first : {B : Type 0} (rs qs : List Refusal) (b : B) (e : ViewError) → Judged rs (view_refused e) → view_refused e ≡ judge (rs ++ qs) b
refused_first rs qs b (Size (LongImage k)) f = sym (first_of qs tt b rs 1 (pos k ∷ []) (sym f))
refused_first rs qs b (Size (ShortMarks k)) f = sym (first_of qs tt b rs 2 (pos k ∷ []) (sym f))
refused_first rs qs b (Damaged k) f = sym (first_of qs tt b rs 6 (pos k ∷ []) (sym f))
refused_first rs qs b (NoRoom k) f = sym (first_of qs tt b rs 11 (pos k ∷ []) (sym f))

-- and so does one that asks for something
pub refused_too : {B : Type 0} (rs : List Refusal) (b : B) (e : ViewError) → Judged rs (view_refused e) → view_refused e ≡ judge rs b
refused_too rs b (Size (LongImage k)) f = sym (refuses_too rs tt b 1 (pos k ∷ []) (sym f))
refused_too rs b (Size (ShortMarks k)) f = sym (refuses_too rs tt b 2 (pos k ∷ []) (sym f))
refused_too rs b (Damaged k) f = sym (refuses_too rs tt b 6 (pos k ∷ []) (sym f))
refused_too rs b (NoRoom k) f = sym (refuses_too rs tt b 11 (pos k ∷ []) (sym f))

-- then nothing is written
pub refused_after : {A B : Type 0} (e : ViewError) (r : Answer A) (x y : B) → view_refused e ≡ r → y ≡ after r x y
refused_after (Size (LongImage k)) r x y f = rw (sym f)
refused_after (Size (ShortMarks k)) r x y f = rw (sym f)
refused_after (Damaged k) r x y f = rw (sym f)
refused_after (NoRoom k) r x y f = rw (sym f)

module _ (image m : List ℕ) where
  pub is_sound : Judged (view_refusals image m) (accepted tt) → Sound image m
  is_sound e = accepts_too (view_refusals image m) tt 0 (sym e)

  -- then the sizes are right
  pub small : Sound image m → length image ≤ 65536
  unfolding view_refusals
  small s = ltb-false 65536 (length image) (passed _ _ _ s).0

  pub covered : Sound image m → length image ≤ length m
  unfolding view_refusals
  covered s = ltb-false (length m) (length image) (passed _ _ _ (passed _ _ _ s).1).0

  module _ (out room : List ℕ) where
    -- k is how much would be shown
    pub refused_in : (k : ℕ) → length out ≡ k → (e : ViewError) → Judged (room_refusals image m (length room) k) (view_refused e)
        → Is image m out room (view_refused e) room
    unfolding view_answer view_room room_answer room_after
    refused_in k g e f =
        let h : view_refused e ≡ view_answer image m out room =
        refused_too _ _ e (subst (λ (j : ℕ). Judged (room_refusals image m (length room) j) (view_refused e)) (sym g) f) in
        (h, refused_after e _ _ room h)

    pub refused_all : (e : ViewError) → Judged (view_refusals image m) (view_refused e) → Is image m out room (view_refused e) room
    refused_all e f = refused_in (length out) refl e (refused_first (view_refusals image m) _ tt e f)

    module _ (s : Sound image m) where
      pub no_room_for : (k : ℕ) → length out ≡ k → length room < k → Is image m out room (refused 11 (pos k ∷ [])) room
      unfolding view_answer view_room
      no_room_for k e h = rooming.no_room_for (view_refusals image m) out room s k e h

      pub shown_as : (k : ℕ) → length out ≡ k → k ≤ length room → (t : List ℕ) → t ≡ out ++ drop k room → Is image m out room (accepted k) t
      unfolding view_answer view_room
      shown_as k e h t f = rooming.shown_as (view_refusals image m) out room s k e h t f

-- where a list of refusals accepts, so do its beginning and its rest
both_accept : {A B : Type 0} (rs qs : List Refusal) (a : A) (b c : B) → judge (rs ++ qs) b ≡ accepted c → (judge rs a ≡ accepted a) × (judge qs b ≡ accepted c)
unfolding judge
both_accept [] qs a b c e = (done a, e)
both_accept (r ∷ rs) qs a b c e =
    let p = passed r (rs ++ qs) b e in let q = both_accept rs qs a b c p.1 in (pass r rs a p.0 ∙ q.0, q.1)

-- none of these refuses, so nothing is damaged and there is room
module _ (image m : List ℕ) (room k : ℕ) (e : Judged (room_refusals image m room k) (accepted tt)) where
  pub room_sound : Sound image m
  room_sound = (both_accept {A = ℕ} (view_refusals image m) _ 0 tt tt (sym e)).0

  pub room_fits : k ≤ room
  room_fits = ltb-false room k (passed _ _ _ (both_accept (view_refusals image m) _ (tt {0}) tt tt (sym e)).1).0

-- what is then laid over the beginning of the room is shown
pub shown_in : (image m out room : List ℕ) (k : ℕ) → length out ≡ k → Judged (room_refusals image m (length room) k) (accepted tt) → (t : List ℕ)
    → t ≡ out ++ drop k room → Is image m out room (accepted k) t
shown_in image m out room k g e = shown_as image m out room (room_sound image m (length room) k e) k g (room_fits image m (length room) k e)
