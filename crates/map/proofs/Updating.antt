-- The one answer of an update and the one content of its words: what a view with this room refuses, then an untraced position.
-- Assumes nothing.
use mathlib.Core.Path.{◌≡◌, refl, sym, ap, subst, ◌∙◌}
use mathlib.Core.Bool.{true, false, not}
use mathlib.Core.List.{List, [], ◌∷◌, ◌++◌, append_assoc}
use Prim.Native.Nat.{ℕ, ◌≤◌, ◌<◌}
use lib.IntN.{pos}
use lib.ListN.{length}
use borrow.Author.Tests.{le-ltb, lt-ltb}
use Rattle.instruction.specs.Answer.{Answer, accepted, refused, Refusal, refuse, judge, after}
use Rattle.instruction.proofs.Judging.{pass, stop, done, past_all}
use Rattle.targets.specs.At.{size_here}
use Rattle.views.specs.Positions.{traced_at}
use Rattle.views.specs.View.{Sound, view_refused, view_refusals, room_refusals}
use Rattle.views.specs.declared.view.ViewError.{ViewError}
use Rattle.views.specs.declared.view.ViewError.TheVariants.{NoRoom}
use Rattle.views.proofs.Viewing.{Judged, refused_first, refused_after}
use Rattle.map.specs.Words.{words_for}
use Rattle.map.specs.Packed.{covered}
use Rattle.map.specs.Update.{update_answer, update_words}

module _ (image m ws : List ℕ) (p : ℕ) where
  abbrev pub Is : Answer ℕ → List ℕ → Type 0
  Is r t = (r ≡ update_answer image m ws p) × (t ≡ update_words image m ws p)

  abbrev pub roomed : List Refusal
  roomed = room_refusals image m (length ws) (words_for (length image))

  abbrev untraced : List Refusal
  untraced = refuse (not (traced_at image m p)) 17 (pos p ∷ []) ∷ []

  -- k is how many words are asked for
  pub as_roomed : (k : ℕ) → k ≡ words_for (length image) → (r : Answer (Unit {0})) → Judged (room_refusals image m (length ws) k) r → Judged roomed r
  as_roomed k e r f = subst (λ (j : ℕ). Judged (room_refusals image m (length ws) j) r) e f

  -- nothing is damaged, and there is room
  pub room_left : Sound image m → words_for (length image) ≤ length ws → Judged roomed (accepted tt)
  room_left s h =
      sym (past_all _ 0 tt (view_refusals image m) s ∙ pass _ _ _ (le-ltb (length ws) (words_for (length image)) h) ∙ done tt)

  whole : judge (roomed ++ untraced) (size_here image p) ≡ update_answer image m ws p
  unfolding update_answer
  whole = ap (λ (rs : List Refusal). judge rs (size_here image p)) (append_assoc (view_refusals image m) _ untraced)

  held : (r : Answer ℕ) → update_answer image m ws p ≡ r → (t : List ℕ) → after r (covered ws (size_here image p) p) ws ≡ t → Is r t
  unfolding update_words
  held r e t f = (sym e, rw e (sym f))

  pub refused_all : (e : ViewError) → Judged roomed (view_refused e) → Is (view_refused e) ws
  unfolding update_words
  refused_all e f =
      let h : view_refused e ≡ update_answer image m ws p = refused_first roomed untraced (size_here image p) e f ∙ whole in
      (h, refused_after e _ _ ws h)

  pub no_room_lem : Sound image m → length ws < words_for (length image) → Is (refused 11 (pos (words_for (length image)) ∷ [])) ws
  no_room_lem s h =
      refused_all (NoRoom (words_for (length image)))
      (sym (past_all _ 0 tt (view_refusals image m) s ∙ stop _ _ _ (lt-ltb (length ws) (words_for (length image)) h)))

  module _ (s : Judged roomed (accepted tt)) where
    rest : update_answer image m ws p ≡ judge untraced (size_here image p)
    rest = sym whole ∙ past_all untraced tt (size_here image p) roomed (sym s)

    pub not_traced : traced_at image m p ≡ false → Is (refused 17 (pos p ∷ [])) ws
    not_traced e = held _ (rest ∙ stop _ _ _ (ap not e)) ws refl

    pub set_all : traced_at image m p ≡ true → (k : ℕ) → k ≡ size_here image p → (t : List ℕ) → t ≡ covered ws k p → Is (accepted k) t
    set_all e k f t g =
        held (accepted k) (rest ∙ pass _ _ _ (ap not e) ∙ done (size_here image p) ∙ ap accepted (sym f)) t
        (sym (g ∙ ap (λ (i : ℕ). covered ws i p) f))
