-- What one call takes, prints and leaves, and what is printed at the end.
-- Assumes nothing.
use Prim.Native.Nat.{ℕ, ◌≤◌, min}
use native.Mathlib.Nat.{zero-add}
use native.Mathlib.Omega.{arith}
use mathlib.Core.Bool.{Bool, true, false, cond, not, ◌&&◌}
use mathlib.Core.List.{List, [], ◌∷◌, ◌++◌, append-nil}
use mathlib.Core.Path.{◌≡◌, refl, sym, ap, ap₂, subst, ◌∙◌}
use lib.Dec.{eqb, ltb}
use lib.IntN.{ℤ, pos}
use lib.ListN.{length, take}
use lib.Seq.{sets, take-length}
use borrow.Author.Tests.{ltb-false, not-true, eq-eqb, ne_eqb}
use Rattle.instruction.specs.Answer.{Answer, accepted, refused, Refusal, refuse, judge, after, laid}
use Rattle.instruction.proofs.Accepting.{passed}
use Rattle.instruction.proofs.Ands.{first_part, second_part}
use Rattle.instruction.proofs.Judging.{accepts_too}
use Rattle.views.specs.View.{view_refused}
use Rattle.views.specs.declared.view.ViewError.{ViewError}
use Rattle.views.proofs.Viewing.{Judged, refused_too, refused_after}
use Rattle.text.specs.Cut.{lines}
use Rattle.text.specs.Puts.{Puts}
use Rattle.list_text.proofs.LaidRooms.{laid_over}
use Rattle.report_text.specs.Report.{total_line}
use Rattle.report_text.specs.Term.{State, state, most, most_printed, held_in, text_in, image_out, image_term, is_empty_line, completes, step_to, step_out}
use Rattle.report_text.specs.Term.{fed_to, fed_out, used_in, last_out, close_out, room_refusals}
use Rattle.report_text.specs.Term.{take_answer, take_used, take_state, take_out, close_answer, close_room}
use Rattle.report_text.specs.Term.{held_state, Gathering, Finishing}
use Rattle.report_text.specs.declared.finish.Finished.{Finished}
use Rattle.report_text.specs.declared.gather.Gathered.{Gathered}
use Rattle.report_text.specs.declared.term.Term.{Term}
use Rattle.report_text.proofs.Blocks.{over_out, used_over}

-- what is not refused, whatever is answered then
pub judged : (room out : List ℕ) → Judged (room_refusals room out) (accepted tt) → judge {A = ℕ} (room_refusals room out) 0 ≡ accepted 0
judged room out e = accepts_too (room_refusals room out) tt 0 (sym e)

-- the rooms are long enough
pub long_rooms : (room out : List ℕ) → judge {A = ℕ} (room_refusals room out) 0 ≡ accepted 0 → (most ≤ length room) × (most_printed ≤ length out)
long_rooms room out e =
    let p = passed (refuse (ltb (length room) most) 11 (pos most ∷ [])) (refuse (ltb (length out) most_printed) 11 (pos most_printed ∷ []) ∷ []) 0 e in
    let q = passed (refuse (ltb (length out) most_printed) 11 (pos most_printed ∷ [])) [] 0 p.1 in
    (ltb-false (length room) most p.0, ltb-false (length out) most_printed q.0)

-- a call that takes a block
module _ (t : Term) (text room out : List ℕ) where
  abbrev rs : List Refusal
  rs = room_refusals room out

  abbrev s : State
  s = state t room

  abbrev Takes : Answer ℕ → ℕ → State → List ℕ → Type 0
  Takes a u z o =
      (a ≡ take_answer t text room out) × ((u ≡ take_used t text room out) × ((z ≡ take_state t text room out) × (o ≡ take_out t text room out)))

  pub take_refused : (e : ViewError) → Judged rs (view_refused e) → Takes (view_refused e) 0 s out
  unfolding take_answer take_used take_state take_out
  take_refused e h =
      let g = refused_too rs (length (fed_out s (take (used_in s text) text))) e h in
      (g, (refused_after e _ (used_in s text) 0 g, (refused_after e _ _ s g, refused_after e _ _ out g)))

  module _ (ok : judge {A = ℕ} rs 0 ≡ accepted 0) where
    pub take_on : (u : ℕ) → u ≡ used_in s text → (z : State) → fed_to s (take u text) ≡ z → (p : List ℕ) → fed_out s (take u text) ≡ p
        → (n : ℕ) → n ≡ length p → (o : List ℕ) → o ≡ laid p out → Takes (accepted n) u z o
    unfolding take_answer take_used take_state take_out
    take_on u a z b p c n d o f =
        let k : ℕ = length (fed_out s (take (used_in s text) text)) in
        let g : judge rs k ≡ accepted k = accepts_too rs 0 k ok in
        let q : fed_out s (take (used_in s text) text) ≡ p = ap (λ (x : ℕ). fed_out s (take x text)) (sym a) ∙ c in
        let w : fed_to s (take (used_in s text) text) ≡ z = ap (λ (x : ℕ). fed_to s (take x text)) (sym a) ∙ b in (
          ap accepted (d ∙ ap length (sym q)) ∙ sym g,
          (
            a ∙ sym (ap (λ (r : Answer ℕ). after r (used_in s text) 0) g),
            (
              sym w ∙ sym (ap (λ (r : Answer ℕ). after r (fed_to s (take (used_in s text) text)) s) g),
              f ∙ ap (λ (x : List ℕ). laid x out) (sym q) ∙ sym (ap (λ (r : Answer ℕ). after r (laid (fed_out s (take (used_in s text) text)) out) out) g),
            ),
          ),
        )

    -- after 22 all is taken and nothing printed
    pub take_over : t.over ≡ true → Takes (accepted 0) (length text) s out
    take_over o =
        let p = over_out s o (take (length text) text) in
        take_on (length text) (sym (used_over s o text)) s p.1 [] p.0 0 refl out refl

  -- an image that is held whole, at the empty line after it
  pub ended_as : (z : State) → completes z.term 10 ≡ true
      → (step_out z 10 ≡ image_out z.term.sums (lines (text_in z))) × (step_to z 10 ≡ state (image_term z.term.sums (lines (text_in z))) z.room)
  unfolding step_to
  ended_as z e =
      let a : not z.term.over ≡ true = first_part (not z.term.over) (is_empty_line z.term 10 && not (eqb (held_in z.term) 0)) e in
      let b : (is_empty_line z.term 10 && not (eqb (held_in z.term) 0)) ≡ true = second_part (not z.term.over)
      (is_empty_line z.term 10 && not (eqb (held_in z.term) 0)) e in
      let c : is_empty_line z.term 10 ≡ true = first_part (is_empty_line z.term 10) (not (eqb (held_in z.term) 0)) b in
      let d : not (eqb (held_in z.term) 0) ≡ true = second_part (is_empty_line z.term 10) (not (eqb (held_in z.term) 0)) b in
      (rw e refl, rw (not-true z.term.over a, c, not-true (eqb (held_in z.term) 0) d) refl)

  -- such an image is printed
  module _ (ok : judge {A = ℕ} rs 0 ≡ accepted 0) where
    pub taken : (r : Gathered) (left : List ℕ) → Gathering t text room left r → r.complete ≡ true → (n : ℕ) → n ≡ min r.held most
        → (f : Finished) (o : List ℕ) → Finishing t.sums (take n left) out o f → most_printed ≤ length out
        → Takes (accepted f.printed) r.used (state f.term left) o
    taken r left g c n e f o q w =
        let z : State = held_state t left r in
        let d = g.ended c in
        let k = ended_as z d.0 in
        let i : lines (text_in z) ≡ lines (take n left) = ap (λ (x : ℕ). lines (take x left)) (sym e) in
        let l : f.printed ≡ length (image_out t.sums (lines (take n left))) = q.put.next ∙ zero-add (length (image_out t.sums (lines (take n left)))) in
        take_on ok r.used g.used_is (state f.term left)
        (d.1 ∙ k.1 ∙ ap (λ (x : List (List ℕ)). state (image_term t.sums x) left) i ∙ ap (λ (x : Term). state x left) (sym q.term_is))
        (image_out t.sums (lines (take n left))) (d.2 ∙ k.0 ∙ ap (image_out t.sums) i) f.printed l o
        (q.put.wrote ∙ laid_over (image_out t.sums (lines (take n left))) out (let m = q.most in omega arith))

-- a call at the end
module _ (t : Term) (room out : List ℕ) where
  pub close_refused : (e : ViewError) → Judged (room_refusals room out) (view_refused e)
      → (view_refused e ≡ close_answer t room out) × (out ≡ close_room t room out)
  unfolding close_answer close_room
  close_refused e h =
      let g = refused_too (room_refusals room out) (length (close_out (state t room))) e h in (g, refused_after e _ _ out g)

  pub close_on : judge {A = ℕ} (room_refusals room out) 0 ≡ accepted 0 → (p : List ℕ) → close_out (state t room) ≡ p → (n : ℕ) (o : List ℕ)
      → Puts p 0 out o n → n ≤ length out
      → (accepted n ≡ close_answer t room out) × (o ≡ close_room t room out)
  unfolding close_answer close_room
  close_on ok p c n o q m =
      let k : ℕ = length (close_out (state t room)) in
      let g : judge (room_refusals room out) k ≡ accepted k = accepts_too (room_refusals room out) 0 k ok in
      let l : n ≡ length p = omega (arith, q.next) in (
        ap accepted (l ∙ ap length (sym c)) ∙ sym g,
        q.wrote ∙ laid_over p out (omega arith) ∙ ap (λ (x : List ℕ). laid x out) (sym c) ∙ sym
            (ap (λ (r : Answer ℕ). after r (laid (close_out (state t room)) out) out) g),
      )

  module _ (o : t.over ≡ false) where
    pub close_none : held_in t ≡ 0 → close_out (state t room) ≡ total_line t.sums
    unfolding close_out
    close_none h = rw (o, eq-eqb (held_in t) 0 h) refl

    pub close_some : (held_in t ≡ 0 → ⊥)
        → close_out (state t room) ≡ image_out t.sums (lines (text_in (state t room))) ++ last_out (image_term t.sums (lines (text_in (state t room))))
    unfolding close_out
    close_some h = rw (o, ne_eqb (held_in t) 0 h) refl

    -- the last image, then the sums, or 22 alone
    module _ (h : held_in t ≡ 0 → ⊥) (n : ℕ) (e : n ≡ held_in t) (f : Finished) (out' : List ℕ) (q : Finishing t.sums (take n room) out out' f) where
      abbrev image : List (List ℕ)
      image = lines (take n room)

      closes : close_out (state t room) ≡ image_out t.sums image ++ last_out f.term
      closes =
          close_some h ∙ ap (λ (x : ℕ). image_out t.sums (lines (take x room)) ++ last_out (image_term t.sums (lines (take x room)))) (sym e)
          ∙ ap (λ (x : Term). image_out t.sums image ++ last_out x) (sym q.term_is)

      pub closes_over : f.term.over ≡ true → close_out (state t room) ≡ image_out t.sums image
      closes_over v = closes ∙ ap (λ (x : Bool). image_out t.sums image ++ cond x [] (total_line f.term.sums)) v ∙ append-nil (image_out t.sums image)

      pub closes_on : f.term.over ≡ false → close_out (state t room) ≡ image_out t.sums image ++ total_line f.term.sums
      closes_on v = closes ∙ ap (λ (x : Bool). image_out t.sums image ++ cond x [] (total_line f.term.sums)) v
