-- The report of a whole text, written call by call.
-- Assumes nothing.
use Prim.Native.Nat.{ℕ, suc, ◌+◌, ◌-◌, ◌≤◌, ◌<◌, min}
use native.Mathlib.Nat.{zero-add}
use native.Mathlib.Omega.{arith}
use mathlib.Core.Bool.{Bool, true, false, cond}
use mathlib.Core.List.{List, [], ◌∷◌, ◌++◌, append-nil, append_assoc}
use mathlib.Core.Path.{◌≡◌, refl, sym, ap, ap₂, ◌∙◌}
use lib.IntN.{pos}
use lib.ListN.{length, take, drop, length-append, length-drop, drop_of_length-le, take-append-drop}
use lib.Seq.{sets, take_all, take-append_seam, drop-drop}
use borrow.Author.Tests.{le-ltb, lt-ltb}
use Rattle.instruction.specs.Answer.{Answer, accepted, refused, judge, after, laid}
use Rattle.instruction.proofs.Judging.{pass, stop, done}
use Rattle.views.specs.View.{view_refused}
use Rattle.views.specs.declared.view.ViewError.{ViewError}
use Rattle.views.proofs.Viewing.{refused_after}
use Rattle.text.specs.Puts.{Puts}
use Rattle.text.proofs.Putting.{puts_then}
use Rattle.list_text.proofs.LaidRooms.{laid_over}
use Rattle.report_text.specs.Report.{highest, report_of, report_answer, report_room, Filling}
use Rattle.report_text.specs.Term.{State, state, begun, most, most_printed, completes, step_to}
use Rattle.report_text.specs.Term.{fed_to, fed_out, used_in, close_out, room_refusals, first_out, Writing}
use Rattle.report_text.specs.Term.{take_answer, take_used, take_state, take_out, close_answer, close_room}
use Rattle.report_text.specs.declared.term.Term.{Term}
use Rattle.report_text.specs.declared.whole.Progress.{Progress}
use Rattle.report_text.proofs.Blocks.{blocks_joined}
use Rattle.report_text.proofs.ReportFed.{report_fed}

-- what is accepted is not refused
pub not_refused : (e : ViewError) (k : ℕ) → view_refused {A = ℕ} e ≡ accepted k → ⊥
not_refused e k h = let z : ◌≡◌ {A = ℕ} 0 1 = refused_after e (accepted k) 1 0 h in absurd (omega arith)

-- what is laid over a line that keeps its length
pub laid_fits : (p l k : List ℕ) → k ≡ laid p l → length k ≡ length l → (length p ≤ length k) × (take (length p) k ≡ p)
laid_fits p l k e f =
    let g = ap length e ∙ length-append p (drop (length p) l) in
    let d = length-drop (length p) l in
    (omega (arith, g, d), ap (take (length p)) e ∙ take-append_seam p (drop (length p) l))

-- the rooms are long enough
module _ (room out : List ℕ) (w : most ≤ length room) (v : most_printed ≤ length out) where
  accepts : (k : ℕ) → judge (room_refusals room out) k ≡ accepted k
  accepts k = pass _ _ k (le-ltb (length room) most w) ∙ pass _ _ k (le-ltb (length out) most_printed v) ∙ done k

  module _ (t : Term) where
    pub close_says : (close_answer t room out ≡ accepted (length (close_out (state t room)))) × (close_room t room out ≡ laid (close_out (state t room)) out)
    unfolding close_answer close_room
    close_says =
        let g = accepts (length (close_out (state t room))) in
        (g, ap (λ (r : Answer ℕ). after r (laid (close_out (state t room)) out) out) g)

    module _ (text : List ℕ) where
      abbrev p : List ℕ
      p = first_out t text room

      abbrev u : ℕ
      u = used_in (state t room) text

      pub take_says : (take_answer t text room out ≡ accepted (length p)) × (take_out t text room out ≡ laid p out)
      unfolding take_answer take_out
      take_says = let g = accepts (length p) in (g, ap (λ (r : Answer ℕ). after r (laid p out) out) g)

      pub take_goes : (take_used t text room out ≡ u) × (take_state t text room out ≡ fed_to (state t room) (take u text))
      unfolding take_answer take_used take_state
      take_goes =
          let g = accepts (length p) in
          (ap (λ (r : Answer ℕ). after r u 0) g, ap (λ (r : Answer ℕ). after r (fed_to (state t room) (take u text)) (state t room)) g)

-- how much one call takes: something, and no more than there is
pub used_most : (s : State) (t : List ℕ) → used_in s t ≤ length t
unfolding used_in
used_most s [] = omega arith
used_most s (b ∷ t) = by (completes s.term b) (used_most (step_to s b) t)
  where
    by : (x : Bool) → used_in (step_to s b) t ≤ length t → cond x 1 (suc (used_in (step_to s b) t)) ≤ suc (length t)
    by true h = omega arith
    by false h = omega arith

pub used_some : (s : State) (t : List ℕ) → 0 < length t → 0 < used_in s t
unfolding used_in
used_some s [] h = absurd (omega arith)
used_some s (b ∷ t) h = by (completes s.term b)
  where
    by : (x : Bool) → 0 < cond x 1 (suc (used_in (step_to s b) t))
    by true = omega arith
    by false = omega arith

-- what is printed from here on
abbrev from : State → List ℕ → List ℕ
from s t = fed_out s t ++ close_out (fed_to s t)

from_on : (s : State) (t : List ℕ) (n : ℕ) → from s t ≡ fed_out s (take n t) ++ from (fed_to s (take n t)) (drop n t)
from_on s t n =
    let b = blocks_joined s (take n t) (drop n t) in
    let e = sym (take-append-drop n t) in
    ap (from s) e ∙ ap₂ (λ (x : List ℕ) (y : State). x ++ close_out y) b.0 b.1
    ∙ append_assoc (fed_out s (take n t)) (fed_out (fed_to s (take n t)) (drop n t)) (close_out (fed_to (fed_to s (take n t)) (drop n t)))

-- n bytes counted, and as many written as there is room for
pub record Counted (room out : List ℕ) (n : ℕ) (room' : List ℕ) : Type 0 where
  pub count_is : n ≡ min (length out) 9223372036854775808
  pub wrote : length out ≤ highest → room' ≡ sets room 0 out

pub counted_more : (room done p : List ℕ) (n : ℕ) (old new : List ℕ) (k : ℕ) → Counted room done n old → k ≡ min (n + length p) 9223372036854775808
    → new ≡ sets old n p → Counted room (done ++ p) k new
counted_more room done p n old new k c e f = record {
  count_is = let l = length-append done p in let g = c.count_is in omega (arith, l, g, e);
  wrote = λ h.
      let l = length-append done p in
      let m : n ≡ 0 + length done = omega (arith, c.count_is, l) in
      (puts_then {s = done} {t = p} {o = room} {m = old} {n = new} (record { next = m; wrote = c.wrote (omega (arith, l)) })
      (record { next = refl; wrote = f })).wrote;
}

-- part of the report is written, and the rest stands before what is left of the text
pub record SoFar (text room₀ : List ℕ) (s : State) (at n : ℕ) (room : List ℕ) : Type 0 where
  pub written : List ℕ
  pub inside : at ≤ length text
  pub splits : written ++ from s (drop at text) ≡ report_of text
  pub counted : Counted room₀ written n room

pub so_far_none : (text room held : List ℕ) (t : Term) → t ≡ begun → most ≤ length held → SoFar text room (state t held) 0 0 room
so_far_none text room held t e w = record {
  written = [];
  inside = omega arith;
  splits = ap (λ (x : Term). from (state x held) text) e ∙ report_fed text held w;
  counted = record { count_is = refl; wrote = λ h. refl };
}

module _ {text room₀ : List ℕ} {s : State} {at n : ℕ} {room : List ℕ} (f : SoFar text room₀ s at n room) where
  -- what is lent is what is left of the text
  pub lent_is : take (length text - at) (drop at text) ≡ drop at text
  lent_is = take_all (length text - at) (drop at text) (omega (arith, length-drop at text))

  abbrev rest : List ℕ
  rest = drop at text

  pub so_far_more : (u : ℕ) → u ≡ used_in s rest → (z : State) → z ≡ fed_to s (take u rest) → (k : ℕ)
      → k ≡ min (n + length (fed_out s (take u rest))) 9223372036854775808
      → (new : List ℕ) → new ≡ sets room n (fed_out s (take u rest)) → SoFar text room₀ z (at + u) k new
  so_far_more u a z b k c new d = record {
    written = f.written ++ fed_out s (take u rest);
    inside = let m = used_most s rest in let l = length-drop at text in omega (arith, a, m, l, f.inside);
    splits =
        append_assoc f.written (fed_out s (take u rest)) (from z (drop (at + u) text))
        ∙ ap (λ (x : List ℕ). f.written ++ x)
        (ap₂ (λ (x : State) (y : List ℕ). fed_out s (take u rest) ++ from x y) b (sym (drop-drop u at text)) ∙ sym (from_on s rest u))
        ∙ f.splits;
    counted = counted_more room₀ f.written (fed_out s (take u rest)) n room new k f.counted c d;
  }

  pub so_far_whole : length text ≤ at → (k : ℕ) → k ≡ min (n + length (close_out s)) 9223372036854775808 → (new : List ℕ) → new ≡ sets room n (close_out s)
      → Filling text room₀ new k
  unfolding fed_out fed_to
  so_far_whole h k c new d =
      let e : f.written ++ close_out s ≡ report_of text = sym (ap (λ (x : List ℕ). f.written ++ from s x) (drop_of_length-le text h)) ∙ f.splits in
      let w = counted_more room₀ f.written (close_out s) n room new k f.counted c d in
      record {
        counted = w.count_is ∙ ap (λ (x : List ℕ). min (length x) 9223372036854775808) e;
        wrote = λ l. w.wrote (let m = ap length e in omega (arith, m)) ∙ ap (sets room₀ 0) e;
      }

-- the answer
module _ (text room : List ℕ) where
  abbrev out : List ℕ
  out = report_of text

  pub too_short_lem : (n : ℕ) → n ≡ min (length out) 9223372036854775808 → (k : ℕ) → k ≡ min n highest → min (length room) highest < n
      → (refused 11 (pos k ∷ []) ≡ report_answer text room) × (room ≡ report_room text room)
  unfolding report_answer report_room
  too_short_lem n e k f h =
      let g : min (length room) highest < length out = omega (arith, e) in
      let v : k ≡ min (length out) highest = omega (arith, e, f) in
      let r = stop _ _ (length out) (lt-ltb (min (length room) highest) (length out) g) in
      (ap (λ (x : ℕ). refused 11 (pos x ∷ [])) v ∙ sym r, sym (ap (λ (x : Answer ℕ). after x (laid out room) room) r))

  pub long_enough : (n : ℕ) → n ≡ min (length out) 9223372036854775808 → n ≤ highest → n ≤ length room → (new : List ℕ) (k : ℕ) → Filling text room new k
      → (accepted k ≡ report_answer text room) × (new ≡ report_room text room)
  unfolding report_answer report_room
  long_enough n e h l new k q =
      let g : length out ≤ min (length room) highest = omega (arith, e) in
      let r = pass _ _ (length out) (le-ltb (min (length room) highest) (length out) g) ∙ done (length out) in
      let m : k ≡ length out = omega (arith, q.counted, e) in
      (ap accepted m ∙ sym r, q.wrote (omega (arith, e)) ∙ laid_over out room (omega (arith, e)) ∙ sym (ap (λ (x : Answer ℕ). after x (laid out room) room) r))

-- what a call says that it wrote, and what stands in its line
pub written_says : (k : ℕ) (p l line : List ℕ) → accepted k ≡ accepted (length p) → line ≡ laid p l → length line ≡ length l
    → (k ≡ length p) × (k ≤ length line) × (take k line ≡ p)
written_says k p l line b c d =
    let e : k ≡ length p = cc in
    let f = laid_fits p l line c d in
    (e, omega (arith, e, f.0), ap (λ (x : ℕ). take x line) e ∙ f.1)

-- one call more
pub so_far_wrote : {text room₀ : List ℕ} {t : Term} {held : List ℕ} {at n : ℕ} {room : List ℕ} → SoFar text room₀ (state t held) at n room
    → (part : List ℕ) → part ≡ drop at text
    → (left : List ℕ) (r : Progress) → Writing t part held n left r → (new : List ℕ) → new ≡ sets room n (first_out t part held) → SoFar text room₀
    (state r.term left) (at + r.used) r.count new
so_far_wrote {text} {room₀} {t} {held} {at} {n} {room} f part e left r w new d =
    let s : State = state t held in
    let u = sym w.used_is in
    so_far_more f r.used (w.used_is ∙ ap (used_in s) e) (state r.term left)
    (w.left ∙ ap₂ (λ (x : ℕ) (y : List ℕ). fed_to s (take x y)) u e) r.count
    (w.counted ∙ ap₂ (λ (x : ℕ) (y : List ℕ). min (n + length (fed_out s (take x y))) 9223372036854775808) u e) new
    (d ∙ ap₂ (λ (x : ℕ) (y : List ℕ). sets room n (fed_out s (take x y))) u e)
