-- What is printed of a text byte by byte is its report.
-- Assumes nothing.
use Prim.Native.Nat.{ℕ, zero, suc, ◌+◌, ◌≤◌, ◌<◌, min}
use native.Mathlib.Omega.{arith}
use mathlib.Core.Bool.{Bool, true, false, cond, not, ◌&&◌}
use mathlib.Core.List.{List, [], ◌∷◌, ◌++◌, map, append-nil, append_assoc}
use mathlib.Core.Path.{◌≡◌, refl, sym, ap, ap₂, subst, ◌∙◌}
use mathlib.Core.Logic.{◌⊎◌, inl, inr, ⊎_elim}
use lib.Dec.{eqb, ltb}
use lib.ListN.{length, take, set, length-append, length-set}
use lib.Seq.{take_all, take-suc-set, take-append-le}
use borrow.Author.Tests.{lt-ltb, le-ltb, eq-eqb, ne_eqb, eqb-true, eqb-false}
use Rattle.instruction.specs.Answer.{Answer}
use Rattle.instruction.proofs.Ands.{first_part}
use Rattle.reach.proofs.Cases.{lt_or_le}
use Rattle.text.specs.Cut.{lines}
use Rattle.list_text.specs.Refusal.{number_line}
use Rattle.list_text.specs.Text.{first}
use Rattle.report_text.specs.ClaimsTerm.{ReportFed}
use Rattle.report_text.specs.Name.{name_of}
use Rattle.report_text.specs.Image.{image_answer}
use Rattle.report_text.specs.Sums.{adding, fitting, no_sums}
use Rattle.report_text.specs.Report.{image_line, total_line, reported, report_of}
use Rattle.report_text.specs.Term.{State, state, begun, most, held_in, text_in, image_out, image_term}
use Rattle.report_text.specs.Term.{pushed, is_empty_line, step_to, step_out, fed_to, fed_out, last_out, close_out}
use Rattle.report_text.specs.declared.figures.Figures.{Figures}
use Rattle.report_text.specs.declared.sums.Sums.{Sums}
use Rattle.report_text.specs.declared.term.Term.{Term}
use Rattle.report_text.proofs.Blocks.{over_out, over_close}
use Rattle.report_text.proofs.Finishes.{out_on, out_over}
use Rattle.report_text.proofs.HeldTexts.{held_enough}
use Rattle.report_text.proofs.ImageTexts.{ended_text, texts, texts_images}

-- a state in which h stands before the next byte
record Holds (s : State) (h : List ℕ) : Type 0 where
  going : s.term.over ≡ false
  wide : most ≤ length s.room
  count_is : s.term.held ≡ min (length h) most
  text_is : text_in s ≡ take most h

-- what is printed from here on
abbrev from : State → List ℕ → List ℕ
from s t = fed_out s t ++ close_out (fed_to s t)

-- the report of images, the first of which is i
module _ (s : Sums) (i : List (List ℕ)) (is : List (List (List ℕ))) where
  abbrev sum : Sums
  sum = adding s (image_answer i)

  pub reported_on : fitting sum ≡ true → reported s (i ∷ is) ≡ image_line (name_of (first i)) (image_answer i) ++ reported sum is
  unfolding reported
  reported_on e = rw e refl

  pub reported_over : fitting sum ≡ false → reported s (i ∷ is) ≡ number_line 22
  unfolding reported
  reported_over e = rw e refl

-- the same lines, the same line printed
module _ (s : Sums) (i j : List (List ℕ)) (a : image_answer i ≡ image_answer j) (n : name_of (first i) ≡ name_of (first j)) where
  same_out : (image_out s i ≡ image_out s j) × (image_term s i ≡ image_term s j)
  unfolding image_out image_term
  same_out = (
    ap₂ (λ (x : Answer Figures) (y : List ℕ). cond (fitting (adding s x)) (image_line y x) (number_line 22)) a n,
    ap (λ (x : Answer Figures). cond {A = Term} (fitting (adding s x)) (record { sums = adding s x; held = 0; fresh = true; over = false })
        (record { sums = s; held = 0; fresh = true; over = true })) a,
  )

-- how many bytes are held
count_held : (s : State) (h : List ℕ) → Holds s h → held_in s.term ≡ min (length h) most
count_held s h H = ap (λ (x : ℕ). min x most) H.count_is ∙ min_twice (length h)
  where
    min_twice : (n : ℕ) → min (min n most) most ≡ min n most
    min_twice n = omega arith

none_held : (s : State) → Holds s [] → eqb (held_in s.term) 0 ≡ true
none_held s H = ap (λ (x : ℕ). eqb x 0) (count_held s [] H)

some_held : (s : State) (c : ℕ) (h : List ℕ) → Holds s (c ∷ h) → eqb (held_in s.term) 0 ≡ false
some_held s c h H = ne_eqb (held_in s.term) 0 (λ e. let k = count_held s (c ∷ h) H in omega arith)

-- one more byte held
push_text : (room h : List ℕ) (n b : ℕ) → n ≡ min (length h) most → take n room ≡ take most h → most ≤ length room
    → (cond (ltb n most) (suc n) n ≡ min (length (h ++ b ∷ [])) most)
    × (take (min (cond (ltb n most) (suc n) n) most) (cond (ltb n most) (set room n b) room) ≡ take most (h ++ b ∷ []))
    × (length (cond (ltb n most) (set room n b) room) ≡ length room)
push_text room h n b e f w = ⊎_elim shorter full (lt_or_le (length h) most)
  where
    more : length (h ++ b ∷ []) ≡ length h + 1
    more = length-append h (b ∷ [])

    shorter : length h < most
        → (cond (ltb n most) (suc n) n ≡ min (length (h ++ b ∷ [])) most)
        × (take (min (cond (ltb n most) (suc n) n) most) (cond (ltb n most) (set room n b) room) ≡ take most (h ++ b ∷ []))
        × (length (cond (ltb n most) (set room n b) room) ≡ length room)
    shorter l =
        let k : n ≡ length h = omega arith in
        let m : min (suc n) most ≡ suc n = omega arith in
        let g : take most h ≡ h = take_all most h (omega arith) in
        let z : n < length room = omega arith in
        rw (lt-ltb n most (omega arith)) (
          omega (arith, more),
          ap (λ (x : ℕ). take x (set room n b)) m ∙ take-suc-set room n b z ∙ ap (λ (x : List ℕ). x ++ b ∷ []) (f ∙ g) ∙ sym
              (take_all most (h ++ b ∷ []) (omega (arith, more))),
          length-set room n b,
        )

    full : most ≤ length h
        → (cond (ltb n most) (suc n) n ≡ min (length (h ++ b ∷ [])) most)
        × (take (min (cond (ltb n most) (suc n) n) most) (cond (ltb n most) (set room n b) room) ≡ take most (h ++ b ∷ []))
        × (length (cond (ltb n most) (set room n b) room) ≡ length room)
    full l =
        let m : min n most ≡ n = omega arith in
        rw (le-ltb n most (omega arith)) (
          omega (arith, more),
          ap (λ (x : ℕ). take x room) m ∙ f ∙ sym (take-append-le most h (b ∷ []) l),
          refl,
        )

pushed_holds : (s : State) (h : List ℕ) (b : ℕ) → Holds s h → Holds (pushed s b) (h ++ b ∷ [])
unfolding pushed
pushed_holds s h b H =
    let p = push_text s.room h (held_in s.term) b (count_held s h H) H.text_is H.wide in
    record {
      going = H.going;
      wide = let k = p.2 in let w = H.wide in omega arith;
      count_is = p.0;
      text_is = p.1;
    }

-- an image that has just been printed
ended_holds : (s : Sums) (room : List ℕ) → most ≤ length room → Holds (state (record { sums = s; held = 0; fresh = true; over = false }) room) []
ended_holds s room w = record { going = refl; wide = w; count_is = refl; text_is = take_none room }
  where
    take_none : (l : List ℕ) → take 0 l ≡ take most []
    take_none [] = refl
    take_none (x ∷ l) = refl

abbrev Reports : List ℕ → Type 0
Reports t = (s : State) (h : List ℕ) → Holds s h → from s t ≡ reported s.term.sums (map lines (texts s.term.fresh h t))

-- the line of an image that is held, and what follows it
module _ (s : State) (c : ℕ) (h : List ℕ) (H : Holds s (c ∷ h)) where
  abbrev sums : Sums
  sums = s.term.sums

  abbrev image : List (List ℕ)
  image = lines (c ∷ h)

  held_out : (image_out sums (lines (text_in s)) ≡ image_out sums image) × (image_term sums (lines (text_in s)) ≡ image_term sums image)
  held_out =
      let e = ap lines H.text_is in
      let k = held_enough (c ∷ h) in
      let g = same_out sums (lines (take most (c ∷ h))) image k.0 k.1 in
      (ap (image_out sums) e ∙ g.0, ap (image_term sums) e ∙ g.1)

  -- at the end of the text
  abbrev closing : List ℕ
  closing = image_out sums image ++ last_out (image_term sums image)

  close_some : close_out s ≡ closing
  unfolding close_out
  close_some = rw (H.going, some_held s c h H) (ap₂ (λ (x : List ℕ) (y : Term). x ++ last_out y) held_out.0 held_out.1)

  closed : closing ≡ reported sums (image ∷ [])
  unfolding reported
  closed = by (fitting (adding sums (image_answer image))) refl
    where
      by : (x : Bool) → fitting (adding sums (image_answer image)) ≡ x → closing ≡ reported sums (image ∷ [])
      by true e =
          let o = out_on sums image e in
          ap₂ (λ (x : List ℕ) (y : Term). x ++ last_out y) o.0 o.1 ∙ sym (reported_on sums image [] e)
      by false e =
          let o = out_over sums image e in
          ap₂ (λ (x : List ℕ) (y : Term). x ++ last_out y) o.0 o.1 ∙ append-nil (number_line 22) ∙ sym (reported_over sums image [] e)

  -- at the empty line that ends it
  module _ (b : ℕ) (e : is_empty_line s.term b ≡ true) where
    abbrev after : State
    after = state (image_term sums image) s.room

    step_some : (step_to s b ≡ after) × (step_out s b ≡ image_out sums image)
    unfolding step_to
    step_some = (
      rw (H.going, e, some_held s c h H) (ap (λ (t : Term). state t s.room) held_out.1),
      rw (H.going, e, some_held s c h H) held_out.0,
    )

    on_with : (t : List ℕ) → Reports t → image_out sums image ++ from after t ≡ reported sums (image ∷ map lines (texts true [] t))
    on_with t r = by (fitting (adding sums (image_answer image))) refl
      where
        by : (x : Bool) → fitting (adding sums (image_answer image)) ≡ x
            → image_out sums image ++ from after t ≡ reported sums (image ∷ map lines (texts true [] t))
        by true g =
            let o = out_on sums image g in
            let q = r (state (record { sums = adding sums (image_answer image); held = 0; fresh = true; over = false }) s.room) []
            (ended_holds (adding sums (image_answer image)) s.room H.wide) in
            ap₂ (λ (x : List ℕ) (y : Term). x ++ from (state y s.room) t) o.0 o.1
            ∙ ap (λ (x : List ℕ). image_line (name_of (first image)) (image_answer image) ++ x) q ∙ sym (reported_on sums image (map lines (texts true [] t)) g)
        by false g =
            let o = out_over sums image g in
            let z : State = state (record { sums = sums; held = 0; fresh = true; over = true }) s.room in
            let v = over_out z refl t in
            ap₂ (λ (x : List ℕ) (y : Term). x ++ from (state y s.room) t) o.0 o.1
            ∙ ap (λ (x : List ℕ). number_line 22 ++ x) (ap₂ (λ (x : List ℕ) (y : State). x ++ close_out y) v.0 v.1 ∙ over_close z refl)
            ∙ append-nil (number_line 22) ∙ sym (reported_over sums image (map lines (texts true [] t)) g)

-- nothing is held: an empty line changes nothing
module _ (s : State) (H : Holds s []) where
  close_none : close_out s ≡ total_line s.term.sums
  unfolding close_out
  close_none = rw (H.going, none_held s H) refl

  step_none : (b : ℕ) → is_empty_line s.term b ≡ true → (step_to s b ≡ s) × (step_out s b ≡ [])
  unfolding step_to
  step_none b e = (rw (H.going, e, none_held s H) refl, rw (H.going, e, none_held s H) refl)

-- a byte of an image
step_push : (s : State) (h : List ℕ) → Holds s h → (b : ℕ) → is_empty_line s.term b ≡ false → (step_to s b ≡ pushed s b) × (step_out s b ≡ [])
unfolding step_to
step_push s h H b e = (rw (H.going, e) refl, rw (H.going, e) refl)

at_end : Reports []
unfolding texts fed_out fed_to reported
at_end s [] H = close_none s H
at_end s (c ∷ h) H = close_some s c h H ∙ closed s c h H

-- one more byte
fed_on : (s : State) (b : ℕ) (t : List ℕ) → from s (b ∷ t) ≡ step_out s b ++ from (step_to s b) t
unfolding fed_out fed_to
fed_on s b t = append_assoc (step_out s b) (fed_out (step_to s b) t) (close_out (fed_to (step_to s b) t))

one_byte : (b : ℕ) (t : List ℕ) → Reports t → Reports (b ∷ t)
unfolding texts pushed
one_byte b t r s h H = by (is_empty_line s.term b) refl h H
  where
    goes : (k : List ℕ) (x : Bool) → is_empty_line s.term b ≡ x
        → texts s.term.fresh k (b ∷ t) ≡ cond x (ended_text k ++ texts true [] t) (texts (eqb b 10) (k ++ b ∷ []) t)
    goes k x e = ap (λ (y : Bool). cond y (ended_text k ++ texts true [] t) (texts (eqb b 10) (k ++ b ∷ []) t)) e

    by : (x : Bool) → is_empty_line s.term b ≡ x → (k : List ℕ) → Holds s k
        → from s (b ∷ t) ≡ reported s.term.sums (map lines (texts s.term.fresh k (b ∷ t)))
    by true e [] K =
        let p = step_none s K b e in
        fed_on s b t ∙ ap₂ (λ (x : List ℕ) (y : State). x ++ from y t) p.1 p.0 ∙ r s [] K
        ∙ ap (λ (f : Bool). reported s.term.sums (map lines (texts f [] t))) (first_part s.term.fresh (eqb b 10) e)
        ∙ sym (ap (λ (x : List (List ℕ)). reported s.term.sums (map lines x)) (goes [] true e))
    by true e (c ∷ k) K =
        let p = step_some s c k K b e in
        fed_on s b t ∙ ap₂ (λ (x : List ℕ) (y : State). x ++ from y t) p.1 p.0 ∙ on_with s c k K b e t r
        ∙ sym (ap (λ (x : List (List ℕ)). reported s.term.sums (map lines x)) (goes (c ∷ k) true e))
    by false e k K =
        let p = step_push s k K b e in
        fed_on s b t ∙ ap₂ (λ (x : List ℕ) (y : State). x ++ from y t) p.1 p.0 ∙ r (pushed s b) (k ++ b ∷ []) (pushed_holds s k b K)
        ∙ sym (ap (λ (x : List (List ℕ)). reported s.term.sums (map lines x)) (goes k false e))

reports : (t : List ℕ) → Reports t
reports [] = at_end
reports (b ∷ t) = one_byte b t (reports t)

pub report_fed : ReportFed
unfolding report_of
report_fed text room w =
    reports text (state begun room) [] (ended_holds no_sums room w) ∙ ap (reported no_sums) (texts_images text)
