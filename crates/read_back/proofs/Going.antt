-- The lines of a text, read one after the other.
-- Assumes nothing.
use mathlib.Core.Path.{◌≡◌, refl, sym, ap, ap₂, ◌∙◌}
use mathlib.Core.Bool.{Bool, true, false, not, ◌&&◌}
use mathlib.Core.List.{List, [], ◌∷◌, map}
use Prim.Native.Nat.{ℕ, suc, ◌+◌, ◌-◌, ◌^◌, ◌≤◌, ◌<◌}
use native.Mathlib.Numerals.{add-one}
use native.Mathlib.Omega.{arith}
use borrow.Author.Tests.{lt-ltb}
use lib.IntN.{ℤ, pos}
use lib.ListN.{length, drop, replicate, length-replicate}
use lib.Seq.{sets, length-sets}
use Rattle.std.specs.Prelude.{Result, Ok, Err}
use Rattle.instruction.specs.Answer.{Answer, accepted, refused, refuse, judge}
use Rattle.instruction.proofs.Sign.{never}
use Rattle.instruction.specs.declared.mode.Mode.{Mode}
use Rattle.text.specs.Cut.{up_to, lines}
use Rattle.text.proofs.Cuts.{end_inside, the_piece, line_next, lines_end}
use Rattle.read_back.specs.Back.{restore_refused, line_refusals, sheet_after, sheet_of}
use Rattle.read_back.specs.LinesLeave.{LinesLeave}
use Rattle.read_back.specs.Line.{position_on, record_of}
use Rattle.read_back.specs.Noted.{marks_in}
use Rattle.read_back.specs.Order.{start, line_after, place_after}
use Rattle.read_back.specs.Read.{is_good}
use Rattle.read_back.specs.Sheet.{Sheet, empty_sheet, listed_on, agree, reach, sheet_with, image_on}
use Rattle.read_back.specs.Turn.{agree_to, turned_of, turn_answer, Turned}
use Rattle.read_back.specs.declared.place.Place.{Place}
use Rattle.read_back.specs.declared.back.RestoreError.{RestoreError}
use Rattle.read_back.specs.declared.back.RestoreError.TheVariants.{Size, NoRoom, Malformed, PastEnd}
use Rattle.marks.specs.declared.sizes.SizeError.TheVariants.{LongImage, ShortMarks}
use Rattle.read_back.proofs.Keeping.{Kept, kept_none, agrees_is, from, kept_on}
use Rattle.read_back.proofs.Notes.{position_small}
use Rattle.read_back.proofs.Noting.{marks_none, noted_marks, noted_wide}

abbrev is_accepted : {A : Type 0} → Answer A → Bool
is_accepted (accepted a) = true
is_accepted (refused k vs) = false

-- what follows an answer that is accepted
abbrev onto : Answer Place → (Place → Answer ℕ) → Answer ℕ
onto (accepted p) f = f p
onto (refused k vs) f = refused k vs

-- the definition's sheet: cells, and the marks that the table tells
abbrev sheet : List ℕ → List ℕ → Sheet
sheet cells marks = record { cells = cells; marks = marks }

-- a line, and then the others
module _ (mode : Mode) (n : ℕ) (place : Place) (cells marks l : List ℕ) (ls : List (List ℕ)) (x : ℕ) where
  abbrev agrees : Bool
  agrees = agree cells (position_on l) (listed_on l)

  step : judge (line_refusals mode n place (sheet cells marks) (l ∷ ls)) x
      ≡ onto (turn_answer mode place agrees n l) (λ (p : Place). judge (line_refusals mode n p (sheet_with (sheet cells marks) l) ls) x)
  unfolding line_refusals turn_answer judge
  step = by (is_good mode place l && agrees) (reach n (position_on l) (listed_on l))
    where
      by : (b c : Bool)
          → judge (refuse (not b) 15 (pos place.line ∷ []) ∷ refuse c 16 (pos place.line ∷ [])
          ∷ line_refusals mode n (place_after place (length l) (record_of l)) (sheet_with (sheet cells marks) l) ls) x
          ≡ onto (judge (refuse (not b) 15 (pos place.line ∷ []) ∷ refuse c 16 (pos place.line ∷ []) ∷ []) (place_after place (length l) (record_of l)))
          (λ (p : Place). judge (line_refusals mode n p (sheet_with (sheet cells marks) l) ls) x)
      by true true = refl
      by true false = refl
      by false c = refl

-- whether a bad line contradicts an earlier one does not matter
turn_same : (mode : Mode) (place : Place) (x y : Bool) (n : ℕ) (l : List ℕ) → (is_good mode place l ≡ true → x ≡ y)
    → turn_answer mode place x n l ≡ turn_answer mode place y n l
unfolding turn_answer
turn_same mode place x y n l e = by (is_good mode place l) refl
  where
    by : (b : Bool) → is_good mode place l ≡ b → turn_answer mode place x n l ≡ turn_answer mode place y n l
    by true g = ap (λ (z : Bool). turn_answer mode place z n l) (e g)
    by false g = rw g

-- an accepted line is good, inside the image, and goes on to the place after it
module _ (mode : Mode) (place : Place) (agrees : Bool) (n : ℕ) (l : List ℕ) (next : Place) (e : accepted next ≡ turn_answer mode place agrees n l) where
  abbrev place_of : Answer Place → Place
  place_of (accepted p) = p
  place_of (refused k vs) = next

  fine : (is_good mode place l ≡ true) × (reach n (position_on l) (listed_on l) ≡ false) × (next ≡ place_after place (length l) (record_of l))
  unfolding turn_answer judge
  fine = by (is_good mode place l) refl agrees (reach n (position_on l) (listed_on l)) refl e
    where
      by : (g : Bool) → is_good mode place l ≡ g → (a : Bool) (c : Bool) → reach n (position_on l) (listed_on l) ≡ c
          → accepted next ≡ judge (refuse (not (g && a)) 15 (pos place.line ∷ []) ∷ refuse c 16 (pos place.line ∷ []) ∷ [])
          (place_after place (length l) (record_of l))
          → (is_good mode place l ≡ true) × (reach n (position_on l) (listed_on l) ≡ false) × (next ≡ place_after place (length l) (record_of l))
      by true g true false f q = (g, f, ap place_of q)
      by true g true true f q = absurd (never (ap is_accepted q))
      by true g false c f q = absurd (never (ap is_accepted q))
      by false g a c f q = absurd (never (ap is_accepted q))

module _ (mode : Mode) (text : List ℕ) (n : ℕ) where
  -- what is still to be read decides as all of it did
  pub record Going (place : Place) (image table : List ℕ) (end : ℕ) : Type 0 where
    pub cells : List ℕ
    pub kept : Kept place cells image end
    pub long : length image ≡ n
    pub wide : length table ≡ 1024
    pub answer : (x : ℕ)
        → judge (line_refusals mode n start (empty_sheet n) (lines text)) x
        ≡ judge (line_refusals mode n place (sheet cells (marks_in table n)) (lines (drop place.at text))) x
    pub rest : sheet_of text n ≡ sheet_after (sheet cells (marks_in table n)) (lines (drop place.at text))
    pub count : place.line + length (lines (drop place.at text)) ≡ 1 + length (lines text)
    pub number : place.line ≤ place.at + 1
    pub inside : place.at ≤ length text + 1

  pub going_start : (p : Place) → p ≡ start → (image table : List ℕ) → image ≡ replicate n 0 → table ≡ replicate 1024 0xFFFFFFFFFFFFFFFF → n ≤ 65536
      → Going p image table 0
  going_start p e image table f g h =
      let m : marks_in table n ≡ replicate n 0 = ap (λ (t : List ℕ). marks_in t n) g ∙ marks_none n h in
      let s : sheet (replicate n 0) (marks_in table n) ≡ empty_sheet n = ap (sheet (replicate n 0)) m in
      rw e (record {
        cells = replicate n 0;
        kept = kept_none n image f;
        long = ap length f ∙ length-replicate n 0;
        wide = ap length g ∙ length-replicate {A = ℕ} 1024 0xFFFFFFFFFFFFFFFF;
        answer = λ x. ap (λ (y : Sheet). judge (line_refusals mode n start y (lines text)) x) (sym s);
        rest = ap (λ (y : Sheet). sheet_after y (lines text)) (sym s);
        count = refl;
        number = omega arith;
        inside = omega arith;
      })

  module _ (place : Place) (image table : List ℕ) (end : ℕ) (g : Going place image table end) where
    abbrev before : Sheet
    before = sheet g.cells (marks_in table n)

    -- the answer, by what the rest of the lines is
    so_far : (ls : List (List ℕ)) → lines (drop place.at text) ≡ ls → (x : ℕ)
        → judge (line_refusals mode n start (empty_sheet n) (lines text)) x ≡ judge (line_refusals mode n place before ls) x
    so_far ls e x = g.answer x ∙ ap (λ (m : List (List ℕ)). judge (line_refusals mode n place before m) x) e

    pub going_some : length text ≤ place.at → 1 ≤ place.line
    going_some h = omega (arith, g.count, ap length (lines_end text place.at h))

    pub going_end : length text ≤ place.at → LinesLeave mode text n image table (accepted (place.line - 1))
    unfolding line_refusals sheet_after judge
    going_end h =
        let e = lines_end text place.at h in
        let c : place.line - 1 ≡ length (lines text) = omega (arith, g.count, ap length e) in
        let s : sheet_of text n ≡ before = g.rest ∙ ap (sheet_after before) e in
        record {
          answer = ap accepted c ∙ sym (so_far [] e (length (lines text)));
          image = λ k f. g.kept.is ∙ ap image_on (sym s);
          marks = λ k f. ap (λ (y : Sheet). y.marks) (sym s);
          wide = g.wide;
        }

    module _ (h : place.at < length text) where
      abbrev line : List ℕ
      line = up_to 10 (drop place.at text)

      next_lines : lines (drop place.at text) ≡ line ∷ lines (drop (suc (place.at + length line)) text)
      next_lines =
          let e : ℕ = place.at + length line in
          line_next text place.at e refl h
          ∙ rw (the_piece 10 text place.at e refl, add-one)

      -- the line over the image is judged as it is over the cells
      module _ (r : Result (Place × ℕ) RestoreError) (new told : List ℕ) (t : Turned mode place end image table line r new told) where
        turned : turned_of r ≡ turn_answer mode place (agree g.cells (position_on line) (listed_on line)) n line
        turned =
            t.answer
            ∙ ap (λ (k : ℕ). turn_answer mode place (agree_to end image (position_on line) (listed_on line)) k line) g.long
            ∙ turn_same mode place _ _ n line (λ o. agrees_is g.kept (position_on line) (listed_on line) (from g.kept mode line o))

        -- the answer, by this line's
        then : (x : ℕ)
            → judge (line_refusals mode n start (empty_sheet n) (lines text)) x
            ≡ onto (turned_of r) (λ (p : Place). judge
            (line_refusals mode n p (sheet_with before line) (lines (drop (suc (place.at + length line)) text))) x)
        then x =
            let ls : List (List ℕ) = lines (drop (suc (place.at + length line)) text) in
            so_far (line ∷ ls) next_lines x
            ∙ step mode n place g.cells (marks_in table n) line ls x
            ∙ ap (λ (b : Answer Place). onto b (λ (p : Place). judge (line_refusals mode n p (sheet_with before line) ls) x)) (sym turned)

        going_stop : (k : ℕ) (vs : List ℤ) → turned_of r ≡ refused k vs → length told ≡ length table → LinesLeave mode text n new told (refused k vs)
        going_stop k vs e w =
            let z : (j : ℕ) → refused k vs ≡ accepted j → ⊥ = λ j f. never (sym (ap is_accepted f)) in
            record {
              answer = sym (then (length (lines text))
                  ∙ ap (λ (b : Answer Place). onto b
                  (λ (p : Place). judge (line_refusals mode n p (sheet_with before line) (lines (drop (suc (place.at + length line)) text)))
                  (length (lines text)))) e);
              image = λ j f. absurd (z j f);
              marks = λ j f. absurd (z j f);
              wide = w ∙ g.wide;
            }

        pub going_err : (x : RestoreError) → r ≡ Err x → length told ≡ length table → LinesLeave mode text n new told (restore_refused x)
        going_err (Size (LongImage j)) e w = going_stop 1 (pos j ∷ []) (ap turned_of e) w
        going_err (Size (ShortMarks j)) e w = going_stop 2 (pos j ∷ []) (ap turned_of e) w
        going_err (NoRoom j) e w = going_stop 11 (pos j ∷ []) (ap turned_of e) w
        going_err (Malformed j) e w = going_stop 15 (pos j ∷ []) (ap turned_of e) w
        going_err (PastEnd j) e w = going_stop 16 (pos j ∷ []) (ap turned_of e) w

        module _ (next : Place) (far : ℕ) (e : r ≡ Ok (next, far)) where
          is : accepted next ≡ turn_answer mode place (agree g.cells (position_on line) (listed_on line)) n line
          is = sym (ap turned_of e) ∙ turned

          good : (is_good mode place line ≡ true) × (reach n (position_on line) (listed_on line) ≡ false) × (next ≡ place_after place (length line) (record_of line))
          good = fine mode place _ n line next is

          at_next : next.at ≡ suc (place.at + length line)
          unfolding place_after
          at_next = ap (λ (p : Place). p.at) good.2

          pub going_less : length text + 1 - next.at < length text + 1 - place.at
          going_less = omega (arith, at_next, h)

          line_number : length text < 2 ^ 63 → next.line ≡ suc place.line
          unfolding place_after line_after
          line_number b = ap (λ (p : Place). p.line) good.2 ∙ rw (lt-ltb place.line 18446744073709551615 (omega (arith, g.number, h, b)))

          -- the cells after it, and the marks
          cells_next : List ℕ
          cells_next = sets g.cells (position_on line) (map suc (listed_on line))

          noting : sheet_with before line ≡ sheet cells_next (marks_in told n)
          unfolding sheet_with cells_next
          noting =
              ap (sheet cells_next)
              (sym (ap (λ (t : List ℕ). marks_in t n) (t.leaves next far e).1 ∙ noted_marks (record_of line) table n g.wide (position_small line)))

          others : lines (drop (suc (place.at + length line)) text) ≡ lines (drop next.at text)
          others = ap (λ (k : ℕ). lines (drop k text)) (sym at_next)

          keeps : Kept next cells_next new far
          unfolding cells_next
          keeps = rw good.2 (kept_on g.kept mode line good.0 n g.long good.1 new (t.leaves next far e).0 far (t.leaves next far e).2)

          pub going_on_lem : length text < 2 ^ 63 → Going next new told far
          unfolding sheet_after
          going_on_lem b = record {
            cells = cells_next;
            kept = keeps;
            long = ap length (t.leaves next far e).0 ∙ length-sets image (position_on line) (listed_on line) ∙ g.long;
            wide = ap length (t.leaves next far e).1 ∙ noted_wide (record_of line) table ∙ g.wide;
            answer = λ x. then x ∙ ap (λ (b : Answer Place). onto b
                (λ (p : Place). judge (line_refusals mode n p (sheet_with before line) (lines (drop (suc (place.at + length line)) text))) x))
                (ap turned_of e) ∙ ap₂ (λ (y : Sheet) (ls : List (List ℕ)). judge (line_refusals mode n next y ls) x) noting others;
            rest = g.rest ∙ ap (sheet_after before) next_lines ∙ ap₂ sheet_after noting others;
            count = omega (arith, line_number b, g.count, ap length next_lines, ap length others);
            number = omega (arith, line_number b, at_next, g.number);
            inside = omega (arith, at_next, end_inside 10 text place.at (omega arith));
          }
