-- The marks written from the table of `I` lines: cleared, and then one at each position that is noted.
-- Assumes nothing.
use mathlib.Core.Path.{◌≡◌, refl, sym, ap, subst, ◌∙◌}
use mathlib.Core.Bool.{Bool, true, false, cond}
use mathlib.Core.List.{List, [], ◌∷◌, ◌++◌}
use mathlib.Core.Logic.{◌⊎◌, inl, inr}
use Prim.Native.Nat.{ℕ, ◌+◌, ◌-◌, ◌≤◌, ◌<◌}
use native.Mathlib.Omega.{arith}
use borrow.Author.Tests.{le-ltb, leb-true, ltb-true, ltb-false, eqb-true, eqb-false}
use lib.Dec.{eqb, ltb, leb}
use lib.IntN.{pos}
use lib.ListN.{length, get_or, set, drop, replicate, length-set, length-append, length-drop, length-replicate, get_or-append}
use lib.Seq.{get_or-set_same, get_or-set_other, get_or-append-add, get_or-drop, ext_get_or, drop_at}
use Rattle.instruction.specs.Answer.{Answer, accepted, refused, judge}
use Rattle.instruction.proofs.Sign.{never}
use Rattle.map.specs.Ask.{asked_of, first_answer}
use Rattle.map.specs.Bits.{first_in}
use Rattle.map.specs.Words.{words_for, data_at}
use Rattle.map.specs.declared.ask.AskError.{AskError}
use Rattle.map.specs.declared.ask.AskError.TheVariants.{LongImage, NoRoom, Outside}
use Rattle.std.specs.Prelude.{Result, Ok, Err}
use Rattle.map.proofs.Runs.{first_in_lem, first_before, first_hit}
use Rattle.reach.specs.Mark.{cleared}
use Rattle.reach.proofs.Cleared.{cleared_at}
use Rattle.read_back.specs.Noted.{marks_in}
use Rattle.read_back.proofs.Noting.{marks_length, marks_at}

-- the first of four is none of the others
pub no_other : (◌≡◌ {A = ℕ} 0 1) ⊎ ((◌≡◌ {A = ℕ} 0 2) ⊎ (◌≡◌ {A = ℕ} 0 3)) → ⊥
no_other (inl e) = omega arith
no_other (inr (inl e)) = omega arith
no_other (inr (inr e)) = omega arith

abbrev is_accepted : Answer ℕ → Bool
is_accepted (accepted v) = true
is_accepted (refused j vs) = false

abbrev value_in : ℕ → Answer ℕ → ℕ
value_in r (accepted v) = v
value_in r (refused j vs) = r

-- ---- the next position that is noted, as the map answers it

module _ (ws : List ℕ) (n q : ℕ) (w : length ws ≡ 1024) (h : n ≤ 65536) (k : q ≤ n) where
  abbrev first : ℕ
  first = first_in (data_at ws) (n - q) q

  by_end : (b : Bool) → leb n q ≡ b → first_answer ws n q ≡ cond b (refused 17 (pos q ∷ [])) (accepted first)
  unfolding first_answer judge
  by_end b e = rw (le-ltb 65536 n h, le-ltb (length ws) (words_for n) (omega (arith, w)), e)

  pub next_some : (r : ℕ) → accepted r ≡ first_answer ws n q → r ≡ first
  next_some r e = by (leb n q) (e ∙ by_end (leb n q) refl)
    where
      by : (b : Bool) → accepted r ≡ cond b (refused 17 (pos q ∷ [])) (accepted first) → r ≡ first
      by true f = absurd (never (ap is_accepted f))
      by false f = ap (value_in r) f

  pub next_none : (x : Result ℕ AskError) → asked_of x ≡ first_answer ws n q → ((r : ℕ) → x ≡ Ok r → ⊥) → n ≡ first
  unfolding first_in
  next_none x e f = by (leb n q) refl
    where
      told : (x : Result ℕ AskError) → asked_of x ≡ accepted first → ((r : ℕ) → x ≡ Ok r → ⊥) → ⊥
      told (Ok r) e f = f r refl
      told (Err (LongImage j)) e f = never (sym (ap is_accepted e))
      told (Err (NoRoom j)) e f = never (sym (ap is_accepted e))
      told (Err (Outside j)) e f = never (sym (ap is_accepted e))

      by : (b : Bool) → leb n q ≡ b → n ≡ first
      by true g = let l = leb-true n q g in let z : n - q ≡ 0 = omega arith in rw z (omega arith)
      by false g = absurd (told x (e ∙ by_end false g) f)

-- ---- the marks, over a room that is cleared

pub clear_blank : (n : ℕ) (m z : List ℕ) → z ≡ replicate n 0 → (q : ℕ) → q < n → get_or (z ++ drop n m) q 0 ≡ 0
unfolding cleared
clear_blank n m z e q k = ap (λ (l : List ℕ). get_or (l ++ drop n m) q 0) e ∙ cleared_at n m q k

pub clear_rest : (n : ℕ) (m z : List ℕ) → z ≡ replicate n 0 → drop n (z ++ drop n m) ≡ drop n m
clear_rest n m z e = drop_at z (drop n m) n (ap length e ∙ length-replicate n 0)

module _ (ws : List ℕ) (n : ℕ) (m : List ℕ) where
  abbrev wanted : List ℕ
  wanted = marks_in ws n ++ drop n m

  wanted_at : (q : ℕ) → q < n → get_or wanted q 0 ≡ cond (data_at ws q) 2 0
  wanted_at q k = get_or-append (marks_in ws n) (drop n m) 0 q (omega (arith, marks_length ws n)) ∙ marks_at ws n q k

  -- past the image nothing is changed
  wanted_past : (q : ℕ) → n ≤ q → get_or wanted q 0 ≡ get_or m q 0
  wanted_past q k =
      let e = marks_length ws n in
      ap (λ (i : ℕ). get_or wanted i 0) (let f : q ≡ length (marks_in ws n) + (q - n) = omega arith in f)
      ∙ get_or-append-add (marks_in ws n) (drop n m) (q - n) 0
      ∙ get_or-drop n m (q - n) 0
      ∙ ap (λ (i : ℕ). get_or m i 0) (let f : n + (q - n) ≡ q = omega arith in f)

  -- marked before i, as it was from i on, where the next is
  pub record Marking (marks : List ℕ) (i : ℕ) : Type 0 where
    pub blank : (q : ℕ) → q < n → get_or m q 0 ≡ 0
    pub same : length marks ≡ length m
    pub most : i ≤ n
    pub hit : i < n → data_at ws i ≡ true
    pub done : (q : ℕ) → q < i → get_or marks q 0 ≡ get_or wanted q 0
    pub left : (q : ℕ) → i ≤ q → get_or marks q 0 ≡ get_or m q 0

  -- from a on to the next position that is noted
  moved : ((q : ℕ) → q < n → get_or m q 0 ≡ 0) → (marks : List ℕ) (a j : ℕ) → a ≤ n → j ≡ first_in (data_at ws) (n - a) a → length marks ≡ length m
      → ((q : ℕ) → q < a → get_or marks q 0 ≡ get_or wanted q 0) → ((q : ℕ) → a ≤ q → get_or marks q 0 ≡ get_or m q 0) → Marking marks j
  moved z marks a j k e l d r =
      let b = first_in_lem (data_at ws) (n - a) a in
      record {
        blank = z;
        same = l;
        most = omega (arith, e, b.1);
        hit = λ h. ap (data_at ws) e ∙ first_hit (data_at ws) (n - a) a (omega (arith, e));
        done = λ q h. by q (ltb q a) refl (subst (λ (x : ℕ). q < x) e h) b.1;
        left = λ q h. r q (omega (arith, e, b.0));
      }
    where
      by : (q : ℕ) (t : Bool) → ltb q a ≡ t → q < first_in (data_at ws) (n - a) a → first_in (data_at ws) (n - a) a ≤ a + (n - a) → get_or marks q 0 ≡ get_or wanted q 0
      by q true f h b = d q (ltb-true q a f)
      by q false f h b =
          let g = ltb-false q a f in
          let i : q < n = omega arith in
          r q g ∙ z q i ∙ sym (wanted_at q i ∙ ap (λ (x : Bool). cond x 2 0) (first_before (data_at ws) (n - a) a q g h))

  pub marking_start : ((q : ℕ) → q < n → get_or m q 0 ≡ 0) → (j : ℕ) → j ≡ first_in (data_at ws) (n - 0) 0 → Marking m j
  marking_start z j f = moved z m 0 j (omega arith) f refl (λ q h. absurd (omega arith)) (λ q h. refl)

  module _ (marks : List ℕ) (i : ℕ) (g : Marking marks i) where
    pub marking_next : i < n → n ≤ length m → (j : ℕ) → j ≡ first_in (data_at ws) (n - (i + 1)) (i + 1) → Marking (set marks i 2) j
    marking_next k h j e =
        moved g.blank (set marks i 2) (i + 1) j (omega arith) e (length-set marks i 2 ∙ g.same) (λ q z. by q z (eqb q i) refl)
        (λ q z. get_or-set_other marks i q 2 0 (λ f. omega arith) ∙ g.left q (omega arith))
      where
        by : (q : ℕ) → q < i + 1 → (t : Bool) → eqb q i ≡ t → get_or (set marks i 2) q 0 ≡ get_or wanted q 0
        by q z true f =
            let d : q ≡ i = eqb-true q i f in
            rw d (get_or-set_same marks i 2 0 (omega (arith, g.same, h)) ∙ sym (wanted_at i k ∙ ap (λ (x : Bool). cond x 2 0) (g.hit k)))
        by q z false f =
            let d : q ≡ i → ⊥ = eqb-false q i f in
            get_or-set_other marks i q 2 0 d ∙ g.done q (omega arith)

    pub marking_less : i < n → (j : ℕ) → j ≡ first_in (data_at ws) (n - (i + 1)) (i + 1) → n - j < n - i
    marking_less k j e = omega (arith, e, (first_in_lem (data_at ws) (n - (i + 1)) (i + 1)).0)

    pub marking_end : n ≤ i → n ≤ length m → marks ≡ wanted
    marking_end k h =
        ext_get_or 0 marks wanted (g.same ∙ omega (arith, length-append (marks_in ws n) (drop n m), marks_length ws n, length-drop n m))
        (λ q l. by q (ltb q i) refl)
      where
        by : (q : ℕ) (t : Bool) → ltb q i ≡ t → get_or marks q 0 ≡ get_or wanted q 0
        by q true f = g.done q (ltb-true q i f)
        by q false f =
            let z = ltb-false q i f in
            g.left q z ∙ sym (wanted_past q (omega arith))
