-- The counts after some lines: these can be taken out of them again, which gives the counts before.
-- Assumes nothing.
use Prim.Native.Nat.{ℕ, zero, suc, ◌+◌, ◌-◌, ◌*◌, ◌/◌, ◌<◌, ◌≤◌}
use native.Mathlib.Omega.{arith}
use mathlib.Core.Path.{◌≡◌, refl, sym, ap, subst, ◌∙◌}
use mathlib.Core.Bool.{Bool, true, false, cond}
use mathlib.Core.List.{List, [], ◌∷◌}
use lib.Dec.{eqb}
use lib.ListN.{length, get_or, set, take, drop, length-set, length-drop}
use lib.Seq.{get_or-set_same, drop-drop}
use borrow.Author.Tests.{ne_eqb}
use Rattle.instruction.specs.declared.mode.Mode.{Mode}
use Rattle.views.proofs.TracedAt.{traced_inside}
use Rattle.replay.specs.Line.{position_of, position_at}
use Rattle.views.specs.Positions.{some}
use Rattle.replay.specs.Log.{begun, one_more, number_of, refusing, going, keeping, partial, bytes_in}
use Rattle.replay.specs.Back.{less, taken_back, Counted}
use Rattle.replay.specs.Take.{State, state, move_now, lines_of, feed_of, block_of}
use Rattle.replay.proofs.How.{How, stopped, went, how}
use Rattle.replay.proofs.Logs.{more_next}

-- one more and one less again
set_back : (c : List ℕ) (p v : ℕ) → set (set c p v) p (get_or c p 0) ≡ c
set_back [] p v = refl
set_back (x ∷ c) zero v = refl
set_back (x ∷ c) (suc p) v = ap (λ (l : List ℕ). x ∷ l) (set_back c p v)

less_more : (c : List ℕ) (p : ℕ) → p < length c → less (set c p (get_or c p 0 + 1)) p ≡ c
less_more c p h =
    ap (λ (v : ℕ). set (set c p (get_or c p 0 + 1)) p (v - 1)) (get_or-set_same c p (get_or c p 0 + 1) 0 h)
    ∙ ap (λ (v : ℕ). set (set c p (get_or c p 0 + 1)) p v) (let e : get_or c p 0 + 1 - 1 ≡ get_or c p 0 = omega arith in e) ∙ set_back c p _

-- what the first lines of a text have grown from c₀ to the state's counts
pub record Grown (text c₀ : List ℕ) (s : State) : Type 0 where
  pub within : 7 * s.log.lines ≤ length text
  pub back : Counted text s.log.lines s.counts
  pub before : taken_back text s.log.lines s.counts ≡ c₀

-- a line more at its position
module _ (text c : List ℕ) (j : ℕ) (h : position_at text j < length c) where
  abbrev grown : List ℕ
  grown = set c (position_at text j) (get_or c (position_at text j) 0 + 1)

  counted_more : Counted text j c → Counted text (suc j) grown
  counted_more w = (
    subst (λ (n : ℕ). position_at text j < n) (sym (length-set c (position_at text j) _)) h,
    rw (get_or-set_same c (position_at text j) (get_or c (position_at text j) 0 + 1) 0 h) (omega arith),
    subst (Counted text j) (sym (less_more c (position_at text j) h)) w,
  )

  back_more : taken_back text (suc j) grown ≡ taken_back text j c
  unfolding taken_back
  back_more = ap (taken_back text j) (less_more c (position_at text j) h)

module _ (mode : Mode) (image m : List ℕ) (isEntry : ℕ → Bool) (text c₀ : List ℕ) (fits : length text < 18446744073709551616) where
  abbrev Step : State → State → Type 0
  Step s t = Grown text c₀ t × (length t.counts ≡ length s.counts)

  -- a line refused, or taken
  stay : (s : State) (n : ℕ) → Grown text c₀ s → Step s (state (refusing s.log n) s.counts)
  unfolding refusing
  stay s n G = (record { within = G.within; back = G.back; before = G.before }, refl)

  more : (s : State) (p : ℕ) → p < length s.counts → p ≡ position_at text s.log.lines → 7 * s.log.lines + 7 ≤ length text → Grown text c₀ s
      → Step s (state (going s.log p (move_now mode image m isEntry s.log p)) (set s.counts p (get_or s.counts p 0 + 1)))
  unfolding going
  more s p h f g G =
      let j : ℕ = s.log.lines in
      let e : one_more j ≡ suc j = sym (more_next j (omega arith)) ∙ (let y : j + 1 ≡ suc j = omega arith in y) in
      let c : List ℕ = set s.counts p (get_or s.counts p 0 + 1) in
      let d : c ≡ set s.counts (position_at text j) (get_or s.counts (position_at text j) 0 + 1) =
      ap (λ (q : ℕ). set s.counts q (get_or s.counts q 0 + 1)) f in
      let k : position_at text j < length s.counts = subst (λ (q : ℕ). q < length s.counts) f h in (
        record {
          within = rw e (omega arith);
          back = rw (e, d) (counted_more text s.counts j k G.back);
          before = rw (e, d) (back_more text s.counts j k ∙ G.before);
        },
        length-set s.counts p _,
      )

  taken_grown : (s t : State) (p : ℕ) → How mode image m isEntry s p t → length image ≤ length s.counts → p ≡ position_at text s.log.lines
      → 7 * s.log.lines + 7 ≤ length text → Grown text c₀ s → Step s t
  taken_grown s t p (stopped n d e) h f g G = subst (Step s) (sym e) (stay s n G)
  taken_grown s t p (went a b d e) h f g G = subst (Step s) (sym e) (more s p (let i = traced_inside image m p a in omega arith) f g G)

  keep_grown : (s : State) (rest : List ℕ) → Grown text c₀ s → Grown text c₀ (state (keeping s.log rest) s.counts)
  unfolding keeping refusing
  keep_grown s rest G = by (some (eqb 10) rest)
    where
      by : (b : Bool) → Grown text c₀ (state (cond b (refusing s.log 18) (record {
        lines = s.log.lines;
        interrupts = s.log.interrupts;
        free = s.log.free;
        last = s.log.last;
        refusal = 0;
        held = length rest;
        part = number_of rest;
      })) s.counts)
      by true = record { within = G.within; back = G.back; before = G.before }
      by false = record { within = G.within; back = G.back; before = G.before }

  -- where the line after these begins
  next_place : (s : State) (p : ℕ) (rest : List ℕ) → rest ≡ drop (7 * s.log.lines) text → 7 * s.log.lines + 7 ≤ length text
      → drop 7 rest ≡ drop (7 * (going s.log p (move_now mode image m isEntry s.log p)).lines) text
  unfolding going
  next_place s p rest e h =
      ap (drop 7) e ∙ drop-drop 7 (7 * s.log.lines) text
      ∙ ap (λ (n : ℕ). drop n text)
      (let f : s.log.lines + 1 ≡ one_more s.log.lines = more_next s.log.lines (omega arith) in
      let g : 7 * s.log.lines + 7 ≡ 7 * one_more s.log.lines = omega arith in g)

  -- after one line, those that are left
  abbrev Leads : ℕ → Type 0
  Leads k = (s : State) (rest : List ℕ) → rest ≡ drop (7 * s.log.lines) text → 7 * k ≤ length rest → length image ≤ length s.counts
      → Grown text c₀ s → Grown text c₀ (lines_of mode image m isEntry k s rest)

  next_grown : (k : ℕ) → Leads k → (s t : State) (p : ℕ) (rest : List ℕ) → How mode image m isEntry s p t → rest ≡ drop (7 * s.log.lines) text
      → 7 * suc k ≤ length rest
      → length image ≤ length s.counts → p ≡ position_at text s.log.lines → Grown text c₀ s
      → Grown text c₀ (cond (eqb t.log.refusal 0) (lines_of mode image m isEntry k t (drop 7 rest)) t)
  unfolding refusing going
  next_grown k ih s t p rest (stopped n d e) f g h i G = rw (e, ne_eqb n 0 d) (stay s n G).0
  next_grown k ih s t p rest (went a b d e) f g h i G =
      let z : 7 * s.log.lines + 7 ≤ length text = (let y = ap length f in omega (arith, length-drop (7 * s.log.lines) text)) in
      let w = more s p (let y = traced_inside image m p a in omega arith) i z G in
      rw e
      (ih (state (going s.log p (move_now mode image m isEntry s.log p)) (set s.counts p (get_or s.counts p 0 + 1))) (drop 7 rest)
      (next_place s p rest f z)
      (omega (arith, length-drop 7 rest)) (omega (arith, w.1)) w.0)

  -- the lines up to the next place of the text
  lines_grown : (k : ℕ) → Leads k
  unfolding lines_of
  lines_grown zero s rest e h i G = keep_grown s rest G
  lines_grown (suc k) s rest e h i G =
      next_grown k (lines_grown k) s _ _ rest (how mode image m isEntry s (position_of (take 7 rest))) e h i (ap (λ (l : List ℕ). position_of (take 7 l)) e) G

  -- from the first line on
  pub all_grown : length image ≤ length c₀ → Grown text c₀ (block_of mode image m isEntry (state begun c₀) text)
  unfolding block_of feed_of partial bytes_in taken_back
  all_grown h =
      lines_grown (length text / 7) (state begun c₀) text refl (omega arith) h (record { within = omega arith; back = tt; before = refl })
