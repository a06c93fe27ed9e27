-- The counts after a refusal are those of the lines before it: these alone are an accepted log.
-- Assumes nothing.
use Prim.Native.Nat.{ℕ, suc, ◌+◌, ◌-◌, ◌*◌, ◌/◌, ◌<◌, ◌≤◌}
use native.Mathlib.Omega.{arith}
use mathlib.Core.Path.{◌≡◌, refl, sym, ap, subst, ◌∙◌}
use mathlib.Core.Bool.{Bool, true, false, cond, not, ◌&&◌}
use mathlib.Core.List.{List, [], ◌∷◌, ◌++◌}
use lib.Dec.{eqb}
use lib.IntN.{ℤ, pos}
use lib.ListN.{length, get_or, set, take, drop, length-drop}
use lib.Seq.{take-add, drop-drop, take_all, length-take-le, drop-length}
use Rattle.instruction.specs.Answer.{Answer, accepted, refused}
use Rattle.instruction.specs.Bytes.{Bytes}
use Rattle.instruction.proofs.Accepting.{differ}
use Rattle.instruction.specs.declared.mode.Mode.{Mode}
use Rattle.views.specs.Positions.{some}
use Rattle.views.proofs.TracedAt.{traced_inside}
use Rattle.replay.specs.Answers.{no_totals, lent_refusals, lent_answer, totals_of, number_held, told_of, closed_of}
use Rattle.replay.specs.Block.{is_entry_of}
use Rattle.replay.specs.Line.{position_of}
use Rattle.replay.specs.Log.{highest, begun, one_more, bytes_in, number_of, partial, refusing, going, keeping}
use Rattle.replay.specs.Replay.{replayed, replay_answer, replay_counts}
use Rattle.replay.specs.Take.{State, state, move_now, taken_at, lines_of, feed_of, block_of}
use Rattle.replay.specs.declared.answer.Totals.{Totals}
use Rattle.replay.specs.declared.log.Log.{Log}
use Rattle.replay.proofs.Feeding.{feed_on, feed_rest}
use Rattle.replay.proofs.Lent.{lent_sizes}
use Rattle.replay.proofs.Logs.{more_next}
use Rattle.replay.proofs.Taking.{counted}
use Rattle.replay_laws.specs.ClaimsBlocks as claims
use Rattle.replay_laws.proofs.Along.{Fine, onward, along}
use Rattle.replay_laws.proofs.Closing.{answer_is, counts_are, closes}
use Rattle.replay_laws.proofs.ClaimsBlocksCut.{fed_is}
use Rattle.replay_laws.proofs.Cutting.{Parts, two_blocks, block_append}
use Rattle.replay_laws.proofs.Held.{bytes_take}

module _ (mode : Mode) (image m : List ℕ) (isEntry : ℕ → Bool) (text c₀ : List ℕ) (B : Bytes text) (long : length text < highest)
    (small : length image ≤ 65536) where
  abbrev block : State → List ℕ → State
  block = block_of mode image m isEntry

  -- after the first n lines alone
  abbrev first : ℕ → State
  first n = block (state begun c₀) (take (7 * n) text)

  -- the state between two lines is that of the lines before alone
  record So (k : ℕ) (s : State) (rest : List ℕ) : Type 0 where
    here : rest ≡ drop (7 * s.log.lines) text
    within : 7 * s.log.lines + 7 * k ≤ length text
    alone : first s.log.lines ≡ s
    refusal : s.log.refusal ≡ 0
    held : s.log.held ≡ 0

  pub record Before (s : State) : Type 0 where
    pub few : 7 * s.log.lines ≤ length text
    pub counts : (first s.log.lines).counts ≡ s.counts
    pub refusal : (first s.log.lines).log.refusal ≡ 0
    pub held : (first s.log.lines).log.held ≡ 0

  nothing_held : (s : State) → s.log.held ≡ 0 → partial s.log ≡ []
  unfolding partial bytes_in
  nothing_held s e = rw e refl

  module _ (s : State) (rest : List ℕ) (k : ℕ) (S : So (suc k) s rest) (F : Fine mode image m isEntry s (position_of (take 7 rest))) where
    abbrev p : ℕ
    p = position_of (take 7 rest)

    abbrev u : State
    u = onward mode image m isEntry s p

    seven : 7 ≤ length rest
    seven = let w = S.within in let z = ap length S.here in omega (arith, length-drop (7 * s.log.lines) text)

    taken : u ≡ taken_at mode image m isEntry s p
    taken = counted mode image m isEntry s.log s.counts p (λ z. (let i = traced_inside image m p F.traced in omega arith)) F.traced
        F.allowed _ refl F.room

    -- one line alone
    rested : feed_of mode image m isEntry u [] ≡ u
    unfolding feed_of lines_of keeping going some number_of
    rested = refl

    no_refusal : u.log.refusal ≡ 0
    unfolding going
    no_refusal = refl

    none_held : u.log.held ≡ 0
    unfolding going
    none_held = refl

    counts_line : u.log.lines ≡ s.log.lines + 1
    unfolding going
    counts_line = let w = S.within in sym (more_next s.log.lines (omega arith))

    drop_short : (l : List ℕ) → length l ≡ 7 → drop 7 l ≡ []
    drop_short l e = ap (λ (n : ℕ). drop n l) (sym e) ∙ drop-length l

    one_line : feed_of mode image m isEntry s (take 7 rest) ≡ u
    one_line =
        let e : length (take 7 rest) ≡ 7 = length-take-le 7 rest seven in
        sym (feed_on mode image m isEntry s u (take 7 rest) (omega arith)
        (taken ∙ ap (λ (l : List ℕ). taken_at mode image m isEntry s (position_of l)) (sym (take_all 7 (take 7 rest) (omega arith)))) no_refusal)
        ∙ ap (feed_of mode image m isEntry u) (drop_short (take 7 rest) e) ∙ rested

    -- the lines up to this one
    next_first : first (s.log.lines + 1) ≡ u
    unfolding block_of
    next_first =
        let n : ℕ = s.log.lines in
        let x : List ℕ = take (7 * n) text in
        let P = two_blocks mode image m isEntry (state begun c₀) x (take 7 rest) (bytes_take (7 * n) text B) in
        let Q = subst (Parts mode image m isEntry (state begun c₀) (partial begun ++ x) (take 7 rest)) S.alone P in
        ap (block (state begun c₀))
        (ap (λ (j : ℕ). take j text) (let z : 7 * (n + 1) ≡ 7 * n + 7 = omega arith in z) ∙ take-add (7 * n) 7 text
        ∙ ap (λ (l : List ℕ). x ++ take 7 l) (sym S.here))
        ∙ block_append mode image m isEntry (state begun c₀) x (take 7 rest) ∙ Q.on S.refusal
        ∙ ap (λ (l : List ℕ). feed_of mode image m isEntry s (l ++ take 7 rest)) (nothing_held s S.held) ∙ one_line

    on : So k u (drop 7 rest)
    on =
        let w = S.within in
        record {
          here = rw counts_line (ap (drop 7) S.here ∙ drop-drop 7 (7 * s.log.lines) text
              ∙ ap (λ (j : ℕ). drop j text) (let z : 7 * s.log.lines + 7 ≡ 7 * (s.log.lines + 1) = omega arith in z));
          within = rw counts_line (omega arith);
          alone = ap first counts_line ∙ next_first;
          refusal = no_refusal;
          held = none_held;
        }

  so_before : (k : ℕ) (s : State) (rest : List ℕ) (l : Log) → l.lines ≡ s.log.lines → So k s rest → Before (state l s.counts)
  so_before k s rest l e S =
      let w = S.within in
      record {
        few = rw e (omega arith);
        counts = rw (e, S.alone) refl;
        refusal = rw (e, S.alone) S.refusal;
        held = rw (e, S.alone) S.held;
      }

  refusing_lines : (l : Log) (n : ℕ) → (refusing l n).lines ≡ l.lines
  unfolding refusing
  refusing_lines l n = refl

  keeping_lines : (l : Log) (rest : List ℕ) → (keeping l rest).lines ≡ l.lines
  unfolding keeping refusing
  keeping_lines l rest = by (some (eqb 10) rest)
    where
      by : (b : Bool) → (cond b (refusing l 18) (record {
        lines = l.lines;
        interrupts = l.interrupts;
        free = l.free;
        last = l.last;
        refusal = 0;
        held = length rest;
        part = number_of rest;
      })).lines ≡ l.lines
      by true = refl
      by false = refl

  start_alone : first 0 ≡ state begun c₀
  unfolding block_of feed_of lines_of partial bytes_in keeping some number_of
  start_alone = refl

  pub before : Before (block (state begun c₀) text)
  unfolding block_of feed_of partial bytes_in
  before =
      along mode image m isEntry So Before (λ k s rest S F. on s rest k S F)
      (λ k s rest n S d e. so_before (suc k) s rest (refusing s.log n) (refusing_lines s.log n) S)
      (λ s rest S. so_before 0 s rest (keeping s.log rest) (keeping_lines s.log rest) S)
      (length text / 7) (state begun c₀) text
      (record { here = refl; within = omega arith; alone = start_alone; refusal = refl; held = refl })

-- a refusal of a line is of the one after those taken
same : {a b j k : ℕ} → ◌≡◌ {A = Answer Totals} (refused a (pos j ∷ [])) (refused b (pos k ∷ [])) → k ≡ j
same e = cc

line_number : (l : Log) (number n : ℕ) → closed_of l ≡ refused number (pos n ∷ []) → n ≡ one_more l.lines
unfolding closed_of told_of
line_number l number n e = by (eqb l.refusal 0) (eqb l.held 0) e
  where
    by : (a b : Bool) → cond (a && not b) (refused 18 (pos (one_more l.lines) ∷ []))
        (cond a (accepted (totals_of l)) (refused (number_held l.refusal) (pos (one_more l.lines) ∷ []))) ≡ refused number (pos n ∷ [])
        → n ≡ one_more l.lines
    by true true f = absurd (differ (sym f))
    by true false f = same f
    by false b f = same f

module _ (mode : Mode) (text image m entries counts : List ℕ) (B : Bytes text) (long : length text < highest)
    (lent : lent_answer image m counts ≡ accepted no_totals) where
  abbrev r : State
  r = replayed mode text image m entries counts

  sizes : length image ≤ 65536
  unfolding lent_answer
  sizes = (lent_sizes image m counts no_totals lent).0

  stood : Before mode image m (is_entry_of entries) text counts B long sizes r
  stood = before mode image m (is_entry_of entries) text counts B long sizes

  -- the lines before are a log of their own, and it is accepted
  lines_before : (number n : ℕ) → replay_answer mode text image m entries counts ≡ refused number (pos n ∷ [])
      → (t : Totals) × (replay_answer mode (take (7 * (n - 1)) text) image m entries counts ≡ accepted t)
      × (r.counts ≡ replay_counts mode (take (7 * (n - 1)) text) image m entries counts)
  lines_before number n e =
      let j : ℕ = r.log.lines in
      let f : n ≡ one_more j = line_number r.log number n (sym (answer_is mode text image m entries counts no_totals lent) ∙ e) in
      let w = stood.few in
      let g : one_more j ≡ j + 1 = sym (more_next j (omega arith)) in
      let h : n - 1 ≡ j = (let z : n ≡ j + 1 = f ∙ g in omega arith) in
      let x : List ℕ = take (7 * j) text in
      let a : replay_answer mode x image m entries counts ≡ accepted (totals_of (replayed mode x image m entries counts).log) =
      answer_is mode x image m entries counts no_totals lent ∙ closes (replayed mode x image m entries counts).log stood.refusal stood.held in
      rw h (totals_of (replayed mode x image m entries counts).log, a, sym stood.counts ∙ sym (counts_are mode x image m entries counts _ a))

pub counts_before : claims.CountsBefore
counts_before mode image m entries counts xs number n B long lent e =
    let b = lines_before mode (claims.joined xs) image m entries counts B long lent number n e in
    (b.0, b.1, ap (λ (s : State). s.counts) (fed_is mode image m entries counts lent xs B) ∙ b.2)
