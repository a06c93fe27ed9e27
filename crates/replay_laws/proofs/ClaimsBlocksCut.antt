-- Blocks cut anywhere: what they leave is what the whole text leaves as one block.
-- Assumes nothing.
use Prim.Native.Nat.{ℕ, suc, ◌+◌, ◌/◌}
use mathlib.Core.Path.{◌≡◌, refl, sym, ap, subst, ◌∙◌}
use mathlib.Core.Bool.{Bool, true, false, cond}
use mathlib.Core.List.{List, [], ◌∷◌, ◌++◌, append-nil, append_assoc}
use mathlib.Core.Logic.{◌⊎◌, inl, inr}
use lib.Dec.{eqb, ltb}
use lib.IntN.{ℤ, pos}
use lib.ListN.{length, get_or, set, take, drop, length-set}
use borrow.Author.Tests.{eq-eqb, ne_eqb}
use Rattle.instruction.specs.Answer.{Answer, accepted, refused, Refusal, refuse, judge, after}
use Rattle.instruction.specs.Bytes.{Bytes}
use Rattle.instruction.specs.declared.mode.Mode.{Mode}
use Rattle.reach.proofs.Cases.{eq_or_ne, Decided}
use Rattle.views.specs.Positions.{some}
use Rattle.views.specs.View.{view_refusals}
use Rattle.replay.specs.Answers.{no_totals, lent_refusals, lent_answer, or_else, told_of, closed_of}
use Rattle.replay.specs.Block.{is_entry_of, block_answer, block_log, block_counts}
use Rattle.replay.specs.Line.{position_of}
use Rattle.replay.specs.Log.{begun, bytes_in, number_of, partial, refusing, going, keeping}
use Rattle.replay.specs.Replay.{replayed}
use Rattle.replay.specs.Take.{State, state, move_now, taken_at, lines_of, feed_of, block_of}
use Rattle.replay.specs.declared.answer.Totals.{Totals}
use Rattle.replay.specs.declared.log.Log.{Log}
use Rattle.replay.proofs.Logs.{close_refused}
use Rattle.replay_laws.specs.ClaimsBlocks as claims
use Rattle.replay_laws.proofs.Along.{along}
use Rattle.replay_laws.proofs.Closing.{answer_is, counts_are}
use Rattle.replay_laws.proofs.Cutting.{Parts, two_blocks, block_append}
use Rattle.replay_laws.proofs.Held.{bytes_first}

-- what is lent is judged by the length of the counts alone
lent_same : (image m c c' : List ℕ) → length c ≡ length c' → lent_answer image m c ≡ lent_answer image m c'
unfolding lent_answer
lent_same image m c c' e = ap (λ (n : ℕ). judge (view_refusals image m ++ refuse (ltb n (length image)) 11 (pos (length image) ∷ []) ∷ []) no_totals) e

-- the counts stay as long
pub block_length : (mode : Mode) (image m : List ℕ) (isEntry : ℕ → Bool) (s : State) (text : List ℕ)
    → length (block_of mode image m isEntry s text).counts ≡ length s.counts
unfolding block_of feed_of
block_length mode image m isEntry s text =
    along mode image m isEntry (λ k t rest. length t.counts ≡ length s.counts) (λ t. length t.counts ≡ length s.counts)
    (λ k t rest e F. length-set t.counts (position_of (take 7 rest)) _ ∙ e) (λ k t rest n e d f. e) (λ t rest e. e)
    (length (partial s.log ++ text) / 7) s (partial s.log ++ text) refl

module _ (mode : Mode) (image m entries : List ℕ) where
  abbrev block : State → List ℕ → State
  block = block_of mode image m (is_entry_of entries)

  -- what one call leaves
  abbrev step : State → List ℕ → State
  step s x = state (block_log s.log mode x image m entries s.counts) (block_counts s.log mode x image m entries s.counts)

  step_is : (s : State) (x : List ℕ) → s.log.refusal ≡ 0 → lent_answer image m s.counts ≡ accepted no_totals → step s x ≡ block s x
  unfolding block_log block_counts
  step_is s x z e = rw (eq-eqb s.log.refusal 0 z, e) refl

  step_held : (s : State) (x : List ℕ) → (s.log.refusal ≡ 0 → ⊥) → step s x ≡ s
  unfolding block_log block_counts
  step_held s x z = rw (ne_eqb s.log.refusal 0 z) refl

  module _ (s : State) (z : s.log.refusal ≡ 0) (lent : lent_answer image m s.counts ≡ accepted no_totals) where
    lent_after : (x : List ℕ) → lent_answer image m (block s x).counts ≡ accepted no_totals
    lent_after x = lent_same image m _ _ (block_length mode image m (is_entry_of entries) s x) ∙ lent

    -- two blocks are one
    merge : (x y : List ℕ) → Bytes x → step (step s x) y ≡ step s (x ++ y)
    merge x y B =
        ap (λ (t : State). step t y) (step_is s x z lent) ∙ by (eq_or_ne (block s x).log.refusal 0)
        ∙ sym (step_is s (x ++ y) z lent ∙ block_append mode image m (is_entry_of entries) s x y)
      where
        P : Parts mode image m (is_entry_of entries) s (partial s.log ++ x) y (block_of mode image m (is_entry_of entries) s x)
        P = two_blocks mode image m (is_entry_of entries) s x y B

        by : Decided ((block_of mode image m (is_entry_of entries) s x).log.refusal ≡ 0)
            → step (block_of mode image m (is_entry_of entries) s x) y ≡ feed_of mode image m (is_entry_of entries) s ((partial s.log ++ x) ++ y)
        by (inl e) = step_is _ y e (lent_after x) ∙ sym (P.on e)
        by (inr e) = step_held _ y e ∙ sym (P.stop e)

    -- and so are all
    as_one : (xs : List (List ℕ)) (x : List ℕ) → Bytes (x ++ claims.joined xs)
        → claims.fed_all mode image m entries s (x ∷ xs) ≡ block s (x ++ claims.joined xs)
    unfolding claims.joined claims.fed_all
    as_one [] x B = step_is s x z lent ∙ ap (block s) (sym (append-nil x))
    as_one (y ∷ ys) x B =
        let e : (x ++ y) ++ claims.joined ys ≡ x ++ (y ++ claims.joined ys) = append_assoc x y (claims.joined ys) in
        ap (λ (t : State). claims.fed_all mode image m entries t ys) (merge x y (bytes_first x (y ++ claims.joined ys) B))
        ∙ as_one ys (x ++ y) (subst Bytes (sym e) B) ∙ ap (block s) e

  module _ (counts : List ℕ) (lent : lent_answer image m counts ≡ accepted no_totals) where
    begun_empty : block (state begun counts) [] ≡ state begun counts
    unfolding block_of feed_of lines_of partial bytes_in keeping some number_of
    begun_empty = refl

    -- the record and the counts after the blocks
    pub fed_is : (xs : List (List ℕ)) → Bytes (claims.joined xs)
        → claims.fed mode image m entries counts xs ≡ replayed mode (claims.joined xs) image m entries counts
    unfolding claims.fed_all
    fed_is xs B =
        ap (λ (t : State). claims.fed_all mode image m entries t xs) (sym (step_is (state begun counts) [] refl lent ∙ begun_empty))
        ∙ as_one (state begun counts) refl lent xs [] B

pub cut_anywhere : claims.CutAnywhere
cut_anywhere mode image m entries counts xs ys B lent e =
    fed_is mode image m entries counts lent xs B ∙ ap (λ (text : List ℕ). replayed mode text image m entries counts) e
    ∙ sym (fed_is mode image m entries counts lent ys (subst Bytes e B))

pub closed_as_whole : claims.ClosedAsWhole
closed_as_whole mode image m entries counts xs B lent =
    ap (λ (s : State). closed_of s.log) (fed_is mode image m entries counts lent xs B)
    ∙ sym (answer_is mode (claims.joined xs) image m entries counts no_totals lent)

pub counts_as_whole : claims.CountsAsWhole
counts_as_whole mode image m entries counts xs t B lent e =
    ap (λ (s : State). s.counts) (fed_is mode image m entries counts lent xs B) ∙ sym (counts_are mode (claims.joined xs) image m entries counts t e)

pub held_stays : claims.HeldStays
unfolding block_answer block_log block_counts
held_stays l mode text image m entries counts d =
    let b = ne_eqb l.refusal 0 d in (rw b refl, rw b refl, rw b refl, close_refused l d)

pub lent_stays : claims.LentStays
unfolding block_answer block_log block_counts
lent_stays l mode text image m entries counts number vs z e =
    let b = eq-eqb l.refusal 0 z in (rw (b, e) refl, rw (b, e) refl, rw (b, e) refl)
