-- What an accepted log says of its record: nothing is refused or held, and the totals are the record's.
-- Assumes nothing.
use Prim.Native.Nat.{ℕ}
use mathlib.Core.Path.{◌≡◌, refl, sym, ap, ◌∙◌}
use mathlib.Core.Bool.{Bool, true, false, cond, not, ◌&&◌}
use mathlib.Core.List.{List, [], ◌∷◌}
use lib.Dec.{eqb}
use lib.IntN.{ℤ, pos}
use borrow.Author.Tests.{eqb-true, eqb-false, eq-eqb}
use Rattle.instruction.specs.Answer.{Answer, accepted, refused, after}
use Rattle.instruction.proofs.Accepting.{differ}
use Rattle.instruction.specs.declared.mode.Mode.{Mode}
use Rattle.replay.specs.Answers.{lent_answer, or_else, totals_of, number_held, told_of, closed_of}
use Rattle.replay.specs.Log.{one_more}
use Rattle.replay.specs.Replay.{replayed, replay_answer, replay_counts}
use Rattle.replay.specs.Take.{State}
use Rattle.replay.specs.declared.answer.Totals.{Totals}
use Rattle.replay.specs.declared.log.Log.{Log}

same : {a b : Totals} → ◌≡◌ {A = Answer Totals} (accepted a) (accepted b) → a ≡ b
same {a} {b} e = cc

pub record Closed (l : Log) (t : Totals) : Type 0 where
  pub nothing_refused : l.refusal ≡ 0
  pub nothing_held : l.held ≡ 0
  pub totals : totals_of l ≡ t

pub closed : (l : Log) (t : Totals) → closed_of l ≡ accepted t → Closed l t
unfolding closed_of told_of
closed l t e = by (eqb l.refusal 0) refl (eqb l.held 0) refl e
  where
    by : (a : Bool) → eqb l.refusal 0 ≡ a → (b : Bool) → eqb l.held 0 ≡ b
        → cond (a && not b) (refused 18 (pos (one_more l.lines) ∷ []))
        (cond a (accepted (totals_of l)) (refused (number_held l.refusal) (pos (one_more l.lines) ∷ []))) ≡ accepted t
        → Closed l t
    by true f true g h = record { nothing_refused = eqb-true l.refusal 0 f; nothing_held = eqb-true l.held 0 g; totals = same h }
    by true f false g h = absurd (differ h)
    by false f b g h = absurd (differ h)

-- and a record so closed is accepted
pub closes : (l : Log) → l.refusal ≡ 0 → l.held ≡ 0 → closed_of l ≡ accepted (totals_of l)
unfolding closed_of told_of
closes l e f = rw (eq-eqb l.refusal 0 e, eq-eqb l.held 0 f) refl

module _ (mode : Mode) (text image m entries counts : List ℕ) where
  -- nothing that is lent is refused, and the record is so
  pub accepted_is : (t : Totals) → replay_answer mode text image m entries counts ≡ accepted t
      → ((u : Totals) × (lent_answer image m counts ≡ accepted u)) × Closed (replayed mode text image m entries counts).log t
  unfolding replay_answer
  accepted_is t e = by (lent_answer image m counts) refl e
    where
      by : (a : Answer Totals) → lent_answer image m counts ≡ a → or_else a (closed_of (replayed mode text image m entries counts).log) ≡ accepted t
          → ((u : Totals) × (lent_answer image m counts ≡ accepted u)) × Closed (replayed mode text image m entries counts).log t
      by (accepted u) f g = ((u, f), closed _ t g)
      by (refused n vs) f g = absurd (differ g)

  pub counts_are : (t : Totals) → replay_answer mode text image m entries counts ≡ accepted t
      → replay_counts mode text image m entries counts ≡ (replayed mode text image m entries counts).counts
  unfolding replay_counts
  counts_are t e = ap (λ (a : Answer Totals). after a (replayed mode text image m entries counts).counts counts) e

  -- where nothing lent is refused, the answer is the closed record's
  pub answer_is : (u : Totals) → lent_answer image m counts ≡ accepted u
      → replay_answer mode text image m entries counts ≡ closed_of (replayed mode text image m entries counts).log
  unfolding replay_answer
  answer_is u e = ap (λ (a : Answer Totals). or_else a (closed_of (replayed mode text image m entries counts).log)) e
