-- The numbers that a replay's answers carry are lengths of lent slices, and totals and numbers of lines that stop at the highest value: each
-- fits a value of a reply.
-- Assumes nothing.
use mathlib.Core.Path.{◌≡◌, refl, sym, ap, subst, ◌∙◌}
use mathlib.Core.Bool.{Bool, true, false, cond, not, ◌&&◌}
use mathlib.Core.List.{List, [], ◌∷◌}
use Prim.Native.Nat.{ℕ, ◌+◌, ◌<◌, ◌^◌}
use native.Mathlib.Omega.{arith}
use borrow.Author.Tests.{leb-false, ne_eqb}
use lib.Dec.{eqb, leb}
use lib.IntN.{ℤ, pos}
use lib.ListN.{length}
use Rattle.instruction.specs.Answer.{Answer, accepted, refused}
use Rattle.instruction.specs.declared.mode.Mode.{Mode}
use Rattle.instruction.proofs.Carried.{Each, each_append, carries}
use Rattle.views.specs.View.{view_refusals}
use Rattle.views.proofs.Carrying.{view_each}
use Rattle.replay.specs.Log.{highest, one_more}
use Rattle.replay.specs.Answers.{lent_refusals, lent_answer, or_else, number_held, totals_of, told_of, closed_of}
use Rattle.replay.specs.Replay.{replay_answer}
use Rattle.replay.specs.Block.{block_answer}
use Rattle.replay.specs.declared.log.Log.{Log}
use Rattle.replay.specs.declared.answer.Totals.{Totals}
use Rattle.c_answers.specs.Lengths.{Small, totals_lengths}
use Rattle.c_answers.proofs.Fitting.{Fit, Holds, narrow, fewer}

-- the totals fit
abbrev pub Few : Totals → Type 0
Few t = Small (totals_lengths t)

-- each value of every refusal but 6 does
abbrev ButSix : ℕ → List ℤ → Type 0
ButSix n vs = eqb n 6 ≡ false → Fit vs

-- all numbers of an answer fit, but for those of 6
abbrev AllFit : Answer Totals → Type 0
AllFit (accepted t) = Few t
AllFit (refused n vs) = ButSix n vs

-- what a reply asks of an answer: of 6, as of 4 to 10, it asks nothing
not_six : (n : ℕ) → narrow n ≡ false → eqb n 6 ≡ false
not_six n e = ne_eqb n 6 (λ p. fewer (sym (ap narrow p) ∙ e))

as_needed : (a : Answer Totals) → AllFit a → Holds Few a
as_needed (accepted t) h = h
as_needed (refused n vs) h = λ g. h (not_six n g)

-- the totals fit one by one, and so does the one value of every refusal but 6
abbrev pub Told : Answer Totals → Type 0
Told (accepted t) = (t.lines < 2 ^ 63) × (t.interrupts < 2 ^ 63) × (t.free < 2 ^ 63)
Told (refused n vs) = eqb n 6 ≡ false → (k : ℕ) → vs ≡ pos k ∷ [] → k < 2 ^ 63

as_told : (a : Answer Totals) → AllFit a → Told a
as_told (accepted t) h = (h.0, h.1.0, h.1.1.0)
as_told (refused n vs) h = λ g k e. (subst Fit e (h g)).0

-- a line's number
line_small : (n : ℕ) → one_more n < 2 ^ 63
unfolding one_more
line_small n = by (leb highest n) refl
  where
    by : (t : Bool) → leb highest n ≡ t → cond t highest (n + 1) < 2 ^ 63
    by true e = omega arith
    by false e = let h : n < highest = leb-false highest n e in omega arith

totals_few : (l : Log) → Few (totals_of l)
totals_few l = (omega arith, (omega arith, (omega arith, tt)))

told_small : (l : Log) → AllFit (told_of l)
unfolding told_of
told_small l = by (eqb l.refusal 0)
  where
    by : (t : Bool) → AllFit (cond t (accepted (totals_of l)) (refused (number_held l.refusal) (pos (one_more l.lines) ∷ [])))
    by true = totals_few l
    by false = λ g. (line_small l.lines, tt)

closed_answer : (l : Log) → AllFit (closed_of l)
unfolding closed_of
closed_answer l = by (eqb l.refusal 0 && not (eqb l.held 0))
  where
    by : (t : Bool) → AllFit (cond t (refused 18 (pos (one_more l.lines) ∷ [])) (told_of l))
    by true = λ g. (line_small l.lines, tt)
    by false = told_small l

pub closed_fits : (l : Log) → Holds Few (closed_of l)
closed_fits l = as_needed (closed_of l) (closed_answer l)

-- after refusals whose values fit
else_small : (a b : Answer Totals) → ((n : ℕ) (vs : List ℤ) → refused n vs ≡ a → ButSix n vs) → AllFit b → AllFit (or_else a b)
else_small (accepted t) b f h = h
else_small (refused n vs) b f h = f n vs refl

module _ (image m : List ℕ) (i : length image < 2 ^ 63) (k : length m < 2 ^ 63) (counts : List ℕ) where
  lent_each : Each ButSix (lent_refusals image m counts)
  lent_each =
      each_append ButSix (view_refusals image m) _ (view_each ButSix (λ p. fewer) image m (λ g. (i, tt)) (λ g. (k, tt))) (λ g. (i, tt), tt)

  lent_small : (n : ℕ) (vs : List ℤ) → refused n vs ≡ lent_answer image m counts → ButSix n vs
  unfolding lent_answer
  lent_small n vs e = carries ButSix (lent_refusals image m counts) _ n vs lent_each e

  module _ (mode : Mode) (text entries : List ℕ) where
    whole_all : AllFit (replay_answer mode text image m entries counts)
    unfolding replay_answer
    whole_all = else_small (lent_answer image m counts) _ lent_small (closed_answer _)

    pub whole_fits : Holds Few (replay_answer mode text image m entries counts)
    whole_fits = as_needed _ whole_all

    pub whole_answer_lem : Told (replay_answer mode text image m entries counts)
    whole_answer_lem = as_told _ whole_all

    block_all : (l : Log) → AllFit (block_answer l mode text image m entries counts)
    unfolding block_answer
    block_all l = by (eqb l.refusal 0) _ (else_small (lent_answer image m counts) _ lent_small (told_small _))
      where
        by : (t : Bool) (a : Answer Totals) → AllFit a → AllFit (cond t a (told_of l))
        by true a h = h
        by false a h = told_small l

    pub block_fits : (l : Log) → Holds Few (block_answer l mode text image m entries counts)
    block_fits l = as_needed _ (block_all l)

    pub block_answer_lem : (l : Log) → Told (block_answer l mode text image m entries counts)
    block_answer_lem l = as_told _ (block_all l)
