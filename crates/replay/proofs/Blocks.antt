-- What a block answers and leaves: a refusal held, a refusal of what is lent, or the block fed.
-- Assumes nothing.
use Prim.Native.Nat.{ℕ}
use mathlib.Core.Path.{◌≡◌, refl, sym, ap, ◌∙◌}
use mathlib.Core.Bool.{true, false}
use mathlib.Core.List.{List}
use Rattle.std.specs.Prelude.{Result, is_err}
use borrow.Author.Tests.{eq-eqb, ne_eqb}
use Rattle.instruction.specs.Answer.{accepted, refused, judge}
use Rattle.instruction.specs.declared.mode.Mode.{Mode}
use Rattle.replay.specs.Answers.{replayed_of, no_totals, lent_refusals, lent_answer, told_of}
use Rattle.replay.specs.Block.{fed, block_answer, block_log, block_counts}
use Rattle.replay.specs.Take.{State, state}
use Rattle.replay.specs.declared.log.Log.{Log}
use Rattle.replay.specs.declared.answer.Totals.{Totals}
use Rattle.replay.specs.declared.answer.ReplayError.{ReplayError}
use Rattle.replay.proofs.Lent.{told_is, refused_is}

module _ (l : Log) (mode : Mode) (text image m entries counts : List ℕ) where
  abbrev Leaves : Result Totals ReplayError → Log → List ℕ → Type 0
  Leaves a r cs =
      (replayed_of a ≡ block_answer l mode text image m entries counts)
      × ((r ≡ block_log l mode text image m entries counts) × (cs ≡ block_counts l mode text image m entries counts))

  pub block_held : (l.refusal ≡ 0 → ⊥) → (a : Result Totals ReplayError) → replayed_of a ≡ told_of l → Leaves a l counts
  unfolding block_answer block_log block_counts
  block_held d a e = let f = ne_eqb l.refusal 0 d in (e ∙ rw f refl, (rw f refl, rw f refl))

  module _ (z : l.refusal ≡ 0) (c : Result Totals ReplayError) (e : replayed_of c ≡ judge (lent_refusals image m counts) no_totals) where
    pub block_lent : is_err c ≡ true → Leaves c l counts
    unfolding block_answer block_log block_counts lent_answer
    block_lent f =
        let b = eq-eqb l.refusal 0 z in
        let w = refused_is c f in
        let g : judge (lent_refusals image m counts) no_totals ≡ refused w.0 w.1 = sym e ∙ w.2 in
        (w.2 ∙ rw (b, g) refl, (rw (b, g) refl, rw (b, g) refl))

    pub block_fed : is_err c ≡ false → (r : Log) (cs : List ℕ) → state r cs ≡ fed l mode text image m entries counts → (a : Result Totals ReplayError) → replayed_of a ≡ told_of r
        → Leaves a r cs
    unfolding block_answer block_log block_counts lent_answer
    block_fed f r cs s a h =
        let b = eq-eqb l.refusal 0 z in
        let w = told_is c f in
        let g : judge (lent_refusals image m counts) no_totals ≡ accepted w.0 = sym e ∙ w.1 in
        let k : r ≡ (fed l mode text image m entries counts).log = ap (λ (x : State). x.log) s in
        (h ∙ ap told_of k ∙ rw (b, g) refl, (k ∙ rw (b, g) refl, ap (λ (x : State). x.counts) s ∙ rw (b, g) refl))
