-- What a whole log answers and leaves: a refusal of what is lent, the totals, or a refusal whose lines are taken back.
-- Assumes nothing.
use Prim.Native.Nat.{ℕ, ◌*◌, ◌<◌, ◌≤◌}
use mathlib.Core.Path.{◌≡◌, refl, sym, ap, subst, ◌∙◌}
use mathlib.Core.Bool.{true, false}
use mathlib.Core.List.{List}
use Rattle.std.specs.Prelude.{Result, is_err}
use lib.ListN.{length}
use Rattle.instruction.specs.Answer.{accepted, refused, judge}
use Rattle.instruction.specs.declared.mode.Mode.{Mode}
use Rattle.replay.specs.Answers.{replayed_of, no_totals, lent_refusals, lent_answer, closed_of}
use Rattle.replay.specs.Back.{taken_back, Counted}
use Rattle.replay.specs.Block.{is_entry_of}
use Rattle.replay.specs.Log.{begun}
use Rattle.replay.specs.Replay.{replayed, replay_answer, replay_counts}
use Rattle.replay.specs.Take.{State, state, block_of}
use Rattle.replay.specs.declared.log.Log.{Log}
use Rattle.replay.specs.declared.answer.Totals.{Totals}
use Rattle.replay.specs.declared.answer.ReplayError.{ReplayError}
use Rattle.replay.proofs.Growing.{Grown, all_grown}
use Rattle.replay.proofs.Lent.{told_is, refused_is}

module _ (mode : Mode) (text image m entries counts : List ℕ) (c : Result Totals ReplayError) (e : replayed_of c ≡ judge (lent_refusals image m counts) no_totals) where
  abbrev pub Leaves : Result Totals ReplayError → List ℕ → Type 0
  Leaves a cs = (replayed_of a ≡ replay_answer mode text image m entries counts) × (cs ≡ replay_counts mode text image m entries counts)

  pub whole_lent : is_err c ≡ true → Leaves c counts
  unfolding replay_answer replay_counts lent_answer
  whole_lent f =
      let w = refused_is c f in
      let g : judge (lent_refusals image m counts) no_totals ≡ refused w.0 w.1 = sym e ∙ w.2 in
      (w.2 ∙ rw g refl, rw g refl)

  module _ (f : is_err c ≡ false) (new r : Log) (cs : List ℕ) (n : new ≡ begun)
      (s : state r cs ≡ block_of mode image m (is_entry_of entries) (state new counts) text) where
    is_replayed : state r cs ≡ replayed mode text image m entries counts
    is_replayed = s ∙ ap (λ (l : Log). block_of mode image m (is_entry_of entries) (state l counts) text) n

    pub can_take_back : length text < 18446744073709551616 → length image ≤ length counts → (7 * r.lines ≤ length text) × Counted text r.lines cs
    can_take_back h i = let G = subst (Grown text counts) (sym is_replayed) (all_grown mode image m (is_entry_of entries) text counts h i) in (G.within, G.back)

    module _ (a : Result Totals ReplayError) (h : replayed_of a ≡ closed_of r) where
      answer_is : replayed_of a ≡ replay_answer mode text image m entries counts
      unfolding replay_answer lent_answer
      answer_is =
          let w = told_is c f in
          let g : judge (lent_refusals image m counts) no_totals ≡ accepted w.0 = sym e ∙ w.1 in
          h ∙ ap (λ (x : State). closed_of x.log) is_replayed ∙ rw g refl

      pub whole_told : is_err a ≡ false → Leaves a cs
      unfolding replay_counts
      whole_told t =
          let w = told_is a t in
          let g : replay_answer mode text image m entries counts ≡ accepted w.0 = sym answer_is ∙ w.1 in
          (answer_is, ap (λ (x : State). x.counts) is_replayed ∙ rw g refl)

      pub whole_refused : is_err a ≡ true → length text < 18446744073709551616 → length image ≤ length counts → (back : List ℕ)
          → back ≡ taken_back text r.lines cs → Leaves a back
      unfolding replay_counts
      whole_refused t i j back k =
          let w = refused_is a t in
          let g : replay_answer mode text image m entries counts ≡ refused w.0 w.1 = sym answer_is ∙ w.2 in
          let G = subst (Grown text counts) (sym is_replayed) (all_grown mode image m (is_entry_of entries) text counts i j) in
          (answer_is, k ∙ G.before ∙ rw g refl)
