-- The run beside the worklist, and its turn at a first visit. Assumes nothing.
use Prim.Native.Nat.{ℕ, suc, ◌<◌}
use mathlib.Core.Bool.{true, false}
use mathlib.Core.Path.{◌≡◌, sym, ap, ◌∙◌}
use mathlib.Core.Logic.{◌⊎◌, inl, inr}
use mathlib.Core.List.{List, ◌∷◌, ◌++◌}
use lib.ListN.{get_or}
use Rattle.reach.specs.HowMany.{is_among}
use Rattle.reach.specs.Note.{fresh}
use Rattle.reach.specs.Run.{stopped, cut_off, Outcome, halt, taking_first, run_from}
use Rattle.reach.specs.Tracer.{Tracer, took}
use Rattle.reach.specs.ClaimsWorklist.{ByTraced}
use Rattle.reach.specs.Worklist.{Graph, contains_instr, visited, pushed}
use Rattle.reach.proofs.Cases.{yes_or_no, not_both}
use Rattle.reach.proofs.IsAmong.{among_test}
use Rattle.reach.proofs.Mark.{traced_test}
use Rattle.reach.proofs.RunLaws.{run_stopped, run_cut, run_on}
use Rattle.reach.proofs.Abreast.{Abreast}
use Rattle.reach.proofs.VisitFirst.{rest, first_queue, next_queue}

-- the run that goes on beside the worklist
abbrev pub beside : Tracer → ℕ → List ℕ → Graph → List ℕ → Outcome
beside G limit ahead g m = run_from limit G (fresh G.size ahead g.instrs) m

module _ (G : Tracer) (T : ByTraced G) (p : ℕ) (ahead : List ℕ) (g : Graph) (seen m : List ℕ) (S : Abreast G seen (p ∷ ahead) g m)
    (h : p < G.size) (c : contains_instr g p ≡ false) where
  pub unseen : is_among p seen ≡ false
  unseen = by (yes_or_no (is_among p seen))
    where
      by : (is_among p seen ≡ true) ⊎ (is_among p seen ≡ false) → is_among p seen ≡ false
      by (inl e) =
          let t = (S.contained p h).1 ((S.visits p).0 ((among_test p seen).0 e)).1 in
          absurd (not_both ((traced_test (get_or g.instrs p 0)).1 t) c)
      by (inr e) = e

  pub turn_short : (beside G 0 (p ∷ ahead) g m).end ≡ stopped
  turn_short =
      let q = rest G T seen p ahead g m S h c in
      ap (λ (l : List ℕ). (run_from 0 G l m).end) (first_queue G T seen p ahead g m S h c) ∙ ap (λ (o : Outcome). o.end) (run_stopped G p q m)

  pub turn_cut : (limit : ℕ) → G.fits p ≡ false
      → beside G (suc limit) (p ∷ ahead) g m ≡ halt (cut_off p) (p ∷ rest G T seen p ahead g m S h c) m
  turn_cut limit f =
      ap (λ (l : List ℕ). run_from (suc limit) G l m) (first_queue G T seen p ahead g m S h c)
      ∙ run_cut G p (rest G T seen p ahead g m S h c) m limit f

  pub turn_on : (limit : ℕ) → G.fits p ≡ true
      → beside G (suc limit) (p ∷ ahead) g m ≡ taking_first p (beside G limit (ahead ++ pushed G g p) (visited G g p) (took G m p))
  turn_on limit f =
      ap (λ (l : List ℕ). run_from (suc limit) G l m) (first_queue G T seen p ahead g m S h c)
      ∙ run_on G p (rest G T seen p ahead g m S h c) m limit f
      ∙ ap (λ (l : List ℕ). taking_first p (run_from limit G l (took G m p))) (sym (next_queue G T seen p ahead g m S h c))
