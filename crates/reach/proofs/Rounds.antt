-- The worklist beside the run, turn by turn: where it ends, it comes out as the run does. Assumes nothing.
use Prim.Native.Nat.{ℕ, zero, suc, ◌<◌, ◌≤◌}
use mathlib.Core.Bool.{true, false}
use mathlib.Core.Path.{◌≡◌, refl, ap, ◌∙◌}
use mathlib.Core.Logic.{◌⊎◌, inl, inr, ◌↔◌, ◌≢◌}
use mathlib.Core.List.{List, [], ◌∷◌, ◌++◌, append_assoc, append-nil, Memᴰ as Among}
use lib.ListN.{get_or}
use Rattle.reach.specs.HowMany.{is_among}
use Rattle.reach.specs.Mark.{IsTraced}
use Rattle.reach.specs.Run.{stopped, cut_off, Outcome}
use Rattle.reach.specs.Tracer.{Tracer, took, held}
use Rattle.reach.specs.ClaimsWorklist.{ByTraced, firsts}
use Rattle.reach.specs.Worklist.{Graph, Built, contains_instr, visited, pushed, ending, visiting, round, rounds}
use Rattle.reach.proofs.Cases.{lt_or_le, yes_or_no, not_both}
use Rattle.reach.proofs.IsAmong.{among_test}
use Rattle.reach.proofs.Note.{fresh_nil}
use Rattle.reach.proofs.Open.{outside_shut}
use Rattle.reach.proofs.RunLaws.{run_finished}
use Rattle.reach.proofs.RoundTurn.{beside, unseen, turn_short, turn_cut, turn_on}
use Rattle.reach.proofs.Abreast.{TracedIn, Abreast}
use Rattle.reach.proofs.VisitAgain.{pass_queue, pass_abreast, again_traced, again_queue, again_abreast}
use Rattle.reach.proofs.VisitFirst.{first_abreast}
use Rattle.reach.proofs.WorklistLaws.{round_over, round_pass, round_cut, round_visit, rounds_over, rounds_short, rounds_on}
use Rattle.reach.proofs.WorklistLaws.{firsts_again, firsts_new, firsts_none}

-- the worklist's outcome b beside the run's, where `seen` was visited before
pub record Like (G : Tracer) (seen : List ℕ) (b : Built) (out : Outcome) : Type 0 where
  pub end : b.end ≡ out.end
  pub visits : firsts seen b.visits ≡ out.taken
  pub contained : (q : ℕ) → q < G.size → IsTraced (get_or b.graph.instrs q 0) ↔ IsTraced (get_or out.marks q 0)
  pub jumps : (p q : ℕ) → Among q (b.graph.jump_to p) ↔ (TracedIn G out.marks p × Among q (held G out.marks p))

module _ (G : Tracer) (T : ByTraced G) where
  -- b is what the worklist comes to with this ahead: wherever it stands so beside a run with enough steps, it comes out as that
  abbrev pub Matches : List ℕ → Graph → Built → Type 0
  Matches ahead g b =
      (seen m : List ℕ) (limit : ℕ) → Abreast G seen ahead g m → (beside G limit ahead g m).end ≢ stopped → b.end ≢ stopped
      → Like G seen b (beside G limit ahead g m)

  module _ (p : ℕ) (ahead : List ℕ) (g : Graph) where
    -- outside the image
    pass : (b : Built) → G.size ≤ p → Matches ahead g b → Matches (p ∷ ahead) g b
    pass b h on seen m limit S enough ends =
        let shut = outside_shut G.size g.instrs p h in
        let e = pass_queue G seen p ahead g m S shut in
        rw e (on seen m limit (pass_abreast G seen p ahead g m S shut) (rw e at enough) ends)

    -- not decoded: a first visit it would be
    cut : p < G.size → G.fits p ≡ false → Matches (p ∷ ahead) g (ending (cut_off p) g)
    cut h f seen m limit S enough ends = by limit (yes_or_no (contains_instr g p)) enough
      where
        by : (limit : ℕ) → (contains_instr g p ≡ true) ⊎ (contains_instr g p ≡ false) → (beside G limit (p ∷ ahead) g m).end ≢ stopped
            → Like G seen (ending (cut_off p) g) (beside G limit (p ∷ ahead) g m)
        by l (inl c) k = absurd (not_both (S.lasting.whole p h (again_traced G seen p ahead g m S T h c).1) f)
        by zero (inr c) k = absurd (k (turn_short G T p ahead g seen m S h c))
        by (suc l) (inr c) k = rw (turn_cut G T p ahead g seen m S h c l f) (record {
          end = refl;
          visits = firsts_none seen;
          contained = S.contained;
          jumps = S.jumps;
        })

    module _ (b : Built) (h : p < G.size) (on : Matches (ahead ++ pushed G g p) (visited G g p) b) where
      -- a repeat
      again : contains_instr g p ≡ true → Matches (p ∷ ahead) g (visiting p b)
      again c seen m limit S enough ends =
          let e = again_queue G seen p ahead g m S T h c in
          let L : Like G seen b (beside G limit (p ∷ ahead) g m) =
          rw e (on seen m limit (again_abreast G seen p ahead g m S T h c) (rw e at enough) ends) in
          let i : is_among p seen ≡ true = (among_test p seen).1 ((S.visits p).1 (again_traced G seen p ahead g m S T h c)) in
          record { end = L.end; visits = firsts_again seen p b.visits i ∙ L.visits; contained = L.contained; jumps = L.jumps }

      -- a first visit
      first : contains_instr g p ≡ false → G.fits p ≡ true → Matches (p ∷ ahead) g (visiting p b)
      first c f seen m zero S enough ends = absurd (enough (turn_short G T p ahead g seen m S h c))
      first c f seen m (suc limit) S enough ends =
          let e = turn_on G T p ahead g seen m S h c limit f in
          let L = on (p ∷ seen) (took G m p) limit (first_abreast G T seen p ahead g m S h c f) (rw e at enough) ends in
          rw e (record {
            end = L.end;
            visits = firsts_new seen p b.visits (unseen G T p ahead g seen m S h c) ∙ ap (λ (l : List ℕ). p ∷ l) L.visits;
            contained = L.contained;
            jumps = L.jumps;
          })

      visit : G.fits p ≡ true → Matches (p ∷ ahead) g (visiting p b)
      visit f seen m limit S enough ends = by (yes_or_no (contains_instr g p))
        where
          by : (contains_instr g p ≡ true) ⊎ (contains_instr g p ≡ false) → Like G seen (visiting p b) (beside G limit (p ∷ ahead) g m)
          by (inl c) = again c seen m limit S enough ends
          by (inr c) = first c f seen m limit S enough ends

  -- a round, where what comes after it matches
  pub round_matches : (next : List ℕ → Graph → Built) → ((positions : List ℕ) (g : Graph) → Matches positions g (next positions g))
      → (locs positions : List ℕ) (g : Graph) → Matches (locs ++ positions) g (round G locs positions g next)
  round_matches next N [] positions g = rw (round_over G positions g next) (N positions g)
  round_matches next N (p ∷ locs) positions g =
      by (lt_or_le p G.size) (yes_or_no (G.fits p)) (round_matches next N locs positions g)
      (round_matches next N locs (positions ++ pushed G g p) (visited G g p))
    where
      by : (p < G.size) ⊎ (G.size ≤ p) → (G.fits p ≡ true) ⊎ (G.fits p ≡ false) → Matches (locs ++ positions) g (round G locs positions g next)
          → Matches (locs ++ (positions ++ pushed G g p)) (visited G g p) (round G locs (positions ++ pushed G g p) (visited G g p) next)
          → Matches (p ∷ (locs ++ positions)) g (round G (p ∷ locs) positions g next)
      by (inr h) f on push = rw (round_pass G positions g next p locs h) (pass p (locs ++ positions) g _ h on)
      by (inl h) (inr f) on push = rw (round_cut G positions g next p locs h f) (cut p (locs ++ positions) g h f)
      by (inl h) (inl f) on push =
          rw (round_visit G positions g next p locs h f)
          (visit p (locs ++ positions) g _ h (rw (append_assoc locs positions (pushed G g p)) push) f)

  none_ahead : (most : ℕ) (g : Graph) → Matches [] g (rounds most G [] g)
  none_ahead most g seen m limit S enough ends =
      rw (rounds_over G g most, fresh_nil G.size g.instrs, run_finished G limit m) (record {
        end = refl;
        visits = firsts_none seen;
        contained = S.contained;
        jumps = S.jumps;
      })

  pub rounds_matches : (most : ℕ) (positions : List ℕ) (g : Graph) → Matches positions g (rounds most G positions g)
  rounds_matches zero [] g = none_ahead zero g
  rounds_matches (suc most) [] g = none_ahead (suc most) g
  rounds_matches zero (p ∷ positions) g = λ seen m limit S enough ends. absurd (ends (ap (λ (b : Built). b.end) (rounds_short G g p positions)))
  rounds_matches (suc most) (p ∷ positions) g =
      rw (rounds_on G g p positions most)
      (rw (append-nil (p ∷ positions)) at (round_matches (rounds most G) (rounds_matches most) (p ∷ positions) [] g))
