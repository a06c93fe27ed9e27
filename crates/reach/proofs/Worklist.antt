-- The worklist from its start: it comes out as the run over cleared marks. Assumes nothing.
use Prim.Native.Nat.{ℕ, ◌<◌, ◌≤◌}
use native.Mathlib.Omega.{arith}
use mathlib.Core.Bool.{Bool, true, false}
use mathlib.Core.Path.{◌≡◌, refl, sym, ap, subst}
use mathlib.Core.Logic.{◌⊎◌, inl, inr, ⊎_elim, ◌↔◌}
use mathlib.Core.List.Memᴰ
use mathlib.Core.List.{List, [], ◌∷◌, Memᴰ as Among}
use lib.ListN.{length, get_or, replicate, length-replicate, get_or-replicate, get_or-eq_default}
use Rattle.reach.specs.HowMany.{is_among}
use Rattle.reach.specs.Mark.{untouched, flash, IsTraced, cleared}
use Rattle.reach.specs.Note.{note, fresh}
use Rattle.reach.specs.Run.{Outcome, run_from, run_of}
use Rattle.reach.specs.Takes.{Base}
use Rattle.reach.specs.Tracer.{Tracer, held}
use Rattle.reach.specs.ClaimsWorklist.{firsts, AsRun, WorklistRuns}
use Rattle.reach.specs.Worklist.{Built, new_graph, worklist}
use Rattle.reach.proofs.Cases.{lt_or_le}
use Rattle.reach.proofs.Cleared.{cleared_at}
use Rattle.reach.proofs.IsAmong.{among_test}
use Rattle.reach.proofs.Lasting.{held_plain, held_flash}
use Rattle.reach.proofs.Line.{line_start}
use Rattle.reach.proofs.Mark.{live_ne, traced_test}
use Rattle.reach.proofs.NoteAlike.{NotedAlike, noted_alike}
use Rattle.reach.proofs.Order.{cleared_base}
use Rattle.reach.proofs.Rounds.{Like, rounds_matches}
use Rattle.reach.proofs.Run.{run_ending}
use Rattle.reach.proofs.RunNotes.{run_noting}
use Rattle.reach.proofs.Abreast.{TracedIn, Abreast}
use Rattle.reach.proofs.Start.{start_long, start_untraced}
use Rattle.reach.proofs.WorklistLaws.{firsts_again, firsts_new}

-- ---- the start

module _ (G : Tracer) (entries marks : List ℕ) (l : G.size ≤ length marks) where
  abbrev base : List ℕ
  base = cleared G.size marks

  abbrev none : List ℕ
  none = replicate G.size untouched

  B : Base G base
  B = cleared_base G marks l

  clear : (q : ℕ) → get_or none q 0 ≡ untouched
  clear q = by (lt_or_le q G.size)
    where
      by : (q < G.size) ⊎ (G.size ≤ q) → get_or none q 0 ≡ untouched
      by (inl h) = get_or-replicate G.size q untouched 0 h
      by (inr h) = get_or-eq_default none 0 (omega (arith, length-replicate {A = ℕ} G.size untouched))

  alike : NotedAlike G.size entries base none
  alike =
      noted_alike G.size entries base none B.long (omega (arith, length-replicate {A = ℕ} G.size untouched))
      (λ q. (λ o. record { inside = o.inside; clear = clear q }, λ o. record { inside = o.inside; clear = cleared_at G.size marks q o.inside }))

  untraced : (q : ℕ) → TracedIn G (note G.size entries base) q → ⊥
  untraced q t = start_untraced G entries base B q t.0 t.1

  pub start_abreast : Abreast G [] entries (new_graph G) (note G.size entries base)
  start_abreast = record {
    lasting = record {
      long = start_long G entries base B;
      whole = λ p h t. absurd (untraced p (h, t));
      shut = λ p q h t i o. untraced p (h, t);
      still = λ p h e. absurd (untraced p (h, inr e));
    };
    line = rw alike.fresh_same at (line_start G entries base B);
    same_open = alike.open_same;
    long = length-replicate {A = ℕ} G.size untouched;
    table = λ q. inl (clear q);
    contained = λ q h. (λ t. absurd (live_ne (inr t) (clear q)), λ t. absurd (untraced q (h, t)));
    jumps = λ p q. (λ i. absurd (Memᴰ.not-nil i), λ w. absurd (untraced p w.0));
    visits = λ q. (λ i. absurd (Memᴰ.not-nil i), λ t. absurd (untraced q t));
  }

  -- the run from the same start
  pub start_run : (limit : ℕ) → run_of limit G entries base ≡ run_from limit G (fresh G.size entries none) (note G.size entries base)
  unfolding run_of
  start_run limit = ap (λ (l : List ℕ). run_from limit G l (note G.size entries base)) alike.fresh_same

-- ---- what was visited was visited for the first time

firsts_all : (seen ps : List ℕ) (q : ℕ) → Among q ps → Among q seen ⊎ Among q (firsts seen ps)
firsts_all seen [] q i = absurd (Memᴰ.not-nil i)
firsts_all seen (p ∷ ps) q i = by (is_among p seen) refl (Memᴰ.cases_cons i) (λ (s : List ℕ) (j : Among q ps). firsts_all s ps q j)
  where
    new : is_among p seen ≡ false → Among q (p ∷ seen) ⊎ Among q (firsts (p ∷ seen) ps) → Among q seen ⊎ Among q (firsts seen (p ∷ ps))
    new e (inr j) = inr (rw (firsts_new seen p ps e) (Among.tail j))
    new e (inl j) = ⊎_elim (λ x. inr (rw (firsts_new seen p ps e) (Among.head x))) (λ k. inl k) (Memᴰ.cases_cons j)

    by : (b : Bool) → is_among p seen ≡ b → (q ≡ p) ⊎ Among q ps
        → ((s : List ℕ) → Among q ps → Among q s ⊎ Among q (firsts s ps)) → Among q seen ⊎ Among q (firsts seen (p ∷ ps))
    by true e (inl x) on = inl (subst (λ (y : ℕ). Among y seen) (sym x) ((among_test p seen).0 e))
    by true e (inr j) on = ⊎_elim (λ k. inl k) (λ k. inr (rw (firsts_again seen p ps e) k)) (on seen j)
    by false e (inl x) on = inr (rw (firsts_new seen p ps e) (Among.head x))
    by false e (inr j) on = new e (on (p ∷ seen) j)

-- ---- the claim

module _ (limit : ℕ) (G : Tracer) (entries marks : List ℕ) (l : G.size ≤ length marks) (b : Built)
    (L : Like G [] b (run_of limit G entries (cleared G.size marks))) where
  abbrev out : Outcome
  out = run_of limit G entries (cleared G.size marks)

  taken : (q : ℕ) → Among q out.taken ↔ TracedIn G out.marks q
  taken = (run_noting limit G entries (cleared G.size marks) (cleared_base G marks l)).taken_traced

  jumps : (p q : ℕ) → Among q (b.graph.jump_to p) ↔ (Among p out.taken × Among q (held G out.marks p))
  jumps p q =
      (λ i. let r = (L.jumps p q).0 i in ((taken p).1 r.0, r.1), λ w. (L.jumps p q).1 ((taken p).0 w.0, w.1))

  not_followed : (p t : ℕ) → Among p b.visits → Among t (G.ways p)
      → (get_or out.marks p 0 ≡ flash) ↔ ((q : ℕ) → Among q (b.graph.jump_to p) → ⊥)
  not_followed p t i w = (
    λ e q j. Memᴰ.not-nil (rw (held_flash G out.marks p e) at ((L.jumps p q).0 j).1),
    λ no_jump. by no_jump traced.1,
  )
    where
      traced : TracedIn G out.marks p
      traced = (taken p).0 (rw L.visits at (⊎_elim (λ j. absurd (Memᴰ.not-nil j)) (λ j. j) (firsts_all [] b.visits p i)))

      by : ((q : ℕ) → Among q (b.graph.jump_to p) → ⊥) → IsTraced (get_or out.marks p 0) → get_or out.marks p 0 ≡ flash
      by no_jump (inl e) = absurd (no_jump t ((L.jumps p t).1 (traced, rw (held_plain G out.marks p e) w)))
      by no_jump (inr e) = e

  as_run : AsRun G b out
  as_run = record {
    same_end = L.end;
    first_visits_lem = L.visits;
    same_traced = λ q h. (
      λ e. (L.contained q h).0 ((traced_test _).0 e),
      λ t. (traced_test _).1 ((L.contained q h).1 t),
    );
    same_jumps = jumps;
    not_followed = not_followed;
  }

pub worklist_runs : WorklistRuns
unfolding worklist
worklist_runs most limit G T entries marks l enough ends =
    let e = start_run G entries marks l limit in
    let goes = (run_ending limit G entries (cleared G.size marks) (cleared_base G marks l)).enough enough in
    let L = rounds_matches G T most entries (new_graph G) [] (note G.size entries (cleared G.size marks)) limit (start_abreast G entries marks l)
    (rw e at goes) ends in
    as_run limit G entries marks l (worklist most G entries) (rw e L)
