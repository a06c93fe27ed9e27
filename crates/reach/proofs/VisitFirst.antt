-- A first visit is the run's next step: what the visit pushes and the run did not note yet is what the step finds. Assumes nothing.
use Prim.Native.Nat.{ℕ, ◌<◌, ◌≤◌}
use native.Mathlib.Omega.{arith}
use mathlib.Core.Bool.{true, false}
use mathlib.Core.Path.{◌≡◌, refl, sym, ap, ap₂, subst, ◌∙◌}
use mathlib.Core.Logic.{◌⊎◌, inl, inr, ⊎_elim, ◌↔◌}
use mathlib.Core.List.Memᴰ
use mathlib.Core.List.{List, ◌∷◌, ◌++◌, Memᴰ as Among}
use lib.ListN.{length, get_or, set, length-set}
use Rattle.reach.specs.Mark.{untouched, waiting, traced, IsTraced}
use Rattle.reach.specs.Note.{Open, note, fresh}
use Rattle.reach.specs.Takes.{Ready}
use Rattle.reach.specs.Tracer.{Tracer, targets, mark, took, found}
use Rattle.reach.specs.ClaimsWorklist.{ByTraced}
use Rattle.reach.specs.Worklist.{Graph, contains_instr, targets_by, visited, pushed}
use Rattle.reach.proofs.Cases.{not_both}
use Rattle.reach.proofs.Found.{mark_ne}
use Rattle.reach.proofs.Lasting.{lasting_on, held_itself}
use Rattle.reach.proofs.Line.{Line}
use Rattle.reach.proofs.LineNext.{line_next}
use Rattle.reach.proofs.Mark.{live_ne, waits_not, traced_test}
use Rattle.reach.proofs.Uncontained.{NotesUncontained, notes_uncontained}
use Rattle.reach.proofs.Note.{note_open, fresh_open, note_append, fresh_append, length_note}
use Rattle.reach.proofs.NoteAlike.{SameOpen, same_open_set, open_before, NotedAlike, noted_alike}
use Rattle.reach.proofs.Open.{marked_shut}
use Rattle.reach.proofs.Set.{open_set, set_open}
use Rattle.reach.proofs.Abreast.{TracedIn, Abreast, targets_same}
use Rattle.reach.proofs.TakesAt.{took_traced, traced_took, itself_traced}
use Rattle.reach.proofs.Visit.{Onward, visited_long, visited_table, visited_contained, visited_jumps}

module _ (G : Tracer) (T : ByTraced G) (seen : List ℕ) (p : ℕ) (ahead : List ℕ) (g : Graph) (m : List ℕ) (S : Abreast G seen (p ∷ ahead) g m)
    (h : p < G.size) (c : contains_instr g p ≡ false) where
  -- the tables beside each other: with p noted, with p visited, and the run's with p taken up
  abbrev noted : List ℕ
  noted = set g.instrs p waiting

  abbrev instrs' : List ℕ
  instrs' = set g.instrs p traced

  abbrev marks' : List ℕ
  marks' = set m p (mark G m p)

  first_open : Open G.size g.instrs p
  first_open = record { inside = h; clear = by (S.table p) }
    where
      by : (get_or g.instrs p 0 ≡ untouched) ⊎ (get_or g.instrs p 0 ≡ traced) → get_or g.instrs p 0 ≡ untouched
      by (inl e) = e
      by (inr e) = absurd (not_both ((traced_test (get_or g.instrs p 0)).1 (inl e)) c)

  -- what the run has in its queue after p
  abbrev pub rest : List ℕ
  rest = fresh G.size ahead noted

  pub first_queue : fresh G.size (p ∷ ahead) g.instrs ≡ p ∷ rest
  first_queue = fresh_open G.size g.instrs p ahead first_open

  line : Line G m (p ∷ rest)
  line = rw first_queue at S.line

  waits : get_or m p 0 ≡ waiting
  waits = line.waits p (Among.head refl)

  alike : NotedAlike G.size ahead noted instrs'
  alike =
      noted_alike G.size ahead noted instrs' (omega (arith, S.long, length-set g.instrs p waiting))
      (omega (arith, S.long, length-set g.instrs p traced))
      (same_open_set G.size g.instrs g.instrs p waiting traced (omega (arith, S.long)) (omega (arith, S.long)) (λ z. omega arith)
      (λ z. omega arith) (λ q ne. (λ o. o, λ o. o)))

  long' : G.size ≤ length instrs'
  long' = omega (arith, S.long, length-set g.instrs p traced)

  marks_alike : SameOpen G.size (note G.size ahead instrs') marks'
  marks_alike q = (
    λ o.
        let ne = (set_open G.size g.instrs p traced q (λ z. omega arith) (omega (arith, S.long)) (open_before G.size ahead instrs' q long' o)).0 in
        open_set G.size m p (mark G m p) q ne
        ((S.same_open q).1 (rw (note_open G.size g.instrs p ahead first_open) ((alike.open_same q).1 o))),
    λ o.
        let r = set_open G.size m p (mark G m p) q (mark_ne G m p) (omega (arith, S.lasting.long)) o in
        (alike.open_same q).0 (rw (note_open G.size g.instrs p ahead first_open) at ((S.same_open q).0 r.1)),
  )

  -- the targets that the graph contains would not be noted
  pushes : NotesUncontained G.size (visited G g p) (targets_by G g p) (note G.size ahead instrs')
  unfolding visited
  pushes =
      notes_uncontained G.size (visited G g p) (targets_by G g p) (note G.size ahead instrs') (omega (arith, long', length_note G.size ahead instrs'))
      (λ t e o.
      marked_shut G.size instrs' t (live_ne (inr ((traced_test (get_or instrs' t 0)).0 e))) (open_before G.size ahead instrs' t long' o))

  targeted : NotedAlike G.size (targets_by G g p) (note G.size ahead instrs') marks'
  targeted =
      noted_alike G.size (targets_by G g p) (note G.size ahead instrs') marks' (omega (arith, long', length_note G.size ahead instrs'))
      (omega (arith, S.lasting.long, length-set m p (mark G m p))) marks_alike

  same_targets : targets_by G g p ≡ targets G m p
  same_targets = targets_same G T seen (p ∷ ahead) g m S p h

  pub next_queue : fresh G.size (ahead ++ pushed G g p) (visited G g p).instrs ≡ rest ++ found G m p
  unfolding pushed visited found
  next_queue =
      fresh_append G.size ahead (pushed G g p) instrs'
      ∙ ap₂ (λ (a b : List ℕ). a ++ b) (sym alike.fresh_same)
      (pushes.fresh_uncontained ∙ targeted.fresh_same ∙ ap (λ (ts : List ℕ). fresh G.size ts marks') same_targets)

  next_open : SameOpen G.size (took G m p) (note G.size (ahead ++ pushed G g p) (visited G g p).instrs)
  unfolding pushed visited took
  next_open q =
      let a = note_append G.size ahead (pushed G g p) instrs' ∙ pushes.note_uncontained in
      let s = targeted.open_same q in
      let by : List ℕ → Type 0 = λ ts. Open G.size (note G.size ts marks') q in
      (λ o. rw a (s.1 (subst by (sym same_targets) o)), λ o. subst by same_targets (s.0 (rw a at o)))

  module _ (f : G.fits p ≡ true) where
    ready : Ready G m p
    ready = record { inside = h; waits = waits; whole = f }

    step : Onward G m p (took G m p)
    step = record {
      itself = (h, itself_traced G m p S.lasting.long ready);
      others = λ a ne. (
        λ t. subst IsTraced (sym (took_traced G m p S.lasting.long ready a t)) t,
        λ t. ⊎_elim (λ e. absurd (ne e)) (λ u. u) (traced_took G m p S.lasting.long ready a t),
      );
      same = λ a ne t. sym (took_traced G m p S.lasting.long ready a t);
      now = λ q i. rw (held_itself G T m p S.lasting ready) i;
      before = λ q t i. absurd (waits_not waits t.1);
      had = λ q i. inl (rw (held_itself G T m p S.lasting ready) at i);
    }

    visits' : (q : ℕ) → Among q (p ∷ seen) ↔ TracedIn G (took G m p) q
    visits' q = (λ i. there (Memᴰ.cases_cons i), λ t. back t.0 (traced_took G m p S.lasting.long ready q t.1))
      where
        there : (q ≡ p) ⊎ Among q seen → TracedIn G (took G m p) q
        there (inl e) = subst (TracedIn G (took G m p)) (sym e) step.itself
        there (inr i) = let t = (S.visits q).0 i in (t.0, subst IsTraced (sym (took_traced G m p S.lasting.long ready q t.1)) t.1)

        back : q < G.size → (q ≡ p) ⊎ IsTraced (get_or m q 0) → Among q (p ∷ seen)
        back k (inl e) = Among.head e
        back k (inr t) = Among.tail ((S.visits q).1 (k, t))

    pub first_abreast : Abreast G (p ∷ seen) (ahead ++ pushed G g p) (visited G g p) (took G m p)
    first_abreast = record {
      lasting = lasting_on G T m p S.lasting ready;
      line = rw next_queue (line_next G m p rest S.lasting.long line);
      same_open = next_open;
      long = visited_long G T seen (p ∷ ahead) g m (took G m p) S p step;
      table = visited_table G T seen (p ∷ ahead) g m (took G m p) S p step;
      contained = visited_contained G T seen (p ∷ ahead) g m (took G m p) S p step;
      jumps = visited_jumps G T seen (p ∷ ahead) g m (took G m p) S p step;
      visits = visits';
    }
