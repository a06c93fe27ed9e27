-- A repeat, and a position outside the image: what the run has ahead stays. A repeat pushes only what the run has taken up or has in its
-- queue. Assumes nothing.
use Prim.Native.Nat.{ℕ, ◌<◌}
use native.Mathlib.Omega.{arith}
use mathlib.Core.Bool.{true}
use mathlib.Core.Path.{◌≡◌, refl, sym, ap, subst, ◌∙◌}
use mathlib.Core.Logic.{inr}
use mathlib.Core.List.{List, ◌∷◌, ◌++◌, append-nil, Memᴰ as Among}
use lib.ListN.{get_or, set, length-set}
use Rattle.reach.specs.Mark.{traced, IsTraced}
use Rattle.reach.specs.Note.{Open, note, fresh}
use Rattle.reach.specs.Tracer.{Tracer, targets}
use Rattle.reach.specs.ClaimsWorklist.{ByTraced}
use Rattle.reach.specs.Worklist.{Graph, contains_instr, targets_by, visited, pushed}
use Rattle.reach.proofs.Lasting.{targets_lasting}
use Rattle.reach.proofs.Mark.{live_ne, traced_test}
use Rattle.reach.proofs.Uncontained.{uncontained_among}
use Rattle.reach.proofs.Note.{note_shut, fresh_shut, note_append, fresh_append}
use Rattle.reach.proofs.NoteAlike.{SameOpen, NotedAlike, noted_alike, note_all_shut, fresh_all_shut}
use Rattle.reach.proofs.Open.{marked_shut}
use Rattle.reach.proofs.Set.{open_set, set_open}
use Rattle.reach.proofs.Abreast.{TracedIn, Abreast, targets_same}
use Rattle.reach.proofs.Visit.{Onward, visited_long, visited_table, visited_contained, visited_jumps}

module _ (G : Tracer) (seen : List ℕ) (p : ℕ) (ahead : List ℕ) (g : Graph) (m : List ℕ) (S : Abreast G seen (p ∷ ahead) g m) where
  -- what is ahead without its first, which is not open
  module _ (shut : Open G.size g.instrs p → ⊥) where
    pub pass_queue : fresh G.size (p ∷ ahead) g.instrs ≡ fresh G.size ahead g.instrs
    pass_queue = fresh_shut G.size g.instrs p ahead shut

    pub pass_abreast : Abreast G seen ahead g m
    pass_abreast = record {
      lasting = S.lasting;
      line = rw pass_queue at S.line;
      same_open = rw (note_shut G.size g.instrs p ahead shut) at S.same_open;
      long = S.long;
      table = S.table;
      contained = S.contained;
      jumps = S.jumps;
      visits = S.visits;
    }

  -- a repeat
  module _ (T : ByTraced G) (h : p < G.size) (c : contains_instr g p ≡ true) where
    in_graph : IsTraced (get_or g.instrs p 0)
    in_graph = (traced_test (get_or g.instrs p 0)).0 c

    pub again_shut : Open G.size g.instrs p → ⊥
    again_shut = marked_shut G.size g.instrs p (live_ne (inr in_graph))

    pub again_traced : TracedIn G m p
    again_traced = (h, (S.contained p h).0 in_graph)

    same : Onward G m p m
    same = record {
      itself = again_traced;
      others = λ a ne. (λ t. t, λ t. t);
      same = λ a ne t. refl;
      now = λ q i. targets_lasting G m p q S.lasting h again_traced.1 i;
      before = λ q t i. i;
      had = λ q i. inr (again_traced, i);
    }

    abbrev instrs' : List ℕ
    instrs' = set g.instrs p traced

    open_alike : SameOpen G.size g.instrs instrs'
    open_alike q = (
      λ o. open_set G.size g.instrs p traced q (λ e. again_shut (subst (λ (y : ℕ). Open G.size g.instrs y) e o)) o,
      λ o. (set_open G.size g.instrs p traced q (λ z. omega arith) (omega (arith, S.long)) o).1,
    )

    pub again_alike : (ts : List ℕ) → NotedAlike G.size ts g.instrs instrs'
    again_alike ts = noted_alike G.size ts g.instrs instrs' (omega (arith, S.long)) (omega (arith, S.long, length-set g.instrs p traced)) open_alike

    marks_alike : SameOpen G.size m (note G.size ahead instrs')
    marks_alike q =
        let s = (pass_abreast again_shut).same_open q in
        let a = (again_alike ahead).open_same q in
        (λ o. a.0 (s.0 o), λ o. s.1 (a.1 o))

    -- the key: nothing that it pushes is open
    repeats : (t : ℕ) → Among t (pushed G g p) → Open G.size (note G.size ahead instrs') t → ⊥
    unfolding pushed
    repeats t i o =
        let j = (uncontained_among (visited G g p) (targets_by G g p) t i).0 in
        let k : Among t (targets G m p) = rw (targets_same G T seen (p ∷ ahead) g m S p h) at j in
        S.lasting.shut p t h again_traced.1 (targets_lasting G m p t S.lasting h again_traced.1 k) ((marks_alike t).1 o)

    note_again : note G.size (ahead ++ pushed G g p) instrs' ≡ note G.size ahead instrs'
    note_again =
        note_append G.size ahead (pushed G g p) instrs' ∙ note_all_shut G.size (pushed G g p) (note G.size ahead instrs') repeats

    fresh_again : fresh G.size (ahead ++ pushed G g p) instrs' ≡ fresh G.size ahead instrs'
    fresh_again =
        fresh_append G.size ahead (pushed G g p) instrs'
        ∙ ap (λ (l : List ℕ). fresh G.size ahead instrs' ++ l) (fresh_all_shut G.size (pushed G g p) (note G.size ahead instrs') repeats)
        ∙ append-nil (fresh G.size ahead instrs')

    pub again_queue : fresh G.size (p ∷ ahead) g.instrs ≡ fresh G.size (ahead ++ pushed G g p) (visited G g p).instrs
    unfolding visited
    again_queue = pass_queue again_shut ∙ (again_alike ahead).fresh_same ∙ sym fresh_again

    open_again : SameOpen G.size m (note G.size (ahead ++ pushed G g p) (visited G g p).instrs)
    unfolding visited
    open_again = rw note_again marks_alike

    pub again_abreast : Abreast G seen (ahead ++ pushed G g p) (visited G g p) m
    again_abreast = record {
      lasting = S.lasting;
      line = rw again_queue at S.line;
      same_open = open_again;
      long = visited_long G T seen (p ∷ ahead) g m m S p same;
      table = visited_table G T seen (p ∷ ahead) g m m S p same;
      contained = visited_contained G T seen (p ∷ ahead) g m m S p same;
      jumps = visited_jumps G T seen (p ∷ ahead) g m m S p same;
      visits = S.visits;
    }
