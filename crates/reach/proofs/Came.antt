-- How a run's loop ends: what it leaves is what the run comes to. Assumes nothing.
use Prim.Native.Nat.{ℕ, suc, ◌+◌, ◌-◌, ◌<◌, ◌≤◌}
use native.Mathlib.Omega.{arith}
use mathlib.Core.Bool.{false}
use mathlib.Core.Path.{◌≡◌, refl, sym, ap, ◌∙◌}
use mathlib.Core.List.{List, [], ◌∷◌, ◌++◌, append-nil}
use lib.ListN.{length, get_or, take, drop, drop_of_length-le, take-append-drop}
use lib.Seq.{sets, length-take-le, take-take}
use Rattle.reach.specs.Tracer.{Tracer}
use Rattle.reach.specs.Takes.{Base}
use Rattle.reach.specs.Run.{End, finished, stopped, cut_off, Outcome, steps, noted, ordered, halt, run_from, run_of}
use Rattle.reach.specs.Queue.{Noted}
use Rattle.reach.proofs.RunLaws.{after, run_finished, run_stopped, run_cut}
use Rattle.reach.proofs.Sets.{drop_later, sets_front}
use Rattle.reach.proofs.Noted.{noted_long}
use Rattle.reach.proofs.Stand.{Stand, stand_tail, stand_queue}
use Rattle.reach.proofs.Begin.{marks_fit, order_fits, begin_rest, begin_run}

-- what code answers and leaves is what the run came to
pub record Came (lent : List ℕ) (out : Outcome) (e : End) (m o : List ℕ) (tail head : ℕ) : Type 0 where
  pub end_is : e ≡ out.end
  pub steps_are : head ≡ steps out
  pub noted_are : tail ≡ length (noted out)
  pub marks_are : m ≡ out.marks
  pub order_is : o ≡ ordered out lent

module _ {limit : ℕ} {G : Tracer} {entries base lent m₀ o₀ : List ℕ} {tail₀ : ℕ} {m o : List ℕ} {tail head : ℕ} (B : Base G base)
    (room : G.size ≤ length lent) (N : Noted G.size entries base lent 0 m₀ o₀ tail₀) (S : Stand G limit m₀ o₀ tail₀ m o tail head) where
  abbrev queue : List ℕ
  queue = drop head (take tail o)

  under : tail ≤ length o
  under = omega (arith, stand_tail (marks_fit B room N) (order_fits B room N) S, S.order_long, order_fits B room N)

  all_noted : take head o ++ queue ≡ take tail o
  all_noted = ap (λ (x : List ℕ). x ++ queue) (sym (take-take head tail o S.in_tail)) ∙ take-append-drop head (take tail o)

  same_order : sets lent 0 (take tail o) ≡ o
  same_order =
      let e = noted_long N in
      sets_front o lent tail under (S.order_long ∙ e.1) (S.rest ∙ drop_later o₀ lent tail₀ tail S.begun (begin_rest B room N))

  next : head < tail → queue ≡ get_or o head 0 ∷ drop (suc head) (take tail o)
  next = stand_queue (marks_fit B room N) (order_fits B room N) S

  -- it ends here, and how
  came : (e : End) → run_from (limit - head) G queue m ≡ halt e queue m → Came lent (run_of limit G entries base) e m o tail head
  came e h =
      let out-is : run_of limit G entries base ≡ record { end = e; taken = take head o; left = queue; marks = m } =
      begin_run B room N limit ∙ sym S.left ∙ ap (after (take head o)) h
      ∙ ap (λ (l : List ℕ). record { end = e; taken = l; left = queue; marks = m }) (append-nil (take head o)) in
      rw out-is (record {
        end_is = refl;
        steps_are = sym (length-take-le head o (omega (arith, S.in_tail, under)));
        noted_are = sym (ap length all_noted ∙ length-take-le tail o under);
        marks_are = refl;
        order_is = sym (ap (sets lent 0) all_noted ∙ same_order);
      })

  pub came_finished : tail ≤ head → Came lent (run_of limit G entries base) finished m o tail head
  came_finished h =
      let e : queue ≡ [] = drop_of_length-le (take tail o) {i = head} (omega (arith, length-take-le tail o under)) in
      came finished (rw e (run_finished G (limit - head) m))

  pub came_stopped : head < tail → limit ≤ head → Came lent (run_of limit G entries base) stopped m o tail head
  came_stopped h k =
      let e : limit - head ≡ 0 = omega arith in
      came stopped (rw (e, next h) (run_stopped G (get_or o head 0) (drop (suc head) (take tail o)) m))

  pub came_cut : head < tail → head < limit → G.fits (get_or o head 0) ≡ false
      → Came lent (run_of limit G entries base) (cut_off (get_or o head 0)) m o tail head
  came_cut h k f =
      let e : limit - head ≡ suc (limit - (head + 1)) = omega arith in
      came (cut_off (get_or o head 0))
      (rw (e, next h) (run_cut G (get_or o head 0) (drop (suc head) (take tail o)) m (limit - (head + 1)) f))
