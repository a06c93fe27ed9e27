-- Rounds where the run has nothing left: the first pushes nothing inside the image, and the next pushes nothing. Assumes nothing.
use Prim.Native.Nat.{ℕ, suc, ◌+◌, ◌<◌, ◌≤◌}
use native.Mathlib.Omega.{arith}
use mathlib.Core.Bool.{true, false}
use mathlib.Core.Path.{◌≡◌, refl, sym, ap, ◌∙◌}
use mathlib.Core.Logic.{◌⊎◌, inl, inr, ⊎_elim, ◌≢◌}
use mathlib.Core.List.{List, [], ◌∷◌, ◌++◌, append_assoc, append-nil, Memᴰ as Among}
use mathlib.Core.List.Memᴰ
use lib.ListN.{length, get_or}
use Rattle.reach.specs.Mark.{untouched, traced}
use Rattle.reach.specs.Note.{fresh}
use Rattle.reach.specs.Run.{End, finished, stopped, cut_off}
use Rattle.reach.specs.Tracer.{Tracer}
use Rattle.reach.specs.ClaimsWorklist.{ByTraced}
use Rattle.reach.specs.Worklist.{Graph, Built, contains_instr, targets_by, visited, pushed, round, rounds}
use Rattle.reach.proofs.Cases.{lt_or_le, yes_or_no, not_both}
use Rattle.reach.proofs.Fresh.{among_open_fresh}
use Rattle.reach.proofs.Mark.{traced_test}
use Rattle.reach.proofs.Uncontained.{uncontained_among}
use Rattle.reach.proofs.Open.{outside_shut}
use Rattle.reach.proofs.Abreast.{Abreast}
use Rattle.reach.proofs.VisitAgain.{pass_queue, pass_abreast, again_traced, again_queue, again_abreast}
use Rattle.reach.proofs.VisitFirst.{first_queue}
use Rattle.reach.proofs.WorklistLaws.{round_over, round_pass, round_visit, rounds_over, rounds_on}

-- it comes to an end
abbrev pub Ends : Built → Type 0
Ends b = b.end ≢ stopped

-- all lie outside the image
abbrev Outside : Tracer → List ℕ → Type 0
Outside G ps = (q : ℕ) → Among q ps → G.size ≤ q

outside_round : (G : Tracer) (locs : List ℕ) (g : Graph) (next : List ℕ → Graph → Built) → Outside G locs → round G locs [] g next ≡ next [] g
outside_round G [] g next out = round_over G [] g next
outside_round G (p ∷ locs) g next out =
    round_pass G [] g next p locs (out p (Among.head refl)) ∙ outside_round G locs g next (λ q i. out q (Among.tail i))

-- an end that is none by rounds
pub finishes : {e : End} → e ≡ finished → e ≢ stopped
finishes {e} f s = let z : ◌≡◌ {A = ℕ} 0 1 = cc in omega arith

pub cuts : {e : End} {p : ℕ} → e ≡ cut_off p → e ≢ stopped
cuts {e} f s = let z : ◌≡◌ {A = ℕ} 0 1 = cc in omega arith

outside_ends : (most : ℕ) (G : Tracer) (positions : List ℕ) (g : Graph) → Outside G positions → Ends (rounds (suc most) G positions g)
outside_ends most G [] g out = finishes (ap (λ (b : Built). b.end) (rounds_over G g (suc most)))
outside_ends most G (p ∷ positions) g out =
    finishes
    (ap (λ (b : Built). b.end) (rounds_on G g p positions most ∙ outside_round G (p ∷ positions) g (rounds most G) out ∙ rounds_over G g most))

module _ (G : Tracer) (T : ByTraced G) where
  -- a repeat pushes nothing inside
  pushes_outside : (seen : List ℕ) (p : ℕ) (ahead : List ℕ) (g : Graph) (m : List ℕ) (S : Abreast G seen (p ∷ ahead) g m) → p < G.size
      → contains_instr g p ≡ true → fresh G.size (p ∷ ahead) g.instrs ≡ [] → Outside G (pushed G g p)
  unfolding pushed
  pushes_outside seen p ahead g m S h c e t i = by (lt_or_le t G.size)
    where
      S' : Abreast G seen (ahead ++ pushed G g p) (visited G g p) m
      S' = again_abreast G seen p ahead g m S T h c

      clear : (get_or (visited G g p).instrs t 0 ≡ untouched) ⊎ (get_or (visited G g p).instrs t 0 ≡ traced)
          → get_or (visited G g p).instrs t 0 ≡ untouched
      clear (inl z) = z
      clear (inr z) = absurd (not_both ((traced_test _).1 (inl z)) (uncontained_among (visited G g p) (targets_by G g p) t i).1)

      by : (t < G.size) ⊎ (G.size ≤ t) → G.size ≤ t
      by (inr k) = k
      by (inl k) =
          let j = among_open_fresh G.size (ahead ++ pushed G g p) (visited G g p).instrs t (Memᴰ.append_right ahead i)
          (record { inside = k; clear = clear (S'.table t) }) in
          absurd (Memᴰ.not-nil (rw (sym (again_queue G seen p ahead g m S T h c) ∙ e) at j))

  idle_round : (next : List ℕ → Graph → Built) → ((positions : List ℕ) (g : Graph) → Outside G positions → Ends (next positions g))
      → (locs positions : List ℕ) (g : Graph) (seen m : List ℕ) → Abreast G seen (locs ++ positions) g m
      → fresh G.size (locs ++ positions) g.instrs ≡ [] → Outside G positions → Ends (round G locs positions g next)
  idle_round next N [] positions g seen m S e out = rw (round_over G positions g next) (N positions g out)
  idle_round next N (p ∷ locs) positions g seen m S e out =
      by (lt_or_le p G.size) (yes_or_no (contains_instr g p)) (idle_round next N locs positions g seen m)
      (idle_round next N locs (positions ++ pushed G g p) (visited G g p) seen m)
    where
      by : (p < G.size) ⊎ (G.size ≤ p) → (contains_instr g p ≡ true) ⊎ (contains_instr g p ≡ false)
          → (Abreast G seen (locs ++ positions) g m → fresh G.size (locs ++ positions) g.instrs ≡ [] → Outside G positions
          → Ends (round G locs positions g next))
          → (Abreast G seen (locs ++ (positions ++ pushed G g p)) (visited G g p) m
          → fresh G.size (locs ++ (positions ++ pushed G g p)) (visited G g p).instrs ≡ [] → Outside G (positions ++ pushed G g p)
          → Ends (round G locs (positions ++ pushed G g p) (visited G g p) next))
          → Ends (round G (p ∷ locs) positions g next)
      by (inr h) c on push =
          let shut = outside_shut G.size g.instrs p h in
          rw (round_pass G positions g next p locs h)
          (on (pass_abreast G seen p (locs ++ positions) g m S shut) (sym (pass_queue G seen p (locs ++ positions) g m S shut) ∙ e) out)
      by (inl h) (inr c) on push =
          let x = sym (first_queue G T seen p (locs ++ positions) g m S h c) ∙ e in
          absurd (omega (arith, ap length x))
      by (inl h) (inl c) on push =
          let a = append_assoc locs positions (pushed G g p) in
          let f = S.lasting.whole p h (again_traced G seen p (locs ++ positions) g m S T h c).1 in
          rw (round_visit G positions g next p locs h f)
          (push (rw a at (again_abreast G seen p (locs ++ positions) g m S T h c))
          (rw a at (sym (again_queue G seen p (locs ++ positions) g m S T h c) ∙ e))
          (λ q i. ⊎_elim (λ j. out q j) (λ j. pushes_outside seen p (locs ++ positions) g m S h c e q j) (Memᴰ.append_cases positions i)))

  pub idle_ends : (most : ℕ) (positions : List ℕ) (g : Graph) (seen m : List ℕ) → Abreast G seen positions g m
      → fresh G.size positions g.instrs ≡ [] → Ends (rounds (suc (suc most)) G positions g)
  idle_ends most [] g seen m S e = finishes (ap (λ (b : Built). b.end) (rounds_over G g (suc (suc most))))
  idle_ends most (p ∷ positions) g seen m S e =
      let n = append-nil (p ∷ positions) in
      rw (rounds_on G g p positions (suc most))
      (idle_round (rounds (suc most) G) (outside_ends most G) (p ∷ positions) [] g seen m (rw n S) (rw n e) (λ q i. absurd (Memᴰ.not-nil i)))
