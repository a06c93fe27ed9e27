-- Every order ends between what is reached by the targets followed in any case and what is reached by those that may be. Assumes nothing.
use Prim.Native.Nat.{ℕ, ◌<◌}
use native.Mathlib.Omega.{arith}
use mathlib.Core.Bool.{true, false}
use mathlib.Core.Path.{◌≡◌, sym, subst, ◌∙◌}
use mathlib.Core.Logic.{◌⊎◌, inl, inr, ◌≢◌, ◌↔◌}
use mathlib.Core.List.{List}
use lib.ListN.{get_or}
use Rattle.reach.specs.Mark.{waiting, IsTraced}
use Rattle.reach.specs.Tracer.{Tracer}
use Rattle.reach.specs.Takes.{Ended, Base}
use Rattle.reach.specs.Reach.{Reach, entry, target}
use Rattle.reach.specs.ClaimsBetween.{Between, Beyond, EndsBetween, Agree, SameTraced, SameWaiting}
use Rattle.reach.proofs.Cases.{yes_or_no, not_both}
use Rattle.reach.proofs.Took.{mark_traced}
use Rattle.reach.proofs.Sound.{Why, of_base, waits, done, Sound}
use Rattle.reach.proofs.SoundStep.{reached_sound}
use Rattle.reach.proofs.Arrived.{arrived, traced_why, waiting_why, unreached_why}

-- at the end what is reached by lo is no longer untouched; it is traced if it fits, and else waits
module _ (G : Tracer) (lo hi : ℕ → List ℕ) (base entries m : List ℕ) (B : Base G base) (S : Sound G lo hi base entries m) (E : Ended G m) where
  taken_up : {q : ℕ} → Reach G lo base entries q → get_or m q 0 ≢ 0 → G.fits q ≡ true → Why G hi base entries m q → IsTraced (get_or m q 0)
  taken_up r nz f (of_base e) = absurd (nz (e ∙ (arrived r).clear))
  taken_up {q} r nz f (waits e x) = absurd (E q (record { inside = (arrived r).inside; waits = e; whole = f }))
  taken_up {q} r nz f (done a e x g) = subst IsTraced (sym e) (mark_traced G a q)

  touched_lo : {q : ℕ} → Reach G lo base entries q → get_or m q 0 ≢ 0
  touched_lo (entry {q = q} i o) = S.begun q i o
  touched_lo (target {p = p} {q = q} r f i o) = S.closed p q (arrived r).inside (taken_up r (touched_lo r) f (S.why p)) i o

  left_over : {q : ℕ} → Reach G lo base entries q → G.fits q ≡ false → Why G hi base entries m q → get_or m q 0 ≡ waiting
  left_over r f (of_base e) = absurd (touched_lo r (e ∙ (arrived r).clear))
  left_over r f (waits e x) = e
  left_over r f (done a e x g) = absurd (not_both g f)

  cut : (q : ℕ) → q < G.size → get_or m q 0 ≡ waiting → (G.fits q ≡ true) ⊎ (G.fits q ≡ false) → G.fits q ≡ false
  cut q h w (inl f) = absurd (E q (record { inside = h; waits = w; whole = f }))
  cut q h w (inr f) = f

  between : Between G lo hi base entries m
  between = record {
    traced_all = λ q r f. taken_up r (touched_lo r) f (S.why q);
    traced_only = λ q h t. traced_why G hi base entries m B q h t (S.why q);
    waiting_all = λ q r f. left_over r f (S.why q);
    waiting_only = λ q h w. (waiting_why G hi base entries m B q h w (S.why q), cut q h w (yes_or_no (G.fits q)));
    others = λ q h n. unreached_why G hi base entries m B q n (S.why q);
  }

  beyond : Beyond G.size base m
  beyond = record { stay = λ q h. unreached_why G hi base entries m B q (λ r. omega (arith, (arrived r).inside)) (S.why q); long = S.long }

pub ends_between : EndsBetween
ends_between G lo hi W base entries m B T =
    let S = reached_sound G lo hi base entries W B T.takes in
    (between G lo hi base entries m B S T.ended, beyond G lo hi base entries m B S T.ended)

-- what a mark X means under a condition C: only what Hi says has it, and all that Lo says
pub record Meant (X C Hi Lo : Type 0) : Type 0 where
  pub only : X → Hi × C
  pub all : Lo → C → X

module _ {G : Tracer} {lo hi : ℕ → List ℕ} {base entries m : List ℕ} (b : Between G lo hi base entries m) (q : ℕ) (h : q < G.size) where
  pub traced_meant : Meant (IsTraced (get_or m q 0)) (G.fits q ≡ true) (Reach G hi base entries q) (Reach G lo base entries q)
  traced_meant = record { only = b.traced_only q h; all = b.traced_all q }

  pub waiting_meant : Meant (get_or m q 0 ≡ waiting) (G.fits q ≡ false) (Reach G hi base entries q) (Reach G lo base entries q)
  waiting_meant = record { only = b.waiting_only q h; all = b.waiting_all q }

-- where what Hi says of one mark, Lo says of another, the one gives the other
pub carried : {X Y C Hi Lo Hi' Lo' : Type 0} → Meant X C Hi Lo → (C → Hi → Lo') → Meant Y C Hi' Lo' → X → Y
carried x a y e = let r = x.only e in y.all (a r.1 r.0) r.1

-- so two tables that lie between, where the sets agree, have the same positions traced, and the same waiting
module _ {G : Tracer} {lo hi : ℕ → List ℕ} {base entries m m' : List ℕ}
    (b : Between G lo hi base entries m) (b' : Between G lo hi base entries m') (q : ℕ) (h : q < G.size) where
  pub agreed_traced : Agree G lo hi base entries true → IsTraced (get_or m q 0) ↔ IsTraced (get_or m' q 0)
  agreed_traced a = let x = traced_meant b q h in let y = traced_meant b' q h in (carried x (a q) y, carried y (a q) x)

  pub agreed_waiting : Agree G lo hi base entries false → (get_or m q 0 ≡ waiting) ↔ (get_or m' q 0 ≡ waiting)
  agreed_waiting a = let x = waiting_meant b q h in let y = waiting_meant b' q h in (carried x (a q) y, carried y (a q) x)

pub same_traced : SameTraced
same_traced G lo hi W base entries m m' B a T T' q h =
    agreed_traced (ends_between G lo hi W base entries m B T).0 (ends_between G lo hi W base entries m' B T').0 q h a

pub same_waiting : SameWaiting
same_waiting G lo hi W base entries m m' B a T T' q h =
    agreed_waiting (ends_between G lo hi W base entries m B T).0 (ends_between G lo hi W base entries m' B T').0 q h a
