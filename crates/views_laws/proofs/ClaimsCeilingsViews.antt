-- Ceilings on the views: each is counted by the traced positions, of which none sets more.
-- Assumes nothing.
use Prim.Native.Nat.{ℕ, ◌<◌, ◌≤◌}
use native.Mathlib.Omega.{arith}
use mathlib.Core.Bool.{true}
use mathlib.Core.Logic.{◌⊎◌, inl, inr}
use mathlib.Core.Path.{◌≡◌, ap}
use lib.Dec.{eqb}
use lib.ListN.{length, get_or}
use Rattle.targets.proofs.Within.{size_short}
use Rattle.reach.specs.HowMany.{how_many}
use Rattle.reach.specs.Mark.{traced_mark}
use Rattle.reach.proofs.Cases.{lt_or_le}
use Rattle.reach.proofs.Count.{one}
use Rattle.reach.proofs.Mark.{traced_test}
use Rattle.trace.specs.Run.{run_marks}
use Rattle.trace_laws.proofs.ClaimsCeilingsRun.{run_small, run_long, run_tied}
use Rattle.views.specs.Labels.{named_from, names, labelled, labels_of}
use Rattle.views.specs.Mask.{covers, masked, mask_of}
use Rattle.views_laws.specs.ClaimsCeilingsViews.{MaskCeiling, MaskFull, LabelsCeiling, LabelsFull, RunViewCeilings}
use Rattle.views_laws.proofs.Crossing.{crossing, crossing_full, set_many}
use Rattle.views_laws.proofs.SetByOne.{none_at, traced_many, masks_few, covers_under, names_few}

pub mask_ceiling : MaskCeiling
unfolding mask_of masked
mask_ceiling image m B l =
    let n = length image in
    let a = set_many (masked image m) n 0 in
    let b = crossing (covers image m) (λ (q : ℕ). traced_mark (get_or m q 0)) 3 n 0 (masks_few image m B) n 0 in
    omega (arith, a, b, traced_many image m l)

pub labels_ceiling : LabelsCeiling
unfolding labels_of labelled
labels_ceiling mode image m s l =
    let n = length image in
    let a = set_many (labelled mode image m) n 0 in
    let b = crossing (names mode image m) (λ (q : ℕ). traced_mark (get_or m q 0)) 1 n 0 (names_few image m mode s) n 0 in
    omega (arith, a, b, traced_many image m l)

-- where as much is set as can be
pub mask_full : MaskFull
unfolding mask_of masked
mask_full image m B l e q h t =
    let n = length image in
    let f = crossing_full (covers image m) (λ (x : ℕ). traced_mark (get_or m x 0)) 3 n 0 (masks_few image m B) n 0
    (omega (arith, e, set_many (masked image m) n 0, traced_many image m l)) q (omega arith) (omega arith) in
    let u : traced_mark (get_or m q 0) ≡ true = (traced_test (get_or m q 0)).1 t in
    let x : one (traced_mark (get_or m q 0)) ≡ 1 = ap one u in
    let g = covers_under image m q h t in
    omega (arith, f, x, g, (size_short image q B).1)

pub labels_full : LabelsFull
unfolding labels_of labelled
labels_full mode image m s l e q h t =
    let n = length image in
    let f = crossing_full (names mode image m) (λ (x : ℕ). traced_mark (get_or m x 0)) 1 n 0 (names_few image m mode s) n 0
    (omega (arith, e, set_many (labelled mode image m) n 0, traced_many image m l)) q (omega arith) (omega arith) in
    let x : one (traced_mark (get_or m q 0)) ≡ 1 = ap one ((traced_test (get_or m q 0)).1 t) in
    by n (named_from mode image m q) (omega (arith, f, x)) (lt_or_le (named_from mode image m q) n)
  where
    by : (n a : ℕ) → how_many (λ (b : ℕ). eqb a b) n 0 ≡ 1 → (a < n) ⊎ (n ≤ a) → a < n
    by n a e (inl k) = k
    by n a e (inr k) = absurd (omega (arith, e, none_at n a k))

pub run_view_ceilings : RunViewCeilings
run_view_ceilings mode image marks order entries pins limit s B a =
    let m = run_marks mode image marks order entries pins limit in
    let l = run_long mode image marks order entries pins limit s a in
    let e = run_tied mode image marks order entries pins limit s a in
    record {
      mask = omega (arith, mask_ceiling image m B l, e);
      labels = omega (arith, labels_ceiling mode image m (run_small mode image marks order entries pins limit s a) l, e);
    }
