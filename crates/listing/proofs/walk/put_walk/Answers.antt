-- A step at each stop.
-- Assumes nothing.
use Rattle.std.proofs.Common.{◌≡◌, ◌+◌, ◌-◌, ◌≤◌, List, ℕ, length, refl, sym, ap, subst, ◌∙◌, arith}
use Rattle.views.specs.Labels.{labels_of}
use Rattle.views.specs.Mask.{mask_of, end_with}
use Rattle.views.specs.Unmasked.{unmasked_run}
use Rattle.views.proofs.Masking.{Masks, masks_start}
use Rattle.views.proofs.TracedAt.{by_mark}
use Rattle.views.proofs.Unmasking.{run_here, traced_masked, masks_over}
use Rattle.text.proofs.Putting.{going_from, going_next, going_over, puts_length}
use Rattle.listing.specs.Lent.{has_index}
use Rattle.listing.specs.Walk.{passed}
use Rattle.listing.proofs.Walking.{left_text, left_next, left_end, step_run, step_fits}
use Rattle.listing.proofs.walk.put_walk.Goals as goal

pub loop-p-init : goal.loop-p-init
loop-p-init c =
    let s = c.args.lent.now in (
      omega arith,
      omega arith,
      refl,
      masks_start s.image.now s.marks.now,
      going_from c.args.out.now 0 (left_text s.mode s.image.now s.marks.now (has_index s.table)),
    )

pub put_at-at-requires : goal.put_at-at-requires
put_at-at-requires c =
    let s = c.args.lent.now in
    let p = c.loop-p.p in
    let v = c.loop-p.invariant in (
      omega (arith, v.1, c.loop-p-test.true, s.small.1),
      c.loop-p-test.true,
      c.unmasked_run-run.ensures ∙ ap (unmasked_run s.image.now s.marks.now p) c.end_with-end.ensures
          ∙ run_here s.image.now s.marks.now s.small.0 p c.loop-p.end c.loop-p-test.true v.3,
    )

pub loop-p-preserved : goal.loop-p-preserved
loop-p-preserved c =
    let s = c.args.lent.now in
    let image = s.image.now in
    let marks = s.marks.now in
    let mask = mask_of image marks in
    let p = c.loop-p.p in
    let h = c.loop-p-test.true in
    let v = c.loop-p.invariant in
    let u = c.unmasked_run-run.ensures ∙ ap (unmasked_run image marks p) c.end_with-end.ensures in
    let r = u ∙ run_here image marks s.small.0 p c.loop-p.end h v.3 in
    let e : c.step_by-p.result ≡ 1 + passed image marks mask p = c.step_by-p.ensures
    ∙ step_run image marks p (λ t. traced_masked image marks s.small.0 p c.loop-p.end h v.3 (sym (by_mark image marks p h) ∙ t)) _ r in
    let z : c.step_by-p.result ≡ 1 + (length (unmasked_run image marks p (end_with image marks p c.loop-p.end)) - 1) =
    c.step_by-p.ensures ∙ ap (λ (l : List ℕ). 1 + (length l - 1)) u in
    let M = masks_over image marks s.small.0 p c.loop-p.end h v.3 in (
      omega (arith, e, step_fits image marks mask p h),
      omega (arith, c.put_at-at.ensures.upper_bound, v.1, e),
      puts_length c.put_at-at.ensures.puts ∙ v.2,
      subst (λ (x : ℕ). Masks image marks (p + c.step_by-p.result) x) (sym c.end_with-end.ensures)
          (subst (λ (x : ℕ). Masks image marks (p + x) (end_with image marks p c.loop-p.end)) (sym z) M),
      going_next v.4 (left_next s.mode image marks mask (labels_of s.mode image marks) (has_index s.table) p c.step_by-p.result h e) c.put_at-at.ensures.puts,
    )

pub returns : goal.returns
returns c =
    let s = c.args.lent.now in
    going_over c.loop-p.invariant.4 (left_end s.mode s.image.now s.marks.now (mask_of s.image.now s.marks.now) (labels_of s.mode s.image.now s.marks.now)
    (has_index s.table) c.loop-p.p c.loop-p-test.false)
