-- One byte more: it ends an image, is skipped, or is held.
-- Assumes nothing.
use Rattle.std.proofs.Common.{◌≡◌, ℕ, ◌-◌, ◌≤◌, ◌<◌, get_or, eqb, length, arith, refl, sym, subst, ◌∙◌, ◌⊎◌, inl, inr, false}
use borrow.Author.Tests.{eq-eqb, ne_eqb}
use Rattle.instruction.proofs.Sign.{never}
use Rattle.report_text.specs.Going.{going, Gone}
use Rattle.report_text.proofs.Gathers.{gone_more, gone_ended, byte_ends, byte_skipped, byte_held, not_both, pushed_as}
use Rattle.report_text.proofs.gather.gather_bytes.Goals as goal
use Rattle.report_text.proofs.gather.gather_bytes.Goals.{then-fresh+then-b-eq-LINE_END+else-held-ne0, else-fresh, else-fresh-via-then-fresh+else-b-eq-LINE_END, else-fresh-via-else-fresh}

pub returns-then-held-ne0 : goal.returns-then-held-ne0
returns-then-held-ne0 c =
    let l = c.loop-at in
    let b : ℕ = get_or c.args.text.now l.at 0 in
    let i : l.at < length c.args.text.now = omega (arith, c.loop-at-test.true, c.requires.0) in
    record {
      inside = omega arith;
      whole = λ f. absurd (never f);
      ended = λ f s.
          gone_ended (l.invariant.1 s) i c.if-b-eq-LINE_END.true
          (byte_ends s l.held l.fresh l.room b c.if-fresh.true (eq-eqb b 10 c.if-b-eq-LINE_END.true) c.if-held-ne0.true);
    }

pub loop-at-preserved : goal.loop-at-preserved
loop-at-preserved c =
    let l = c.loop-at in
    let b : ℕ = get_or c.args.text.now l.at 0 in
    let i : l.at < length c.args.text.now = omega (arith, c.loop-at-test.true, c.requires.0) in
    elim c.if-fresh.branch [
      | then-fresh+then-b-eq-LINE_END+else-held-ne0 w ↦
          rw (w.room-is, w.held-is, w.fresh-is) (
            l.invariant.0,
            λ s.
                let p = byte_skipped s l.held l.fresh l.room b w.if-fresh.true (eq-eqb b 10 w.if-b-eq-LINE_END.true) w.if-held-ne0.false in
                gone_more (l.invariant.1 s) i _ p.0 p.1,
          )
      | else-fresh w ↦
          rw (w.room-is, w.held-is, w.fresh-is) (
            w.push-held.auto.room ∙ l.invariant.0,
            λ s.
                let n : (l.fresh ≡ false) ⊎ (eqb b 10 ≡ false) =
                elim w.else-fresh.branch [
                  | else-fresh-via-then-fresh+else-b-eq-LINE_END x ↦ inr (ne_eqb b 10 x.if-b-eq-LINE_END.false)
                  | else-fresh-via-else-fresh x ↦ inl x.if-fresh.false
                ]
                in
                let q = byte_held s l.held l.fresh l.room b (not_both l.fresh (eqb b 10) n) in
                gone_more (l.invariant.1 s) i _
                (q.0 ∙ pushed_as s l.held l.fresh l.room b _ _ w.push-held.ensures.value w.push-held.ensures.room_after) q.1,
          )
    ]

pub returns : goal.returns
returns c =
    let l = c.loop-at in
    let e : l.at ≡ c.args.m = omega (arith, c.loop-at-test.false, l.auto.at-end) in
    record {
      inside = let h = c.requires.0 in omega arith;
      whole = λ f. (
        refl,
        λ s.
            subst (λ (k : ℕ). Gone (going s c.args.held c.args.fresh c.args.room.now) c.args.text.now (going s l.held l.fresh l.room) k) e (l.invariant.1 s),
      );
      ended = λ f. absurd (never (sym f));
    }
