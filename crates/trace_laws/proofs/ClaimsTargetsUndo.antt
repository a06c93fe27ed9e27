-- resolve and targets undo each other: what resolve makes fits and has the form of what was written, so targets accepts it, and its address
-- is the one that was written.
-- Assumes nothing.
use mathlib.Core.Path.{◌≡◌, ap, sym, ◌∙◌}
use Prim.Native.Nat.{ℕ, ◌+◌, ◌-◌, ◌≤◌}
use native.Mathlib.Omega.{arith}
use lib.IntN.{pos}
use Rattle.instruction.specs.Answer.{accepted}
use Rattle.instruction.specs.Encode.{form_in}
use Rattle.instruction.specs.Flow.{flow_of}
use Rattle.instruction.specs.Forms.{form_at, size_of}
use Rattle.instruction.specs.Parts.{parts_of}
use Rattle.instruction.specs.Resolve.{resolve_answer}
use Rattle.instruction.specs.declared.flow.Flow.{Flow}
use Rattle.instruction.specs.declared.instr.Instr.{Instr}
use Rattle.trace_laws.specs.ClaimsTargets.{last_in, TargetsUndoResolve}
use Rattle.targets.specs.Targets.{next_of, in_mode, by_flow, targets_in, targets_answer}
use Rattle.targets.proofs.AskedAlone.{found}
use Rattle.trace_laws.proofs.ResolvedAddress.{high, address}
use Rattle.instruction_laws.proofs.ResolvedFits.{resolved_fits}
use Rattle.instruction.specs.declared.mode.Mode.{Mode}

module _ (mode : Mode) (i : Instr) (base : ℕ) (j : Instr) (room : size_of (form_in i) ≤ base) (e : resolve_answer mode i base ≡ accepted j) where
  abbrev position : ℕ
  position = base - size_of (form_in i)

  next : next_of position j ≡ base
  next = ap (λ (n : ℕ). position + size_of (form_at n)) (resolved_fits mode i base j e).form ∙ omega arith

  ways : targets_in mode base j ≡ by_flow (flow_of (parts_of i).form) (last_in i) (in_mode mode (pos base))
  unfolding targets_in
  ways = rw ((resolved_fits mode i base j e).form, address mode i base j room e)

  undo : (f : Flow) → flow_of (parts_of i).form ≡ f → targets_answer mode position j ≡ accepted (by_flow f (last_in i) (in_mode mode (pos base)))
  undo f p =
      sym (found mode position j (rw next (high mode i base j room e)) (sym (resolved_fits mode i base j e).fit))
      ∙ ap (λ (n : ℕ). accepted (targets_in mode n j)) next ∙ ap accepted ways
      ∙ ap (λ (g : Flow). accepted (by_flow g (last_in i) (in_mode mode (pos base)))) p

pub targets_undo_resolve : (mode : Mode) → TargetsUndoResolve mode
targets_undo_resolve mode =
    record { jump = λ i base j p room e. undo mode i base j room e _ p; branch = λ i base j p room e. undo mode i base j room e _ p }
