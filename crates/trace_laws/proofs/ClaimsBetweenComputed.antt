-- Images with B8 0D 21, computed.
-- Assumes nothing.
use Prim.Native.Nat.{ℕ}
use native.Mathlib.Omega.{arith}
use mathlib.Core.List.Memᴰ
use mathlib.Core.List.{[], ◌∷◌}
use mathlib.Core.Logic.{⊎_elim}
use mathlib.Core.Path.{◌≡◌, refl}
use Rattle.instruction.specs.Answer.{judge}
use Rattle.instruction.specs.Decode.{cut_at, decode_answer, fields_in}
use Rattle.instruction.specs.Forms.{forms, form_at, form_of, form_named}
use Rattle.instruction.specs.Kinds.{kinds_of}
use Rattle.instruction.specs.Parts.{parts_of, made_of}
use Rattle.instruction.specs.Pattern.{pattern, pattern_bytes, onto, bits_given, next_bracket}
use Rattle.instruction.specs.Flow.{stops, jumps, branches, flow_of}
use Rattle.targets.specs.At.{fits_here, instr_here, ways_here, flash_here}
use Rattle.targets.specs.Targets.{address_of, address_in, targets_in}
use Rattle.reach.specs.Mark.{traced_mark, cleared, count}
use Rattle.reach.specs.Note.{is_open, note, fresh}
use Rattle.reach.specs.Pins.{pin}
use Rattle.reach.specs.Reach.{entry, target}
use Rattle.reach.specs.Run.{run_from, run_of}
use Rattle.reach.specs.Sweep.{can_take, swept_at, sweep_from, sweep_taken_from, sweep_once, sweep_taken}
use Rattle.reach.specs.Sweep.{sweep_marks, sweep_count, swept_marks, sweeps, swept_steps}
use Rattle.reach.specs.Tracer.{targets, mark, took, found}
use Rattle.marks.specs.Tracer.{exempt_here}
use Rattle.trace.specs.Run.{outcome_of, run_answer, run_marks}
use Rattle.trace.specs.Start.{start_answer, start_marks}
use Rattle.trace.specs.Step.{damages, damage_refusals, step_refusals, step_answer, step_marks}
use Rattle.sweep.specs.Sweep.{sweep_answer, sweep_leaves}
use Rattle.trace_laws.specs.ClaimsBetweenSamples as claims
use Rattle.trace_laws.specs.ClaimsImages.{stay, further}
use Rattle.trace_laws.proofs.SampleSets.{only_two, zero_or_two, agree_six}
use Rattle.trace_laws.proofs.SampleEnds.{still_five, still_none}

pub between_samples : claims.BetweenSamples
unfolding fits_here instr_here ways_here flash_here fields_in form_at form_of form_named forms kinds_of parts_of made_of pattern pattern_bytes onto bits_given next_bracket
    targets_in address_in address_of flow_of stops jumps branches exempt_here took found targets mark note fresh is_open traced_mark cleared pin judge
    cut_at decode_answer run_answer run_marks outcome_of run_of run_from damages damage_refusals step_refusals step_answer step_marks start_answer start_marks
    sweep_answer sweep_leaves swept_marks sweeps swept_steps sweep_marks sweep_count sweep_once sweep_taken sweep_from sweep_taken_from swept_at can_take count
between_samples = (
  record {
    finished = refl;
    marks = refl;
    larger = target (entry (Memᴰ.head refl) (record { inside = omega arith; clear = refl })) refl (Memᴰ.head refl)
        (record { inside = omega arith; clear = refl });
    smaller = λ r. let z : ◌≡◌ {A = ℕ} 0 2 = only_two r in omega arith;
  },
  record {
    zero_first = refl;
    zero_marks = refl;
    two_first = refl;
    two_marks = refl;
    swept = refl;
    swept_marks_lem = refl;
    differ = λ a.
        ⊎_elim (λ e. let z : ◌≡◌ {A = ℕ} 4 0 = e in omega arith) (λ e. let z : ◌≡◌ {A = ℕ} 4 2 = e in omega arith)
        (zero_or_two (a 4 refl (target (entry (Memᴰ.tail (Memᴰ.head refl)) (record { inside = omega arith; clear = refl })) refl (Memᴰ.head refl)
        (record { inside = omega arith; clear = refl }))));
  },
  record {
    agree = agree_six;
    two_first = record { count = 2; started = refl; order = 2 ∷ 0 ∷ []; steps = further refl (further refl stay); still = still_five };
    zero_first = record { count = 2; started = refl; order = 0 ∷ 2 ∷ []; steps = further refl (further refl stay); still = still_none };
  },
)
