-- One `I` line by itself: what decode refuses, next past 65,536, or the line in its room.
-- Assumes nothing.
use mathlib.Core.Path.{◌≡◌, refl, sym, ap, ◌∙◌}
use mathlib.Core.List.{List, [], ◌∷◌}
use Prim.Native.Nat.{ℕ, ◌+◌, ◌<◌, ◌≤◌, ◌^◌}
use native.Mathlib.Omega.{arith}
use lib.IntN.{ℤ, pos}
use lib.ListN.{length}
use borrow.Author.Tests.{lt-ltb, le-ltb}
use Rattle.instruction.specs.Answer.{Answer, accepted, refused, refuse, after, laid}
use Rattle.instruction.specs.Bytes.{Bytes}
use Rattle.instruction.specs.CutOff.{cut_values}
use Rattle.instruction.specs.Decode.{decode_refused, decode_answer}
use Rattle.instruction.specs.declared.decode.DecodeError.{DecodeError}
use Rattle.instruction.specs.declared.decode.DecodeError.TheVariants.{Nothing, Cut}
use Rattle.instruction.specs.Encode.{form_in}
use Rattle.instruction.specs.Forms.{size_of}
use Rattle.instruction.specs.declared.instr.Instr.{Instr}
use Rattle.instruction.specs.declared.mode.Mode.{Mode}
use Rattle.instruction.proofs.Judging.{accepts, pass, stop}
use Rattle.targets.specs.At.{size_here, instr_here}
use Rattle.targets.proofs.Within.{size_here_lem, size_short}
use Rattle.trace.specs.Run.{and_then}
use Rattle.views.specs.View.{room_answer, room_after}
use Rattle.views.proofs.Rooming as rooming
use Rattle.listing.specs.Lines.{code_line}
use Rattle.listing.proofs.Widths.{alone_width}
use Rattle.c_answers.specs.CodeLine.{next_refusals, code_line_answer, code_line_room}
use Rattle.c_answers.proofs.Fitting.{Holds, Any, Short, this, fewer, judged, begun}
use Rattle.c_answers.proofs.Shown.{room_fits}

-- the size of what was decoded is that of the form that the first byte has
decoded_size : (bytes : List ℕ) → Bytes bytes → (i : Instr) → accepted i ≡ decode_answer bytes → size_of (form_in i) ≡ size_here bytes 0
unfolding decode_answer instr_here
decoded_size bytes b i e = ap (λ (j : Instr). size_of (form_in j)) (sym (accepts _ _ i (sym e))) ∙ size_here_lem bytes 0 b

-- which is 1 to 3
pub next_size : (bytes : List ℕ) → Bytes bytes → (i : Instr) → accepted i ≡ decode_answer bytes → (n : ℕ) → n ≡ size_of (form_in i)
    → (n ≡ size_here bytes 0) × (n < 4)
next_size bytes b i e n f =
    let g = f ∙ decoded_size bytes b i e in (g, omega (arith, g, (size_short bytes 0 b).1))

module _ (mode : Mode) (p : ℕ) (bytes room : List ℕ) where
  abbrev Is : Answer ℕ → List ℕ → Type 0
  Is r t = (r ≡ code_line_answer mode p bytes room) × (t ≡ code_line_room mode p bytes room)

  abbrev out : List ℕ
  out = code_line mode p bytes

  -- where the answer is r, the room is what r leaves
  held : (r : Answer ℕ) → code_line_answer mode p bytes room ≡ r → (t : List ℕ) → after r (laid out room) room ≡ t → Is r t
  unfolding code_line_room
  held r e t f = (sym e, rw e (sym f))

  undecoded : (n : ℕ) (vs : List ℤ) → refused n vs ≡ decode_answer bytes → Is (refused n vs) room
  unfolding code_line_answer
  undecoded n vs e =
      held (refused n vs) (ap (λ (d : Answer Instr). and_then d (room_answer (next_refusals p bytes) out room)) (sym e)) room refl

  pub undecoded_by : (d : DecodeError) → decode_refused d ≡ decode_answer bytes → Is (decode_refused d) room
  undecoded_by Nothing e = undecoded 12 (pos 0 ∷ []) e
  undecoded_by (Cut c) e = undecoded 5 (cut_values c) e

  module _ (i : Instr) (e : accepted i ≡ decode_answer bytes) where
    decoded : code_line_answer mode p bytes room ≡ room_answer (next_refusals p bytes) out room
    unfolding code_line_answer
    decoded = ap (λ (d : Answer Instr). and_then d (room_answer (next_refusals p bytes) out room)) (sym e)

    pub past : (n : ℕ) → n ≡ p + size_here bytes 0 → 65536 < n → Is (refused 14 (pos n ∷ [])) room
    unfolding room_answer
    past n f h =
        held (refused 14 (pos n ∷ []))
        (decoded ∙ rw (← f) (stop (refuse _ 14 (pos n ∷ [])) _ (length out) (lt-ltb 65536 n h))) room refl

    pub within : (n : ℕ) → n ≡ p + size_here bytes 0 → n ≤ 65536 → (r : Answer ℕ) (t : List ℕ) → rooming.Is [] out room r t → Is r t
    unfolding room_answer room_after
    within n f h r t s =
        held r
        (decoded ∙ rw (← f) (pass (refuse _ 14 (pos n ∷ [])) _ (length out) (le-ltb 65536 n h)) ∙ sym s.0) t
        (rw s.0 (sym s.1))

  -- its values fit a value of a reply
  pub line_fits : Bytes bytes → p < 2 ^ 32 → Holds Short (code_line_answer mode p bytes room)
  unfolding code_line_answer decode_answer
  line_fits b h =
      let next : p + size_here bytes 0 < 2 ^ 63 = omega (arith, (size_short bytes 0 b).1) in
      begun Short (decode_answer bytes) _ (judged Any _ _ (this 12 (omega arith), (fewer, tt)) (λ e. tt))
      (room_fits (next_refusals p bytes) (this 14 next, tt) out room (omega (arith, alone_width mode bytes [] b p)))
