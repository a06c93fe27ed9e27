-- Document 01, 'Both sides of each edge': the starred ones, 1 to 12, in its order; edge 11 with the number of missing bytes that
-- document 02, W2 adds.
-- Assumes nothing.
use Rattle.std.specs.Prelude.{ℕ, List, [], ◌∷◌, ◌≡◌, get_or, replicate, pos, negsuc}
use Rattle.instruction.specs.Answer.{accepted, refused}
use Rattle.instruction.specs.Decode.{decode_answer}
use Rattle.instruction.specs.Encode.{instr_bytes}
use Rattle.instruction.specs.Resolve.{resolve_answer}
use Rattle.targets.specs.Targets.{targets_answer}
use Rattle.trace.specs.Run.{run_marks, run_order}
use Rattle.views.specs.Labels.{labels_of}
use Rattle.instruction.specs.declared.instr.Instr.TheVariants.{Not1, Br, Mov_d9, Call, Jmpf, Brf, Jmp}
use Rattle.instruction.specs.declared.mode.Mode.TheVariants.{Unwrapped}

-- the image of edge 12
abbrev pub flash_call : List ℕ
flash_call = 0xB8 ∷ 0x0D ∷ 0x21 ∷ 0x00 ∷ 0x00 ∷ []

-- five elements that are not looked at
abbrev pub unread : List ℕ
unread = replicate 5 9

-- a run in it from one entry: the marks it leaves, and the order list, which notes positions from its start on
abbrev pub marks_from : ℕ → List ℕ
marks_from entry = run_marks Unwrapped flash_call unread unread (entry ∷ []) [] 5

abbrev pub order_from : ℕ → List ℕ
order_from entry = run_order Unwrapped flash_call unread unread (entry ∷ []) [] 5

abbrev pub Edges : Type 0
Edges =
    (decode_answer (0xB8 ∷ 0x0D ∷ []) ≡ accepted (Not1 (pos 0x10D) (pos 0)))
    × (decode_answer (0x01 ∷ 0x7F ∷ []) ≡ accepted (Br (pos 127)))
    × (decode_answer (0x01 ∷ 0x80 ∷ []) ≡ accepted (Br (negsuc 127)))
    × (decode_answer (0x23 ∷ 0x00 ∷ 0x55 ∷ []) ≡ accepted (Mov_d9 (pos 0x55) (pos 0x100)))
    × (decode_answer (0x1F ∷ 0x34 ∷ []) ≡ accepted (Call (pos 0xF34)))
    × (decode_answer (0x21 ∷ 0x12 ∷ 0x34 ∷ []) ≡ accepted (Jmpf (pos 0x1234)))
    × (decode_answer (0x11 ∷ 0x00 ∷ 0x80 ∷ []) ≡ accepted (Brf (pos 0x8000)))
    × (targets_answer Unwrapped 0 (Brf (pos 0x8000)) ≡ accepted (pos 0x8002 ∷ []))
    × (resolve_answer Unwrapped (Brf (pos 0)) 3 ≡ accepted (Brf (pos 0xFFFE)))
    × (instr_bytes (Brf (pos 0xFFFE)) ≡ 0x11 ∷ 0xFE ∷ 0xFF ∷ [])
    × (resolve_answer Unwrapped (Br (pos 129)) 2 ≡ accepted (Br (pos 127)))
    × (resolve_answer Unwrapped (Br (pos 130)) 2 ≡ refused 9 (pos 128 ∷ []))
    × (resolve_answer Unwrapped (Jmp (pos 0x0FFF)) 2 ≡ accepted (Jmp (pos 0xFFF)))
    × (instr_bytes (Jmp (pos 0xFFF)) ≡ 0x3F ∷ 0xFF ∷ [])
    × (resolve_answer Unwrapped (Jmp (pos 0x1000)) 2 ≡ refused 10 (pos 0 ∷ pos 1 ∷ []))
    × (resolve_answer Unwrapped (Jmp (pos 65536)) 2 ≡ refused 7 (pos 1 ∷ pos 65536 ∷ []))
    × (resolve_answer Unwrapped (Br (pos 65536)) 2 ≡ refused 8 (pos 65536 ∷ []))
    × (decode_answer [] ≡ refused 12 (pos 0 ∷ []))
    × (decode_answer (0x68 ∷ 0x00 ∷ []) ≡ refused 5 (pos 0 ∷ pos 0x68 ∷ pos 1 ∷ []))
    × (order_from 0 ≡ 0 ∷ 2 ∷ 9 ∷ 9 ∷ 9 ∷ [])
    × (get_or (marks_from 0) 2 0 ≡ 3)
    × (order_from 2 ≡ 2 ∷ 0 ∷ 9 ∷ 9 ∷ 9 ∷ [])
    × (get_or (marks_from 2) 2 0 ≡ 2)
    × (get_or (labels_of Unwrapped flash_call (marks_from 2)) 0 0 ≡ 0)
