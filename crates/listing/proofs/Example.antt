-- Document 01's example, 'The listing', and edges 13 and 14: the text that antt computes is the text printed. T stands for a tab.
-- Assumes nothing.
use mathlib.Core.Path.{◌≡◌, refl}
use mathlib.Core.Bool.{cond}
use mathlib.Core.List.{List, [], ◌∷◌, ◌++◌}
use Prim.Native.Nat.{ℕ}
use Prim.Native.Char.{code}
use Prim.Native.String.{String, [] as end, ◌∷◌ as ◌then◌}
use lib.Dec.{eqb}
use Rattle.instruction.specs.Answer.{judge}
use Rattle.instruction.specs.Kinds.{kinds_of}
use Rattle.instruction.specs.Range.{unfit}
use Rattle.instruction.specs.Pattern.{pattern, pattern_bytes, onto, bits_given, next_bracket}
use Rattle.instruction.specs.Decode.{fields_in}
use Rattle.instruction.specs.Flow.{stops, jumps, branches, flow_of}
use Rattle.instruction.specs.Forms.{forms, form_at, form_of, form_named}
use Rattle.instruction.specs.Mnemonic.{mnemonic_of, letters_of}
use Rattle.instruction.specs.Parts.{parts_of, made_of}
use Rattle.instruction.specs.declared.mode.Mode.{Mode}
use Rattle.instruction.specs.declared.mode.Mode.TheVariants.{Unwrapped, Wrapping}
use Rattle.targets.specs.At.{fits_here, instr_here, ways_here, flash_here, name_here}
use Rattle.targets.specs.Here.{here_of}
use Rattle.targets.specs.Targets.{address_of, address_in, targets_in, targets_answer}
use Rattle.targets.specs.Ways.{name_of}
use Rattle.reach.specs.Mark.{traced_mark}
use Rattle.reach.specs.Tracer.{held}
use Rattle.marks.specs.Tracer.{exempt_here}
use Rattle.views.specs.Positions.{up_from, some, kept}
use Rattle.views.specs.DataRun.{leading, run_length, data_run}
use Rattle.views.specs.Labels.{labelled, labels_of}
use Rattle.views.specs.Mask.{masked, mask_of}
use Rattle.arrivals.specs.Arrivals.{held_at, arrives, arrivals_of}
use Rattle.views.specs.Overlaps.{overlaps_of}
use Rattle.listing.specs.Hex.{hex1, hex2, hex3, hex4, hexes}
use Rattle.listing.specs.Line.{fields_text}
use Rattle.listing.specs.Lines.{label_line, overlap_line, arrival_line, instr_text, data_line}
use Rattle.listing.specs.Operand.{target, shown, operands_by}
use Rattle.listing.specs.Walk.{code_lines, lines_at, passed, walk, listing_of}
use Rattle.listing.specs.declared.tabbed.Arrivals.{Arrivals}
use Rattle.listing.specs.declared.tabbed.Arrivals.TheVariants.{Chosen, Declined}

abbrev line_of : String → List ℕ
line_of end = 10 ∷ []
line_of (c then s) = let rest : List ℕ = line_of s in cond (eqb (code c) (code "T")) 9 (code c) ∷ rest

abbrev text_of : List String → List ℕ
text_of [] = []
text_of (s ∷ ss) = line_of s ++ text_of ss

-- the text of an image with these marks
abbrev Lists : Mode → List ℕ → List ℕ → Arrivals → List String → Type 0
Lists mode image marks choice lines = listing_of mode image marks choice ≡ text_of lines

abbrev image : List ℕ
image = 0x01 ∷ 0x02 ∷ 0x00 ∷ 0x41 ∷ 0x64 ∷ 0x80 ∷ 0xF9 ∷ 0xA0 ∷ []

-- of the run from 0
abbrev marks : List ℕ
marks = 2 ∷ 0 ∷ 0 ∷ 0 ∷ 2 ∷ 2 ∷ 0 ∷ 2 ∷ []

pub example : (mode : Mode) → Lists mode image marks Declined ("LT0000" ∷ "IT0000T0102TbrT0004" ∷ "DT0002T0041" ∷ "LT0004" ∷ "IT0004T64TincT@R0"
    ∷ "IT0005T80F9TbzT0000" ∷ "IT0007TA0Tret" ∷ [])
unfolding judge kinds_of unfit pattern pattern_bytes onto bits_given next_bracket fields_in stops jumps branches flow_of forms form_at form_of form_named mnemonic_of
    letters_of parts_of made_of fits_here instr_here flash_here name_here here_of address_of address_in targets_in targets_answer name_of traced_mark exempt_here leading
    run_length data_run labelled labels_of masked mask_of overlaps_of up_from some kept hex1 hex2 hex3 hex4 hexes fields_text label_line overlap_line instr_text data_line
    target shown operands_by code_lines lines_at passed walk listing_of
example Unwrapped = refl
example Wrapping = refl

-- the same with arrivals
pub chosen : (mode : Mode) → Lists mode image marks Chosen ("LT0000" ∷ "AT0000T0005" ∷ "IT0000T0102TbrT0004" ∷ "DT0002T0041" ∷ "LT0004" ∷ "AT0004T0000"
    ∷ "IT0004T64TincT@R0" ∷ "AT0005T0004" ∷ "IT0005T80F9TbzT0000" ∷ "AT0007T0005" ∷ "IT0007TA0Tret" ∷ [])
unfolding judge kinds_of unfit pattern pattern_bytes onto bits_given next_bracket fields_in stops jumps branches flow_of forms form_at form_of form_named mnemonic_of
    letters_of parts_of made_of fits_here instr_here flash_here name_here here_of address_of address_in targets_in targets_answer name_of traced_mark exempt_here leading
    run_length data_run labelled labels_of masked mask_of overlaps_of up_from some kept arrivals_of arrives held_at held ways_here arrival_line hex1 hex2 hex3 hex4 hexes
    fields_text label_line overlap_line instr_text data_line target shown operands_by code_lines lines_at passed walk listing_of
chosen Unwrapped = refl
chosen Wrapping = refl

-- edge 13, entries 0 and 2: an overlap, and a position walked inside an instruction
pub overlap : (mode : Mode) → Lists mode (0x22 ∷ 0x01 ∷ 0x00 ∷ 0xA0 ∷ []) (2 ∷ 0 ∷ 2 ∷ 2 ∷ []) Declined ("OT0000T0002" ∷ "IT0000T220100TmovT#00T001"
    ∷ "IT0002T00Tnop" ∷ "IT0003TA0Tret" ∷ [])
unfolding judge kinds_of unfit pattern pattern_bytes onto bits_given next_bracket fields_in stops jumps branches flow_of forms form_at form_of form_named mnemonic_of
    letters_of parts_of made_of fits_here instr_here flash_here name_here here_of address_of address_in targets_in targets_answer name_of traced_mark exempt_here leading
    run_length data_run labelled labels_of masked mask_of overlaps_of up_from some kept hex1 hex2 hex3 hex4 hexes fields_text label_line overlap_line instr_text data_line
    target shown operands_by code_lines lines_at passed walk listing_of
overlap mode = refl

-- edge 14: a target outside, and a run left out; wrapped, the target is -126 modulo 65,536
pub outside : Lists Unwrapped (0x01 ∷ 0x80 ∷ 0x00 ∷ 0x00 ∷ []) (2 ∷ 0 ∷ 0 ∷ 0 ∷ []) Declined ("IT0000T0180TbrT?" ∷ [])
unfolding judge kinds_of unfit pattern pattern_bytes onto bits_given next_bracket fields_in stops jumps branches flow_of forms form_at form_of form_named mnemonic_of
    letters_of parts_of made_of fits_here instr_here flash_here name_here here_of address_of address_in targets_in targets_answer name_of traced_mark exempt_here leading
    run_length data_run labelled labels_of masked mask_of overlaps_of up_from some kept hex1 hex2 hex3 hex4 hexes fields_text label_line overlap_line instr_text data_line
    target shown operands_by code_lines lines_at passed walk listing_of
outside = refl

pub around : Lists Wrapping (0x01 ∷ 0x80 ∷ 0x00 ∷ 0x00 ∷ []) (2 ∷ 0 ∷ 0 ∷ 0 ∷ []) Declined ("IT0000T0180TbrTFF82" ∷ [])
unfolding judge kinds_of unfit pattern pattern_bytes onto bits_given next_bracket fields_in stops jumps branches flow_of forms form_at form_of form_named mnemonic_of
    letters_of parts_of made_of fits_here instr_here flash_here name_here here_of address_of address_in targets_in targets_answer name_of traced_mark exempt_here leading
    run_length data_run labelled labels_of masked mask_of overlaps_of up_from some kept hex1 hex2 hex3 hex4 hexes fields_text label_line overlap_line instr_text data_line
    target shown operands_by code_lines lines_at passed walk listing_of
around = refl
