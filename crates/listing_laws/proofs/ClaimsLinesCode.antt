-- What is printed at a traced position ends with its `I` line.
-- Assumes nothing.
use Prim.Native.Nat.{ℕ}
use mathlib.Core.Bool.{cond}
use mathlib.Core.List.{List, [], ◌∷◌, ◌++◌}
use mathlib.Core.Path.{◌≡◌, ap}
use lib.Dec.{eqb, ltb}
use lib.ListN.{length, get_or, take, drop}
use Rattle.instruction.specs.Answer.{accepted}
use Rattle.instruction.specs.Encode.{form_in}
use Rattle.instruction.specs.Forms.{size_of}
use Rattle.instruction.specs.Mnemonic.{mnemonic_of}
use Rattle.instruction.specs.Parts.{parts_of}
use Rattle.instruction.proofs.Ands.{second_part}
use Rattle.views.specs.Labels.{labels_of}
use Rattle.views.specs.Overlaps.{overlaps_of}
use Rattle.arrivals.specs.Arrivals.{arrivals_of}
use Rattle.listing.specs.Hex.{hexes}
use Rattle.listing.specs.Operand.{operands_by, first_of}
use Rattle.listing.specs.Lines.{label_line, overlap_line, arrival_line}
use Rattle.listing.specs.Walk.{is_chosen, code_lines, lines_at}
use Rattle.listing_laws.specs.ClaimsLines.{CodeListed}
use Rattle.listing_laws.proofs.ClaimsShownTraced.{traced_shown}

pub code_listed : CodeListed
unfolding lines_at code_lines
code_listed mode image m choice B small U p t =
    let s = traced_shown mode image m B small U p t in
    record {
      fields =
          hexes (take (size_of (form_in s.instr)) (drop p image)) ∷ mnemonic_of (parts_of s.instr).form
          ∷ operands_by (first_of (accepted s.targets)) s.instr;
      text =
          rw (second_part (ltb p (length image)) _ t)
          (ap (λ (h : List ℕ). cond (eqb (get_or (labels_of mode image m) p 0) 0) [] (label_line p)
          ++ (overlap_line p (overlaps_of image m p) ++ (cond (is_chosen choice) (arrival_line p (arrivals_of mode image m p)) [] ++ h))) s.shown);
    }
