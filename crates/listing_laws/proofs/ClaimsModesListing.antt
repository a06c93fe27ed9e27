-- Where no target leaves memory, the lines of each position are the same in both modes.
-- Assumes nothing.
use mathlib.Core.Path.{◌≡◌, refl, ap, sym, subst, ◌∙◌}
use mathlib.Core.Bool.{Bool, true, false, cond}
use mathlib.Core.List.{List, ◌∷◌, ◌++◌}
use Prim.Native.Char.{code}
use Prim.Native.Nat.{ℕ, zero, suc, ◌+◌}
use lib.Dec.{ltb}
use lib.IntN.{ℤ}
use lib.ListN.{length, take, drop}
use Rattle.std.specs.Prelude.{Ok, Err}
use Rattle.instruction.specs.Answer.{Answer}
use Rattle.instruction.specs.Bytes.{Bytes}
use Rattle.instruction.specs.Decode.{cut_at}
use Rattle.instruction.specs.Encode.{form_in}
use Rattle.instruction.specs.Forms.{size_of}
use Rattle.instruction.specs.Mnemonic.{mnemonic_of}
use Rattle.instruction.specs.Parts.{parts_of}
use Rattle.instruction.specs.declared.instr.Instr.{Instr}
use Rattle.instruction.specs.declared.mode.Mode.TheVariants.{Unwrapped, Wrapping}
use Rattle.targets.specs.At.{fits_here, instr_here}
use Rattle.targets.specs.Here.{here_of}
use Rattle.targets.specs.Targets.{targets_in}
use Rattle.targets.specs.declared.not_whole.NotWhole.TheVariants.{Cut, Outside}
use Rattle.targets.proofs.Within.{size_here_lem}
use Rattle.trace_laws.specs.ClaimsModes.{Inside}
use Rattle.trace_laws.specs.ClaimsModesAlike.{Stays}
use Rattle.trace_laws.proofs.ClaimsModesTargets.{targets_alike}
use Rattle.views.specs.Labels.{labels_of}
use Rattle.views.specs.Mask.{mask_of}
use Rattle.views_laws.proofs.ClaimsModesViews.{labels_alike}
use Rattle.listing.specs.Hex.{hex4, hexes}
use Rattle.listing.specs.Line.{line}
use Rattle.listing.specs.Lines.{instr_text, instr_line, here_line}
use Rattle.listing.specs.Operand.{operands_by, first_of}
use Rattle.listing.specs.Walk.{is_chosen, code_lines, lines_at, passed, walk, listing_of}
use Rattle.listing_laws.specs.ClaimsModesListing.{LineAlike, ListingAlike}
use Rattle.listing_laws.proofs.ClaimsModesArrivals.{arrivals_alike}

-- the line of an instruction, by its targets
abbrev line_by : ℕ → Instr → List ℕ → Answer (List ℤ) → List ℕ
line_by p i bytes ts =
    line (code "I") (hex4 p ∷ hexes (take (size_of (form_in i)) bytes) ∷ mnemonic_of (parts_of i).form ∷ operands_by (first_of ts) i)

pub line_alike : LineAlike
unfolding instr_text
line_alike p i bytes h = ap (line_by p i bytes) (targets_alike p i h)

module _ (image : List ℕ) (B : Bytes image) (S : Stays image) (p : ℕ) where
  abbrev instr : Instr
  instr = instr_here image p

  instr_same : fits_here image p ≡ true → instr_line Wrapping image p instr ≡ instr_line Unwrapped image p instr
  instr_same f =
      line_alike p instr (drop p image)
      (subst (λ (n : ℕ). Inside (targets_in Unwrapped (p + n) (instr_here image p))) (sym (size_here_lem image p B)) (S p f))

  here_same : here_line Wrapping image p (here_of image p) ≡ here_line Unwrapped image p (here_of image p)
  unfolding here_of
  here_same = by (ltb p (length image)) (fits_here image p) instr_same
    where
      by : (a b : Bool) → (b ≡ true → instr_line Wrapping image p instr ≡ instr_line Unwrapped image p instr)
          → here_line Wrapping image p (cond a (cond b (Ok instr) (Err (Cut (cut_at image p)))) (Err Outside))
          ≡ here_line Unwrapped image p (cond a (cond b (Ok instr) (Err (Cut (cut_at image p)))) (Err Outside))
      by false b e = refl
      by true false e = refl
      by true true e = e refl

module _ (image m mask labels : List ℕ) (chosen : Bool) (B : Bytes image) (S : Stays image) where
  lines_same : (p : ℕ) → lines_at Wrapping image m mask labels chosen p ≡ lines_at Unwrapped image m mask labels chosen p
  unfolding lines_at code_lines
  lines_same p = rw (arrivals_alike image m p S, here_same image B S p)

  walk_same : (k p s : ℕ) → walk Wrapping image m mask labels chosen k p s ≡ walk Unwrapped image m mask labels chosen k p s
  unfolding walk
  walk_same zero p s = refl
  walk_same (suc k) p (suc s) = walk_same k (suc p) s
  walk_same (suc k) p zero =
      ap (λ (l : List ℕ). l ++ walk Wrapping image m mask labels chosen k (suc p) (passed image m mask p)) (lines_same p)
      ∙ ap (λ (l : List ℕ). lines_at Unwrapped image m mask labels chosen p ++ l) (walk_same k (suc p) (passed image m mask p))

pub listing_alike : ListingAlike
unfolding listing_of
listing_alike image m choice B S =
    ap (λ (l : List ℕ). walk Wrapping image m (mask_of image m) l (is_chosen choice) (length image) 0 0) (labels_alike image m S)
    ∙ walk_same image m (mask_of image m) (labels_of Unwrapped image m) (is_chosen choice) B S (length image) 0 0
