-- Code and data bytes add up to the length, and six figures counted are those of the image.
-- Assumes nothing.
use mathlib.Core.Path.{◌≡◌, ◌∙◌}
use mathlib.Core.List.{List}
use Prim.Native.Nat.{ℕ, ◌-◌, ◌≤◌}
use native.Mathlib.Omega.{arith}
use lib.ListN.{length}
use Rattle.views.specs.Mask.{mask_of}
use Rattle.views.proofs.Masking.{mask_length}
use Rattle.report_text.specs.ClaimsReport.{CodeAndData}
use Rattle.report_text.specs.Figures.{code_bytes, data_bytes, shared_bytes, target_marks, figures}
use Rattle.report_text.specs.declared.figures.Figures.{Figures}
use Rattle.report_text.proofs.Counts.{set_or_not}

pub code_and_data : CodeAndData
unfolding code_bytes data_bytes
code_and_data image m = set_or_not (mask_of image m) ∙ mask_length image m

module _ (image m : List ℕ) (code : ℕ) (e : code ≡ code_bytes image m) where
  -- what is left of the length is data
  abbrev found : ℕ → ℕ → ℕ → Figures
  found steps shared targets =
      record { length = length image; steps = steps; code = code; plain = length image - code; shared = shared; targets = targets }

  pub code_inside : code ≤ length image
  code_inside = let s = code_and_data image m in omega arith

  the_others : length image - code ≡ data_bytes image m
  the_others = let s = code_and_data image m in omega arith

  pub measured : (steps shared targets : ℕ) → shared ≡ shared_bytes image m → targets ≡ target_marks image m
      → found steps shared targets ≡ figures image m steps
  unfolding figures
  measured steps shared targets f g = rw (the_others, e, f, g)
