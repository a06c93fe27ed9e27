-- The figures of an image whose run was not cut off. Document 02, W14: length, steps, code bytes, data bytes, bytes under more than one
-- traced instruction, target marks; code and data bytes each defined from the mask.
-- Assumes nothing.
use Rattle.std.specs.Prelude.{ℕ, Bool, not, List, [], ◌∷◌, eqb, leb, length}
use Rattle.instruction.specs.declared.mode.Mode.TheVariants.{Unwrapped}
use Rattle.reach.specs.Mark.{count}
use Rattle.views.specs.Positions.{positions, kept}
use Rattle.views.specs.Mask.{covers, mask_of}
use Rattle.views.specs.Labels.{labels_of}
use Rattle.report_text.specs.declared.figures.Figures.{Figures}

abbrev pub is_set : ℕ → Bool
is_set v = not (eqb v 0)

-- the bytes that the mask has for code, and the others
unfoldable pub code_bytes : List ℕ → List ℕ → ℕ
code_bytes image m = count is_set (mask_of image m)

unfoldable pub data_bytes : List ℕ → List ℕ → ℕ
data_bytes image m = count (eqb 0) (mask_of image m)

-- b is a byte of two traced instructions or more
unfoldable pub is_shared : List ℕ → List ℕ → ℕ → Bool
is_shared image m b = leb 2 (length (kept (covers image m b) (positions image)))

unfoldable pub shared_bytes : List ℕ → List ℕ → ℕ
shared_bytes image m = count (is_shared image m) (positions image)

unfoldable pub target_marks : List ℕ → List ℕ → ℕ
target_marks image m = count is_set (labels_of Unwrapped image m)

-- all six, of an image and the marks that its run left
unfoldable pub figures : List ℕ → List ℕ → ℕ → Figures
figures image m steps = record {
  length = length image;
  steps = steps;
  code = code_bytes image m;
  plain = data_bytes image m;
  shared = shared_bytes image m;
  targets = target_marks image m;
}
