-- Two students lay their masks over each other. Document 02, W9, for the bytes: document 01, 'Views'. Proved in proofs/ClaimsJoinViews.antt.
-- Assumes nothing.
use Rattle.std.specs.Prelude.{ℕ, ◌<◌, List, ◌++◌, ◌⊎◌, ◌↔◌, ◌≡◌, length, get_or}
use Rattle.instruction.specs.Bytes.{Bytes}
use Rattle.instruction.specs.declared.mode.Mode.{Mode}
use Rattle.trace_laws.specs.ClaimsImages.{Clean}
use Rattle.trace_laws.specs.ClaimsJoin.{TracedToEnd}
use Rattle.views.specs.Mask.{mask_of}

-- the byte mask of an image has 1 at b
abbrev pub Masked : List ℕ → List ℕ → ℕ → Type 0
Masked image m b = get_or (mask_of image m) b 0 ≡ 1

-- the mask for the joined lists is the union of the two masks
abbrev pub MaskJoined : Type 0
MaskJoined =
    (mode : Mode) (image e₁ e₂ pins m₁ m₂ m : List ℕ) → Bytes image → Clean image
    → TracedToEnd mode image e₁ pins m₁ → TracedToEnd mode image e₂ pins m₂ → TracedToEnd mode image (e₁ ++ e₂) pins m
    → (b : ℕ) → b < length image → Masked image m b ↔ (Masked image m₁ b ⊎ Masked image m₂ b)
