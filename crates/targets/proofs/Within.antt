-- The instruction at a position fits its fields and its place, and where control goes from it are the places of its targets.
-- Assumes nothing.
use Rattle.std.proofs.Common.{◌≡◌, ℕ, ◌+◌, ◌<◌, ◌≤◌, true, List, length, get_or, drop, ap, get_or-drop, leb-true}
use Rattle.instruction.specs.Answer.{accepted}
use Rattle.instruction.specs.Decode.{decode_answer, fields_in}
use Rattle.instruction.specs.Encode.{form_in, fit_answer}
use Rattle.instruction.specs.Forms.{form_at, size_of}
use Rattle.instruction.specs.Parts.{parts_of}
use Rattle.instruction.specs.declared.instr.Instr.{Instr}
use Rattle.instruction.specs.declared.instr.Parts.{Parts}
use Rattle.instruction.proofs.Shapes.{size_range}
use Rattle.instruction_laws.proofs.EncodeDecoded.{encode_decoded}
use Rattle.instruction_laws.proofs.Matching.{one_pattern}
use Rattle.instruction_laws.proofs.PartsMade.{parted}
use Rattle.targets.specs.At.{form_here, size_here, fits_here, instr_here}
use Rattle.targets.proofs.HereIs.{answer}

-- every element of an image is a byte
abbrev pub Small : List ℕ → Type 0
Small image = (n : ℕ) → get_or image n 0 < 256

-- the instruction at p: its size is the form's, its fields fit, and it ends within the image
pub record Within (image : List ℕ) (p : ℕ) (i : Instr) : Type 0 where
  pub size : size_of (form_in i) ≡ size_here image p
  pub fit : fit_answer i ≡ accepted tt
  pub least : 1 ≤ size_here image p
  pub most : p + size_here image p ≤ length image

pub form_here_lem : (image : List ℕ) (p : ℕ) → Small image → form_here image p < 70
form_here_lem image p b = (one_pattern (get_or image p 0) (b p)).form

pub form_is : (image : List ℕ) (p : ℕ) → Small image → (parts_of (instr_here image p)).form ≡ form_here image p
unfolding instr_here fields_in
form_is image p b = ap (λ (v : Parts). v.form) (parted (fields_in (form_here image p) (drop p image)) (form_here_lem image p b))

pub size_here_lem : (image : List ℕ) (p : ℕ) → Small image → size_of (form_in (instr_here image p)) ≡ size_here image p
size_here_lem image p b = ap (λ (k : ℕ). size_of (form_at k)) (form_is image p b)

-- one to three bytes
pub size_short : (image : List ℕ) (p : ℕ) → Small image → (0 < size_here image p) × (size_here image p < 4)
size_short image p b = size_range (form_here image p) (form_here_lem image p b)

pub within : (image : List ℕ) (p : ℕ) → Small image → p < length image → fits_here image p ≡ true → Within image p (instr_here image p)
unfolding fits_here
within image p b h f =
    let s : List ℕ = drop p image in
    let e : decode_answer s ≡ accepted (instr_here image p) = answer image p h true f in
    record {
      size = size_here_lem image p b;
      fit = (encode_decoded s (λ n. rw (get_or-drop p image n 0) (b (p + n))) (instr_here image p) e).fit;
      least = (size_short image p b).0;
      most = leb-true (p + size_here image p) (length image) f;
    }
