-- A list of bytes, as every image is. Document 01, 'What is ported and what stays behind': 'images of 0 to 65,536 bytes'.
-- Assumes nothing.
use Rattle.std.specs.Prelude.{ℕ, ◌<◌, List, slice_index}

-- every element is a byte; past the end one reads 0
abbrev pub Bytes : List ℕ → Type 0
Bytes s = (i : ℕ) → slice_index s i < 256
