-- The map built from the marks. Document 02, W3, and refusals 1, 2, 6, 11 in the order of a view: what is shown is the packing of the byte
-- mask, and 11 carries how many words are needed.
-- Assumes nothing.
use Rattle.std.specs.Prelude.{ℕ, List}
use Rattle.instruction.specs.Answer.{Answer}
use Rattle.views.specs.Mask.{mask_of}
use Rattle.views.specs.View.{view_answer, view_room}
use Rattle.map.specs.Packed.{packed}

-- how many words were written
abbrev pub build_answer : List ℕ → List ℕ → List ℕ → Answer ℕ
build_answer image m ws = view_answer image m (packed (mask_of image m)) ws

-- the packing laid over the beginning of the words, whose rest stays; a refusal changes no word
abbrev pub build_words : List ℕ → List ℕ → List ℕ → List ℕ
build_words image m ws = view_room image m (packed (mask_of image m)) ws
