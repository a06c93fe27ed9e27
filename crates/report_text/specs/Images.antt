-- The images of a term's text. Document 02, W14: an image's lines are ended by an empty line or the end of the text, and further empty lines
-- are skipped.
-- Assumes nothing.
use Rattle.std.specs.Prelude.{ℕ, List, [], ◌∷◌, ◌++◌}
use Rattle.text.specs.Cut.{lines}

-- the lines of an image, if there are any
abbrev pub ended : List (List ℕ) → List (List (List ℕ))
ended [] = []
ended (l ∷ ls) = (l ∷ ls) ∷ []

-- the images of these lines, if the first of them follow on lines of an image
unfoldable pub images_after : List (List ℕ) → List (List ℕ) → List (List (List ℕ))
images_after before [] = ended before
images_after before ([] ∷ ls) = ended before ++ images_after [] ls
images_after before ((b ∷ l) ∷ ls) = images_after (before ++ (b ∷ l) ∷ []) ls

-- the lines of each image of a text
abbrev pub images_of : List ℕ → List (List (List ℕ))
images_of text = images_after [] (lines text)
