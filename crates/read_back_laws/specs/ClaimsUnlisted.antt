-- What is claimed of a listing turned back into image lines: the listing program reads the same image. Document 01, 'The listing', and
-- document 02, W1.
-- Assumes nothing.
use Rattle.std.specs.Prelude.{ℕ, ◌^◌, ◌≤◌, ◌<◌, true, List, ◌∷◌, ◌++◌, ◌≡◌, length}
use Rattle.instruction.specs.Bytes.{Bytes}
use Rattle.instruction.specs.Answer.{accepted}
use Rattle.instruction.specs.declared.mode.Mode.TheVariants.{Unwrapped}
use Rattle.list_text.specs.ClaimsInput.{Valid}
use Rattle.list_text.specs.Entries.{is_entries, entries_in}
use Rattle.list_text.specs.Text.{entries_of, image_of}
use Rattle.views_laws.specs.ClaimsSound.{Undamaged}
use Rattle.listing.specs.Walk.{listing_of}
use Rattle.listing.specs.declared.tabbed.Arrivals.{Arrivals}
use Rattle.read_back.specs.Back.{back_answer, back_image}
use Rattle.unlist_text.specs.Unlisted.{image_text, empty_room, unlisted_of}

-- an input that has every line good, these entries and this image
abbrev pub Says : List ℕ → List ℕ → List ℕ → Type 0
Says text entries image = Valid text × (entries_of text ≡ entries) × (image_of text ≡ image)

-- image lines after a line of entries are an input of the listing program, with the same bytes
abbrev pub ReadAgain : Type 0
ReadAgain = (e image : List ℕ) → is_entries e ≡ true → Bytes image → length image ≤ 16384 → Says (e ++ 10 ∷ image_text image) (entries_in e) image

-- so is what is printed of a listing that is accepted
abbrev pub UnlistedAgain : Type 0
UnlistedAgain =
    (e text : List ℕ) (n k : ℕ) → is_entries e ≡ true → n ≤ 16384 → back_answer Unwrapped text n (empty_room n) (empty_room n) ≡ accepted k
    → Says (e ++ 10 ∷ unlisted_of text n) (entries_in e) (back_image Unwrapped text n (empty_room n) (empty_room n))

-- of a listing as the writer prints it, with or without arrivals, it is the image itself
abbrev pub ListedUnlisted : Type 0
ListedUnlisted =
    (image m : List ℕ) (choice : Arrivals) → Bytes image → length image ≤ 65536 → length image ≤ length m → Undamaged image m
    → unlisted_of (listing_of Unwrapped image m choice) (length image) ≡ image_text image

-- nothing is longer than the lines of 65,536 bytes: the room that the program has is never too short
abbrev pub UnlistedFits : Type 0
UnlistedFits = (text : List ℕ) (n : ℕ) → length text < 2 ^ 63 → n < 2 ^ 63 → length (unlisted_of text n) ≤ 133120
