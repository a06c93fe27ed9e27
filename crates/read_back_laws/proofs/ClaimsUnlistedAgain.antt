-- Image lines are read by the listing program as the same image.
-- Assumes nothing.
use mathlib.Core.Path.{◌≡◌, sym, ap, subst, ◌∙◌}
use mathlib.Core.Bool.{true, not}
use mathlib.Core.List.{List, ◌∷◌, ◌++◌, append-nil}
use Prim.Native.Nat.{ℕ, ◌≤◌}
use native.Mathlib.Omega.{arith}
use lib.ListN.{length, drop_of_length-le, length-replicate}
use Rattle.instruction.specs.Bytes.{Bytes}
use Rattle.instruction.specs.declared.mode.Mode.TheVariants.{Unwrapped}
use Rattle.instruction.specs.Answer.{judge}
use Rattle.text.specs.Cut.{lines}
use Rattle.list_text.specs.ClaimsInput.{Valid}
use Rattle.list_text.specs.Bytes.{bytes_in_lines}
use Rattle.list_text.specs.Entries.{is_entries, entries_in}
use Rattle.list_text.specs.Text.{first, others, bad, image_refusals, counts_of, input_refusals}
use Rattle.listing.specs.Walk.{listing_of}
use Rattle.read_back.specs.Back.{back_image}
use Rattle.read_back.proofs.BackLengths.{back_length}
use Rattle.read_back.proofs.Backs.{zeros_small, back_bytes}
use Rattle.read_back_laws.proofs.ClaimsBackRestored.{listing_restores}
use Rattle.unlist_text.specs.Unlisted.{image_text, empty_room, printed, unlisted_of}
use Rattle.read_back_laws.specs.ClaimsUnlisted.{Says, ReadAgain, UnlistedAgain, ListedUnlisted}
use Rattle.read_back_laws.proofs.EntryLines.{entry_line_lem}
use Rattle.read_back_laws.proofs.Again.{lines_first, read_bytes, all_good}

module _ (e image : List ℕ) (E : is_entries e ≡ true) (B : Bytes image) (h : length image ≤ 16384) where
  abbrev input : List ℕ
  input = e ++ 10 ∷ image_text image

  cut : lines input ≡ e ∷ lines (image_text image)
  cut = lines_first e (image_text image) (entry_line_lem e E)

  valid : Valid input
  unfolding input_refusals
  valid =
      ap (λ (ls : List (List ℕ)). judge (bad (not (is_entries (first ls))) 1 ∷ image_refusals 2 0 (others ls)) (counts_of input)) cut
      ∙ all_good (counts_of input) e image E B h

pub read_again : ReadAgain
read_again e image E B h =
    let c = cut e image E B h in
    (valid e image E B h, ap (λ (ls : List (List ℕ)). entries_in (first ls)) c, ap (λ (ls : List (List ℕ)). bytes_in_lines (others ls)) c ∙ read_bytes image B)

pub unlisted_again : UnlistedAgain
unfolding unlisted_of
unlisted_again e text n k E h a =
    let room = empty_room n in
    let image = back_image Unwrapped text n room room in
    let p : image_text image ≡ unlisted_of text n = sym (ap (printed image) a) in
    let long : length room ≡ n = length-replicate n 0 in
    subst (λ (t : List ℕ). Says (e ++ 10 ∷ t) (entries_in e) image) p
    (read_again e image E (back_bytes Unwrapped text n room room (zeros_small n))
    (omega (arith, long, back_length Unwrapped text n room room (omega (arith, long)))))

pub listed_unlisted : ListedUnlisted
unfolding unlisted_of
listed_unlisted image m choice B h k U =
    let room = empty_room (length image) in
    let long : length room ≡ length image = length-replicate (length image) 0 in
    let r = listing_restores Unwrapped image m choice room room B h k U (omega (arith, long)) (omega (arith, long)) in
    ap (printed (back_image Unwrapped (listing_of Unwrapped image m choice) (length image) room room)) r.answer
    ∙ ap image_text (r.bytes ∙ ap (λ (l : List ℕ). image ++ l) (drop_of_length-le room {i = length image} (omega (arith, long))) ∙ append-nil image)
