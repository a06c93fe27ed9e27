-- What some inputs say, computed: document 01's example, and inputs at the edges of the rules.
-- Assumes nothing.
use mathlib.Core.Path.{◌≡◌, refl}
use mathlib.Core.List.{List, [], ◌∷◌, ◌++◌}
use Prim.Native.Nat.{ℕ, zero, suc}
use Prim.Native.Char.{code}
use Prim.Native.String.{String, [] as end, ◌∷◌ as ◌then◌}
use lib.IntN.{pos}
use lib.ListN.{replicate}
use Rattle.instruction.specs.Answer.{Answer, accepted, refused, judge}
use Rattle.text.specs.Bytes.{bytes_of, is_bytes}
use Rattle.text.specs.Cut.{cut}
use Rattle.text.specs.Four.{is_four, all_four, four_of}
use Rattle.text.specs.Hex.{digit_of, all_hex}
use Rattle.list_text.specs.Bytes.{bytes_in_lines}
use Rattle.list_text.specs.Entries.{is_entries}
use Rattle.list_text.specs.Text.{counts, counts_of, entries_of, image_of, image_refusals, input_refusals, parse_answer, parse_entries, parse_image}
use Rattle.list_text.specs.declared.parsed.Input.{Input}

bytes : String → List ℕ
bytes end = []
bytes (c then s) = code c ∷ bytes s

-- document 01's example
sample : List ℕ
unfolding bytes
sample = bytes "0000" ++ 10 ∷ bytes "0102004164" ++ 10 ∷ bytes "80F9A0" ++ 10 ∷ []

abbrev told : List ℕ → Answer Input
told text = judge (input_refusals text) (counts_of text)

abbrev malformed : ℕ → Answer Input
malformed k = refused 13 (pos k ∷ [])

read : (told sample ≡ accepted (counts 1 8)) × (entries_of sample ≡ 0 ∷ []) × (image_of sample ≡ 1 ∷ 2 ∷ 0 ∷ 65 ∷ 100 ∷ 128 ∷ 249 ∷ 160 ∷ [])
unfolding sample bytes judge input_refusals image_refusals counts_of cut is_entries all_four is_four four_of digit_of all_hex bytes_of is_bytes bytes_in_lines
read = (refl, refl, refl)

-- an empty input, an empty line 1, only line 1, two entries, no byte 10 at the end
short : (told [] ≡ accepted (counts 0 0)) × (told (10 ∷ []) ≡ accepted (counts 0 0)) × (told (bytes "0000") ≡ accepted (counts 1 0))
    × (told (bytes "0000" ++ 9 ∷ bytes "FFFF") ≡ accepted (counts 2 0)) × (told (10 ∷ bytes "A0") ≡ accepted (counts 0 1))
unfolding bytes judge input_refusals image_refusals counts_of cut is_entries all_four is_four four_of digit_of all_hex bytes_of is_bytes bytes_in_lines
short = (refl, refl, refl, refl, refl)

-- a tab at either end, two tabs, a blank at the end, a byte of three digits, lower case, CR, NUL, an empty line
bent : (told (bytes "0000" ++ 9 ∷ []) ≡ malformed 1) × (told (9 ∷ bytes "0000") ≡ malformed 1) × (told (bytes "0000" ++ 9 ∷ 9 ∷ bytes "0000") ≡ malformed 1)
    × (told (bytes "0000 ") ≡ malformed 1) × (told (10 ∷ bytes "A0A") ≡ malformed 2) × (told (10 ∷ bytes "a0") ≡ malformed 2)
    × (told (10 ∷ bytes "A0" ++ 13 ∷ 10 ∷ []) ≡ malformed 2) × (told (0 ∷ []) ≡ malformed 1) × (told (10 ∷ bytes "A0" ++ 10 ∷ 10 ∷ []) ≡ malformed 3)
unfolding bytes judge input_refusals image_refusals counts_of cut is_entries all_four is_four four_of digit_of all_hex bytes_of is_bytes bytes_in_lines
bent = (refl, refl, refl, refl, refl, refl, refl, refl, refl)

-- 32 bytes on a line, and 33
long : (told (10 ∷ replicate 64 48) ≡ accepted (counts 0 32)) × (told (10 ∷ replicate 66 48) ≡ malformed 2)
unfolding judge input_refusals image_refusals counts_of cut is_entries all_four is_four four_of digit_of all_hex bytes_of is_bytes bytes_in_lines
long = (refl, refl)

-- this many entries after the first
more : ℕ → List ℕ
more zero = []
more (suc n) = 9 ∷ 70 ∷ 70 ∷ 70 ∷ 70 ∷ more n

-- 256 entries, and 257
many : (told (70 ∷ 70 ∷ 70 ∷ 70 ∷ more 255) ≡ accepted (counts 256 0)) × (told (70 ∷ 70 ∷ 70 ∷ 70 ∷ more 256) ≡ malformed 1)
unfolding more judge input_refusals image_refusals counts_of cut is_entries all_four is_four four_of digit_of all_hex bytes_of is_bytes bytes_in_lines
many = (refl, refl)

-- this many full lines
full : ℕ → List ℕ
full zero = []
full (suc n) = 10 ∷ (replicate 64 48 ++ full n)

-- the 16,384th byte, and the 16,385th, which stands in line 514
most : (told (full 512) ≡ accepted (counts 0 16384)) × (told (full 512 ++ 10 ∷ 48 ∷ 48 ∷ []) ≡ malformed 514)
unfolding full judge input_refusals image_refusals counts_of cut is_entries all_four is_four four_of digit_of all_hex bytes_of is_bytes bytes_in_lines
most = (refl, refl)

-- what is written, and too little room for an entry or for a byte
written : (parse_entries sample (7 ∷ 7 ∷ []) (replicate 9 7) ≡ 0 ∷ 7 ∷ [])
    × (parse_image sample (7 ∷ []) (replicate 9 7) ≡ 1 ∷ 2 ∷ 0 ∷ 65 ∷ 100 ∷ 128 ∷ 249 ∷ 160 ∷ 7 ∷ [])
    × (parse_answer sample [] (replicate 9 7) ≡ refused 11 (pos 1 ∷ pos 8 ∷ []))
    × (parse_answer sample (7 ∷ []) (replicate 7 7) ≡ refused 11 (pos 1 ∷ pos 8 ∷ []))
    × (parse_entries sample (7 ∷ []) (replicate 7 7) ≡ 7 ∷ [])
unfolding sample bytes parse_answer parse_entries parse_image judge input_refusals image_refusals counts_of cut is_entries all_four is_four four_of digit_of all_hex bytes_of
    is_bytes bytes_in_lines
written = (refl, refl, refl, refl, refl)
