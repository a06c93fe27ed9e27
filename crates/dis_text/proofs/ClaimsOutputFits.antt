-- Every output fits: a message is a short line, a listing has at most 77 bytes for each position.
-- Assumes nothing.
use mathlib.Core.Path.{◌≡◌, refl, sym, ap, ◌∙◌}
use mathlib.Core.List.{List, [], ◌∷◌, ◌++◌}
use mathlib.Core.Logic.{◌⊎◌, inl, inr}
use Prim.Native.Nat.{ℕ, ◌+◌, ◌^◌, ◌≤◌, ◌<◌}
use native.Mathlib.Omega.{arith}
use lib.IntN.{ℤ, nat_abs}
use lib.ListN.{length, length-append}
use Rattle.instruction.proofs.Accepting.{differ}
use Rattle.instruction.specs.Bytes.{Bytes}
use Rattle.instruction.specs.Answer.{Answer, accepted, refused}
use Rattle.instruction_laws.specs.Missing.{OneOrTwo}
use Rattle.reach.proofs.Cases.{lt_or_le}
use Rattle.trace_laws.proofs.ClaimsMissingFew.{run_missing}
use Rattle.listing.specs.Hex.{hex2, hex3, hex4}
use Rattle.listing.specs.Walk.{listing_of}
use Rattle.listing.specs.declared.tabbed.Arrivals.{Arrivals}
use Rattle.listing.specs.declared.tabbed.Arrivals.TheVariants.{Chosen, Declined}
use Rattle.listing_laws.proofs.ClaimsRoomBound.{listing_bound, chosen_bound}
use Rattle.list_text.specs.Decimal.{decimal}
use Rattle.list_text.specs.Output.{lent_room}
use Rattle.list_text.proofs.Decimals.{decimal_length}
use Rattle.list_text.proofs.Images.{marks, accepted_listing}
use Rattle.list_text.proofs.RunRefused.{traced_one}
use Rattle.dis_text.specs.Asked.{Asked, asked_in}
use Rattle.dis_text.specs.ClaimsOutput.{DisFits}
use Rattle.dis_text.specs.Message.{value, reason, message}
use Rattle.dis_text.specs.Output.{entries_for, listed_for, printed, dis_of}
use Rattle.dis_text.specs.Word.{codes}
use Rattle.dis_text.proofs.ClaimsOutputOnly.{Why, word, long, cut_off, why}

both : (x y : List ℕ) (a b : ℕ) → length x ≤ a → length y ≤ b → length (x ++ y) ≤ a + b
both x y a b h k = omega (arith, length-append x y, h, k)

four : (p : ℕ) → length (hex4 p) ≤ 4
unfolding hex2 hex3 hex4
four p = omega arith

-- each of the three reasons
reason_13 : (vs : List ℤ) → value vs 0 ≤ 18446744073709551615 → length (reason 13 vs) ≤ 45
unfolding reason codes
reason_13 vs h = both (codes "not understood: argument ") (decimal (value vs 0)) 25 20 (omega arith) (decimal_length (value vs 0) h)

reason_1 : (vs : List ℤ) → length (reason 1 vs) ≤ 35
unfolding reason codes
reason_1 vs = omega arith

reason_5 : (vs : List ℤ) → value vs 2 ≤ 2 → length (reason 5 vs) ≤ 81
unfolding reason codes
reason_5 vs h =
    let at = codes "the file ends inside the instruction at " in
    let missing = codes ", bytes missing: " in
    both (at ++ hex4 (value vs 0) ++ missing) (decimal (value vs 2)) 61 20
    (both (at ++ hex4 (value vs 0)) missing 44 17 (both at (hex4 (value vs 0)) 40 4 (omega arith) (four (value vs 0))) (omega arith))
    (decimal_length (value vs 2) (omega (arith, h)))

-- the line
line_short : (n : ℕ) (vs : List ℤ) → n ≤ 13 → length (reason n vs) ≤ 81 → length (message n vs) ≤ 109
unfolding message codes
line_short n vs h k =
    let d = both (codes "dis: ") (decimal n) 5 20 (omega arith) (decimal_length n (omega (arith, h))) in
    let c = both (codes "dis: " ++ decimal n) (codes ": ") 25 2 d (omega arith) in
    both (codes "dis: " ++ decimal n ++ codes ": " ++ reason n vs) (10 ∷ []) 108 1 (both (codes "dis: " ++ decimal n ++ codes ": ") (reason n vs) 27 81 c k)
    (omega arith)

one_or_two : (vs : List ℤ) → OneOrTwo vs → value vs 2 ≤ 2
one_or_two vs (inl e) = let f = ap nat_abs e in omega (arith, f)
one_or_two vs (inr e) = let f = ap nat_abs e in omega (arith, f)

told_short : (words image : List ℕ) → length words < 2 ^ 63 → Bytes image → (n : ℕ) (vs : List ℤ) → Why words image n vs → length (message n vs) ≤ 109
told_short words image h B n vs (word e f) =
    rw e (line_short 13 vs (omega arith) (omega (arith, reason_13 vs (omega (arith, f, h)))))
told_short words image h B n vs (long e) = rw e (line_short 1 vs (omega arith) (omega (arith, reason_1 vs)))
told_short words image h B n vs (cut_off a e f) =
    let m = run_missing a.mode image (lent_room image) (lent_room image) (entries_for a.entries) a.pins (length image) vs B
    (f ∙ ap (λ (k : ℕ). refused k vs) e) in
    rw e (line_short 5 vs (omega arith) (reason_5 vs (one_or_two vs m)))

-- what is accepted is a listing of an image that is not too long
listed : (a : Asked) (image out : List ℕ) → Bytes image → listed_for (accepted a) image ≡ accepted out → length out ≤ 5046272
listed a image out B e = by (lt_or_le 65536 (length image))
  where
    m : List ℕ
    m = marks a.mode image (entries_for a.entries) a.pins

    bound : (x : Arrivals) → length image ≤ 65536 → length (listing_of a.mode image m x) ≤ 5046272
    bound Chosen h = let b = chosen_bound a.mode image m B in omega (arith, b)
    bound Declined h = let b = listing_bound a.mode image m B in omega (arith, b)

    by : (65536 < length image) ⊎ (length image ≤ 65536) → length out ≤ 5046272
    by (inl h) = absurd (differ (sym (traced_one a.mode image (entries_for a.entries) a.pins a.arrivals h) ∙ e))
    by (inr h) =
        let f = accepted_listing a.mode image (entries_for a.entries) a.pins a.arrivals out e in
        omega (arith, ap length f, bound a.arrivals h)

pub dis_fits : DisFits
unfolding dis_of
dis_fits words image h B = by (dis_of words image) refl
  where
    some : (out : List ℕ) → dis_of words image ≡ accepted out → (r : Answer Asked) → asked_in words ≡ r → length out ≤ 5046272
    some out e (accepted a) f = listed a image out B (ap (λ (r : Answer Asked). listed_for r image) (sym f) ∙ e)
    some out e (refused n vs) f = absurd (differ (ap (λ (r : Answer Asked). listed_for r image) (sym f) ∙ e))

    by : (d : Answer (List ℕ)) → dis_of words image ≡ d → length (printed d) ≤ 5046272
    by (accepted out) e = some out e (asked_in words) refl
    by (refused n vs) e = omega (arith, told_short words image h B n vs (why words image n vs e))
