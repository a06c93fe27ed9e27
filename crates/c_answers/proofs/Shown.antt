-- The lengths that the answers of the views and of the report carry are those of lent slices and of what is shown: each fits a value of a reply.
-- Assumes nothing.
use mathlib.Core.Path.{◌≡◌}
use mathlib.Core.List.{List, [], ◌∷◌}
use mathlib.Core.Logic.{⊎_elim}
use Prim.Native.Nat.{ℕ, ◌<◌, ◌≤◌, ◌^◌, min}
use native.Mathlib.Omega.{arith}
use borrow.Author.Tests.{ltb-false}
use lib.Dec.{ltb}
use lib.IntN.{pos}
use lib.ListN.{length}
use Rattle.instruction.specs.Bytes.{Bytes}
use Rattle.instruction.specs.declared.mode.Mode.{Mode}
use Rattle.instruction.specs.Answer.{Refusal, refuse, refused}
use Rattle.instruction.proofs.Accepting.{passed}
use Rattle.instruction.proofs.Carried.{Each, each_append}
use Rattle.reach.proofs.Cases.{lt_or_le}
use Rattle.marks.proofs.Sizing.{long_image}
use Rattle.views.specs.View.{view_refusals, room_answer, view_answer}
use Rattle.views.proofs.Carrying.{view_each}
use Rattle.listing.specs.Walk.{listing_of}
use Rattle.listing.specs.declared.tabbed.Arrivals.{Arrivals}
use Rattle.listing.specs.declared.tabbed.Arrivals.TheVariants.{Chosen, Declined}
use Rattle.listing_laws.proofs.ClaimsRoomBound.{listing_bound, chosen_bound}
use Rattle.report_text.specs.Report.{highest, report_of, report_answer}
use Rattle.c_answers.proofs.Fitting.{Fits, Holds, Short, this, fewer, judged}

-- what is shown in a room after refusals whose values fit
pub room_fits : (rs : List Refusal) → Each Fits rs → (out room : List ℕ) → length out < 2 ^ 63 → Holds Short (room_answer rs out room)
unfolding room_answer
room_fits rs each out room o = judged Short _ (length out) (each_append Fits rs _ each (this 11 o, tt)) (λ e. o)

module _ (image m : List ℕ) (i : length image < 2 ^ 63) (k : length m < 2 ^ 63) where
  pub views_each : Each Fits (view_refusals image m)
  views_each = view_each Fits (λ p. fewer) image m (this 1 i) (this 2 k)

  pub view_fits : (out room : List ℕ) → length out < 2 ^ 63 → Holds Short (view_answer image m out room)
  unfolding view_answer
  view_fits = room_fits (view_refusals image m) views_each

  -- an image past its limit is refused whatever is shown, so that the length of that counts only within the limit
  past_limit : (out room : List ℕ) → 65536 < length image → view_answer image m out room ≡ refused 1 (pos (length image) ∷ [])
  unfolding view_answer room_answer view_refusals
  past_limit out room h = long_image image m _ (length out) h

  pub limited_fits : (out room : List ℕ) → (length image ≤ 65536 → length out < 2 ^ 63) → Holds Short (view_answer image m out room)
  limited_fits out room o = ⊎_elim (λ h. rw (past_limit out room h) (this 1 i)) (λ h. view_fits out room (o h)) (lt_or_le 65536 (length image))

-- of a listing
pub listing_few : (mode : Mode) (image m : List ℕ) → Bytes image → length image ≤ 65536 → (choice : Arrivals)
    → length (listing_of mode image m choice) < 2 ^ 63
listing_few mode image m B h Chosen = omega (arith, h, chosen_bound mode image m B)
listing_few mode image m B h Declined = omega (arith, h, listing_bound mode image m B)

-- of a report: what is written or needed is below 2^63
pub report_fits : (text room : List ℕ) → Holds Short (report_answer text room)
unfolding report_answer
report_fits text room =
    let all = length (report_of text) in
    let too_short : Refusal = refuse (ltb (min (length room) highest) all) 11 (pos (min all highest) ∷ []) in
    judged Short (too_short ∷ []) all (this 11 (omega arith), tt)
    (λ e. let h = ltb-false (min (length room) highest) all (passed too_short [] all e).0 in omega (arith, h))
