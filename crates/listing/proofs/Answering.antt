-- The one answer of the listing: too little room, or written; and the target marks as the view leaves them in a room.
-- Assumes nothing.
use mathlib.Core.Path.{◌≡◌, refl, sym, ap, subst, ◌∙◌}
use mathlib.Core.Bool.{Bool, true, false}
use mathlib.Core.List.{List, [], ◌∷◌, ◌++◌}
use Prim.Native.Nat.{ℕ, ◌+◌, ◌-◌, ◌<◌, ◌≤◌}
use native.Mathlib.Omega.{arith}
use borrow.Author.Tests.{ltb-false}
use lib.IntN.{pos}
use lib.ListN.{length, take, drop, length-take}
use lib.Seq.{sets, sets-eq, take_at}
use Rattle.instruction.specs.Answer.{Answer, accepted, refused}
use Rattle.instruction.specs.declared.mode.Mode.{Mode}
use Rattle.views.specs.View.{Sound, view_room}
use Rattle.views.proofs.Viewing.{Is, small, shown_as, no_room_for}
use Rattle.views.specs.Labels.{labels_of}
use Rattle.views.proofs.Labelling.{labels_length}
use Rattle.views.specs.Mask.{mask_of}
use Rattle.arrivals.specs.Index.{index_of}
use Rattle.arrivals.proofs.Indexing.{index_length}
use Rattle.listing.specs.Lent.{text_of}
use Rattle.text.specs.Puts.{Puts, Needed}
use Rattle.listing.specs.Walk.{is_chosen, walk, listing_of}
use Rattle.listing.specs.declared.tabbed.Arrivals.{Arrivals}

-- a list as long as the image, left in a room for every image, is the room's beginning
pub in_front : (image m : List ℕ) → Sound image m → (out : List ℕ) → length out ≡ length image → (room : List ℕ) → 65536 ≡ length room → (t : List ℕ)
    → t ≡ view_room image m out room → take (length image) t ≡ out
in_front image m s out e room f t g =
    let h : length image ≤ 65536 = small image m s in
    let x = shown_as image m out room s (length image) e (omega arith) (out ++ drop (length image) room) refl in
    ap (take (length image)) (g ∙ sym x.1) ∙ take_at out (drop (length image) room) (length image) e

-- and the room is long enough
pub long_enough : (l out : List ℕ) (n : ℕ) → take n l ≡ out → length out ≡ n → n ≤ length l
long_enough l out n e f = omega (arith, length-take n l, ap length e ∙ f)

-- the part of a room that is lent
pub part_is : (l out : List ℕ) (n : ℕ) → take n l ≡ out → take (n - 0) (drop 0 l) ≡ out
part_is l out n e = let f : n - 0 ≡ n = omega arith in ap (λ (k : ℕ). take k l) f ∙ e

pub is_listing : (mode : Mode) (image m : List ℕ) (choice : Arrivals) (chosen : Bool) → chosen ≡ is_chosen choice
    → text_of mode image m chosen ≡ listing_of mode image m choice
unfolding text_of listing_of
is_listing mode image m choice chosen e = rw e

-- where the room holds as much as there can be, nothing is to be measured
pub all_covered : (text : List ℕ) (room most : ℕ) → length text ≤ most → most ≤ room → Needed text room most
all_covered text room most l h = record { covers = l; exact = λ g. absurd (omega (arith, g, h)) }

module _ (image m : List ℕ) (text room : List ℕ) (s : Sound image m) where
  pub too_small : {r : ℕ} → Needed text (length room) r → length room < r → Is image m text room (refused 11 (pos r ∷ [])) room
  too_small {r} n h = no_room_for image m text room s r (n.exact h) h

  pub all_written : {new : List ℕ} {r k : ℕ} → Puts text 0 room new r → Needed text (length room) k → k ≤ length room → Is image m text room (accepted r) new
  all_written {new} {r} {k} p n h =
      let e : length text ≡ r = omega (arith, p.next) in
      let l : 0 + length text ≤ length room = omega (arith, n.covers, h) in
      let z : sets room 0 text ≡ text ++ drop r room = sets-eq text room 0 l ∙ ap (λ (j : ℕ). text ++ drop j room) (sym p.next) in
      shown_as image m text room s r e (omega (arith, e, l)) new (p.wrote ∙ z)

-- what is answered of a text is answered of one that is the same
pub same_text : (image m room : List ℕ) {s t : List ℕ} → s ≡ t → {r : Answer ℕ} {new : List ℕ} → Is image m s room r new → Is image m t room r new
same_text image m room e {r} {new} h = subst (λ (x : List ℕ). Is image m x room r new) e h
