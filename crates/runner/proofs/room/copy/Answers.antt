-- What there is room for is written at its place; what falls past the end is none of it.
-- Assumes nothing.
use Rattle.std.proofs.Common.{◌≡◌, ℕ, zero, suc, ◌+◌, ◌-◌, ◌<◌, ◌≤◌, min, List, [], ◌∷◌, ◌++◌, length, take, drop, set, arith, refl, sym, ap, ◌∙◌, length-set, length-take, append_assoc}
use lib.Seq.{sets, sets-eq, set_out, drop-drop}
use borrow.Rule.Slice.PartMut.{put_mid}
use Rattle.runner.proofs.room.copy.Goals as goal

-- past the end nothing is written
sets_past : {A : Type 0} (l vs : List A) (i : ℕ) → length l ≤ i → sets l i vs ≡ l
sets_past {A = A} l [] i h = refl
sets_past {A = A} l (x ∷ vs) i h = ap (λ (m : List A). sets m (suc i) vs) (set_out l i x h) ∙ sets_past l vs (suc i) (omega arith)

-- so many of a text are all that is written of it
sets_cut : {A : Type 0} (vs l : List A) (i n : ℕ) → min (length vs) (length l - i) ≤ n → sets l i (take n vs) ≡ sets l i vs
sets_cut [] l i zero h = refl
sets_cut [] l i (suc n) h = refl
sets_cut (x ∷ vs) l i zero h = sym (sets_past l (x ∷ vs) i (omega arith))
sets_cut (x ∷ vs) l i (suc n) h = sets_cut vs (set l i x) (suc i) n (omega (arith, length-set l i x))

copied : {A : Type 0} (room text ys : List A) (at n : ℕ) → at < length room → n ≡ min (length text) (length room - at) → ys ≡ take n text → length ys ≡ n
    → put_mid at (at + n - at) room ys ≡ sets room at text
copied {A = A} room text ys at n h m e k =
    let z : at + n - at ≡ n = omega arith in
    let d : drop (at + n - at) (drop at room) ≡ drop (at + length ys) room =
    ap (λ (j : ℕ). drop j (drop at room)) z ∙ drop-drop n at room ∙ ap (λ (j : ℕ). drop (at + j) room) (sym k)
    in
    ap (λ (r : List A). take at room ++ (ys ++ r)) d
    ∙ sym (append_assoc (take at room) ys (drop (at + length ys) room))
    ∙ sym (sets-eq ys room at (omega arith))
    ∙ ap (sets room at) e
    ∙ sets_cut text room at n (omega arith)

pub returns-then-room-at-clause-room_after : goal.returns-then-room-at-clause-room_after
returns-then-room-at-clause-room_after g c = sym (sets_past c.args.room.now c.args.part.now c.args.at c.if-room-at.true)

pub returns-clause-room_after : goal.returns-clause-room_after
returns-clause-room_after g c =
    copied c.args.room.now c.args.part.now c.copy_from_slice.new.self c.args.at c.min-n.result c.if-room-at.false c.min-n.ensures
    c.copy_from_slice.ensures.after
    (omega (arith, ap length c.copy_from_slice.ensures.after, length-take c.min-n.result c.args.part.now, c.min-n.ensures))
