-- What every view over marks answers and leaves. Document 01, 'Views', and refusals 1, 2, 6, 11 in this order.
-- Assumes nothing.
use Rattle.std.specs.Prelude.{ℕ, Bool, not, ◌&&◌, ◌||◌, List, [], ◌∷◌, ◌++◌, map, ◌≡◌, ltb, eqb, pos, length, get_or, drop, Result, Ok, Err}
use Rattle.instruction.specs.Answer.{Answer, accepted, refused, Refusal, refuse, judge, after}
use Rattle.instruction.specs.Forms.{form_named}
use Rattle.targets.specs.At.{form_here, fits_here}
use Rattle.reach.specs.Mark.{flash, traced_mark}
use Rattle.marks.specs.Refusals.{size_refusals, size_refused, damaged}
use Rattle.views.specs.Positions.{positions}
use Rattle.views.specs.declared.view.ViewError.{ViewError}
use Rattle.views.specs.declared.view.ViewError.TheVariants.{Size, Damaged, NoRoom}

-- of a mark v at p: a 3 off a Jmpf
unfoldable pub off_jmpf : List ℕ → ℕ → ℕ → Bool
off_jmpf image v p = eqb v flash && not (eqb (form_here image p) (form_named "Jmpf"))

-- a 2 or 3 on a cut-off instruction, a 3 off a Jmpf
unfoldable pub misplaced : List ℕ → ℕ → ℕ → Bool
misplaced image v p = (traced_mark v && not (fits_here image p)) || off_jmpf image v p

-- damage in a view: a byte over 4, or a mark misplaced
unfoldable pub damaged_here : List ℕ → List ℕ → ℕ → Bool
damaged_here image m p = damaged (get_or m p 0) || misplaced image (get_or m p 0) p

-- of an inner function: what of this the mark's value v and the byte x say
abbrev pub wrong : ℕ → ℕ → Bool
wrong v x = damaged v || (eqb v flash && not (eqb x 0x21))

abbrev pub wrong_at : List ℕ → List ℕ → ℕ → Bool
wrong_at image m p = wrong (get_or m p 0) (get_or image p 0)

-- 6 at each of these positions, in their order
abbrev pub damage_in : List ℕ → List ℕ → List ℕ → List Refusal
damage_in image m ps = map (λ (p : ℕ). refuse (damaged_here image m p) 6 (pos p ∷ [])) ps

-- 1, 2, then 6 anywhere in the image, the lowest named
unfoldable pub view_refusals : List ℕ → List ℕ → List Refusal
view_refusals image m = size_refusals image m ++ damage_in image m (positions image)

-- none of these holds
abbrev pub Sound : List ℕ → List ℕ → Type 0
Sound image m = ◌≡◌ {A = Answer ℕ} (judge (view_refusals image m) 0) (accepted 0)

-- one of them, or that the room is too short, as an answer of any call that refuses by these
abbrev pub view_refused : {A : Type 0} → ViewError → Answer A
view_refused (Size e) = size_refused e
view_refused (Damaged p) = refused 6 (pos p ∷ [])
view_refused (NoRoom n) = refused 11 (pos n ∷ [])

-- how much was written, or what refuses
abbrev pub viewed_of : Result ℕ ViewError → Answer ℕ
viewed_of (Ok n) = accepted n
viewed_of (Err e) = view_refused e

abbrev pub checked_of : Result (Unit {0}) ViewError → Answer (Unit {0})
checked_of (Ok u) = accepted u
checked_of (Err e) = view_refused e

-- 1, 2 and 6, then 11 where the room is shorter than what is needed
abbrev pub room_refusals : List ℕ → List ℕ → ℕ → ℕ → List Refusal
room_refusals image m room need = view_refusals image m ++ refuse (ltb room need) 11 (pos need ∷ []) ∷ []

-- after these refusals: how much was written; 11 with what is needed where the room is shorter. out is what is shown
unfoldable pub room_answer : List Refusal → List ℕ → List ℕ → Answer ℕ
room_answer rs out room = judge (rs ++ refuse (ltb (length room) (length out)) 11 (pos (length out) ∷ []) ∷ []) (length out)

-- it is laid over the beginning of the room, whose rest stays; a refusal changes nothing
unfoldable pub room_after : List Refusal → List ℕ → List ℕ → List ℕ
room_after rs out room = after (room_answer rs out room) (out ++ drop (length out) room) room

-- of a view over these marks
unfoldable pub view_answer : List ℕ → List ℕ → List ℕ → List ℕ → Answer ℕ
view_answer image m out room = room_answer (view_refusals image m) out room

unfoldable pub view_room : List ℕ → List ℕ → List ℕ → List ℕ → List ℕ
view_room image m out room = room_after (view_refusals image m) out room
