-- The message is measured, and written where there is room.
-- Assumes nothing.
use Rattle.std.proofs.Common.{◌≡◌, List, ℕ, [], ◌∷◌, ◌++◌, length, refl, ap, ◌∙◌, arith}
use Rattle.std.proofs.lemmas.List.Edits.{sets}
use Rattle.instruction.specs.Answer.{refused}
use Rattle.text.proofs.Putting.{puts_length}
use Rattle.dis_text.specs.Message.{message}
use Rattle.dis_text.specs.Told.{number_of, values_of}
use Rattle.dis_text.proofs.Shows.{too_short_lem, says}
use Rattle.dis_text.proofs.message.tell.Goals as goal

-- a room of none holds nothing afterwards
still : (l room : List ℕ) → length l ≡ 0 → l ++ room ≡ room
still [] room e = refl
still (x ∷ l) room e = absurd (omega arith)

pub returns-then-room-need : goal.returns-then-room-need
returns-then-room-need c =
    let a = c.args in
    let room = a.room.now in
    let k : c.put_message-need.new.room ++ room ≡ room = still c.put_message-need.new.room room (puts_length c.put_message-need.ensures) in
    let h = too_short_lem (refused (number_of a.e) (values_of a.e)) room c.put_message-need.result (omega (arith, c.put_message-need.ensures.next))
    (omega (arith, c.if-room-need.true, ap length k)) in
    record { result_value = h.0; room_after = k ∙ h.1 }

pub returns : goal.returns
returns c =
    let a = c.args in
    let room = a.room.now in
    let k : c.put_message-need.new.room ++ room ≡ room = still c.put_message-need.new.room room (puts_length c.put_message-need.ensures) in
    let h = says (number_of a.e) (values_of a.e) room c.put_message.new.room c.put_message-need.result (omega (arith, c.put_message-need.ensures.next))
    (omega (arith, c.if-room-need.false, ap length k))
    (c.put_message.ensures.wrote ∙ ap (λ (x : List ℕ). sets x 0 (message (number_of a.e) (values_of a.e))) k) in
    record { result_value = h.0; room_after = h.1 }
