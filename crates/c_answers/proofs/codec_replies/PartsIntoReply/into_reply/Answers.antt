-- The size of a form fits a value.
-- Assumes nothing.
use Rattle.std.proofs.Common.{◌≡◌, ap, ◌∙◌, rules, ◌<◌, ◌^◌, pos, w64, to_z}
use Rattle.instruction.specs.Forms.{form_at, size_of}
use mir.Facts.{to_z_pos}
use Rattle.c_answers.proofs.Sizes.{form_small}
use Rattle.c_answers.proofs.codec_replies.PartsIntoReply.into_reply.Goals as goal

pub overflow_cast-size : goal.overflow_cast-size
overflow_cast-size c = record { sfits = rw c.size.ensures (form_small c.args.self.form) }

pub returns : goal.returns
returns c =
    let h : c.size.result < 2 ^ 63 = rw c.size.ensures (form_small c.args.self.form) in
    let s : to_z w64 c.size.result ≡ pos (size_of (form_at c.args.self.form)) = to_z_pos w64 h ∙ ap pos c.size.ensures in
    let e = rw s at c.new.ensures in search rules
