-- The size of an instruction fits a value.
-- Assumes nothing.
use Rattle.c_answers.proofs.Smalls.{encoded_small}
use Rattle.c_answers.proofs.Sizes.{encode_fits}
use Rattle.c_answers.proofs.codec.encode.Goals as goal

pub into_reply-requires : goal.into_reply-requires
into_reply-requires c =
    let a = c.args in
    encoded_small c.encode.result (rw c.encode.ensures.result_value (encode_fits c.with_first.result a.out.now))
