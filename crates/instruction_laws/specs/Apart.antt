-- Document 01, 'Forms by place': 'Where an answer is an enum, a definition gives this paper's number and values for each of the enum's
-- cases.' Each of these definitions tells all cases and all values apart.
-- Assumes nothing.
use Rattle.instruction.specs.Answer.{Apart}
use Rattle.instruction.specs.ResolveOperand.{resolution_of}
use Rattle.instruction.specs.Decode.{decoded_of, decoded_parts_of}
use Rattle.instruction.specs.Encode.{encoded_of, fit_of}
use Rattle.instruction.specs.Resolve.{resolved_of}

pub record AnswersApart : Type 0 where
  pub decode : Apart decoded_of
  pub decode_parts : Apart decoded_parts_of
  pub fit : Apart fit_of
  pub encode : Apart encoded_of
  pub resolve : Apart resolved_of
  pub operands : Apart resolution_of
