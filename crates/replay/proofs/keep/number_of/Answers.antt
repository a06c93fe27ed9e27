-- `keep::number_of` meets its contract.
-- Assumes nothing.
use Rattle.std.proofs.Common.{◌∙◌, ◌++◌, ℕ, List, length, drop, replicate, ap}
use Rattle.std.specs.Int.{w64, from_le_bytes}
use Rattle.replay.proofs.Bytes.{number_held}
use Rattle.replay.proofs.keep.number_of.Goals as goal

pub returns : goal.returns
returns c =
    let r : List ℕ = c.args.rest.now in
    c.from_le_bytes.ensures ∙ ap (λ (l : List ℕ). from_le_bytes w64 (l ++ drop (length r) (replicate 8 0))) c.copy_from_slice.ensures.after
    ∙ number_held r c.requires
