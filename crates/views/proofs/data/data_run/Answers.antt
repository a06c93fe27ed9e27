-- What is not found of `data::data_run`: the part of the image.
-- Assumes nothing.
use Rattle.views.proofs.DataRuns.{run_past, run_in}
use Rattle.views.proofs.data.data_run.Goals as goal

pub returns-then-image-at : goal.returns-then-image-at
returns-then-image-at c = let a = c.args in run_past a.image.now a.mask.now a.p c.if-image-at.true

pub returns : goal.returns
returns c = let a = c.args in run_in a.image.now a.mask.now a.p c.run_length.result c.run_length.ensures.0
