-- `log::Log::close` meets its contract.
-- Assumes nothing.
use Rattle.std.proofs.Common.{◌∙◌, sym}
use Rattle.replay.proofs.Logs.{close_whole, close_refused, close_partial}
use Rattle.replay.proofs.log.Log.close.Goals as goal

pub returns-then-self-eq0 : goal.returns-then-self-eq0
returns-then-self-eq0 c = c.told.ensures ∙ sym (close_whole c.args.self c.if-self-eq0.true)

pub returns-then-self-ne0 : goal.returns-then-self-ne0
returns-then-self-ne0 c = c.told-then-self-ne0.ensures ∙ sym (close_refused c.args.self c.if-self-ne0.true)

pub returns : goal.returns
returns c = close_partial c.args.self _ c.if-self-eq0.false c.if-self-ne0.false c.one_more.ensures
