use Rattle.std.proofs.Common.{◌∙◌, sym}
use Rattle.conn_core.proofs.Texts.{nothing_kept}
use Rattle.conn_core.proofs.call.Call.new.Goals as goal

pub returns-clause-messages : goal.returns-clause-messages
returns-clause-messages c = c.new.ensures.nothing ∙ sym nothing_kept
