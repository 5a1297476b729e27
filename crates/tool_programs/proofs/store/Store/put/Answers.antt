use Rattle.instance_view.specs.Shown.{visible_in}
use Rattle.tool_programs.proofs.Calls.{stored_by}
use Rattle.tool_programs.proofs.store.Store.put.Goals as goal

pub returns-clause-stored : goal.returns-clause-stored
returns-clause-stored c = stored_by c.put.result _ c.args.self.now
    (visible_in c.put.new.pool c.put.new.view) c.put.new.view.limit c.args.bytes.now c.self.view_is c.put.ensures.limit c.put.ensures.stored
