use Rattle.conn_core.proofs.Frames.{unless_flood, unless_calm}
use Rattle.conn_core.proofs.connection.Connection.put_unless.Goals as goal

pub returns-then-flood-clause-puts : goal.returns-then-flood-clause-puts
returns-then-flood-clause-puts c = unless_flood c.args.flood c.args.self.now c.put_all-fit.new.self _ c.put_all-fit.result c.if-flood.true
    c.put_all-fit.ensures.puts

pub returns-clause-puts : goal.returns-clause-puts
returns-clause-puts c = unless_calm c.args.flood c.args.self.now c.put_all-fit.new.self _ c.put_all-fit.result c.if-flood.false
    c.put_all-fit.ensures.puts
