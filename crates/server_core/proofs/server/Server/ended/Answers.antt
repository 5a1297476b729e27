use Rattle.server_core.proofs.Others.{connections_there}
use Rattle.server_core.proofs.server.Server.ended.Goals as goal

pub returns-clause-error : goal.returns-clause-error
returns-clause-error c = λ l s. c.ended.ensures l
    (connections_there c.in_ok-instance.ensures.0 c.args.self.now.instances c.args.instance c.in_ok-instance.field-0.now l
    c.in_ok-instance.ensures.1 c.in_ok-instance.ensures.2 s)
