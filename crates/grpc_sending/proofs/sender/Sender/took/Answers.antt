use Rattle.grpc_sending.proofs.Takes.{took_by}
use Rattle.grpc_sending.proofs.sender.Sender.took.Goals as goal

pub returns-clause-stands : goal.returns-clause-stands
returns-clause-stands c = λ texts. took_by texts
    (record {
      pending = c.self.inside.buffer;
      position = c.self.inside.position;
      queues = c.self.inside.backlog.queues;
      spent =
          c.self.inside.backlog.spent;
    }) c.args.self.now c.args.count c.take_off.new.self c.self.view_is c.requires c.take_off.ensures
