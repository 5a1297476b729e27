use Rattle.grpc_sending.proofs.Takes.{control_by}
use Rattle.grpc_sending.proofs.sender.Sender.put_control.Goals as goal

pub returns-clause-stands : goal.returns-clause-stands
returns-clause-stands c = λ texts. control_by texts
    (record {
      pending = c.self.inside.buffer;
      position = c.self.inside.position;
      queues = c.self.inside.backlog.queues;
      spent =
          c.self.inside.backlog.spent;
    }) c.args.self.now c.args.frame.now c.put.new.self c.self.view_is c.requires.control c.put.ensures.bytes
