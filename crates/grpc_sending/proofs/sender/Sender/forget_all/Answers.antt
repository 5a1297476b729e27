use Rattle.grpc_sending.proofs.Takes.{ended_by}
use Rattle.grpc_sending.proofs.Keeping.{keeps_by}
use Rattle.grpc_sending.proofs.sender.Sender.forget_all.Goals as goal

pub returns-clause-stands : goal.returns-clause-stands
returns-clause-stands c = λ texts. ended_by texts
    (record {
      pending = c.self.inside.buffer;
      position = c.self.inside.position;
      queues = c.self.inside.backlog.queues;
      spent =
          c.self.inside.backlog.spent;
    }) c.args.self.now c.forget_all.new.self.queues c.self.view_is

pub returns-clause-sources : goal.returns-clause-sources
returns-clause-sources c = keeps_by (record {
  pending = c.self.inside.buffer;
  position = c.self.inside.position;
  queues =
      c.self.inside.backlog.queues;
  spent = c.self.inside.backlog.spent;
}) c.args.self.now c.forget_all.new.self c.self.view_is
    c.forget_all.ensures.sources
