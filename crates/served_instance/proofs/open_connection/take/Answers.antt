use Rattle.conn_core.specs.Past.{with_taken}
use Rattle.served_instance.specs.Acts.{TakesStep}
use Rattle.served_instance.proofs.Cut.{steps_at}
use Rattle.served_instance.proofs.Ranges.{keeps_queues}
use Rattle.served_instance.proofs.Changes.{changed_some}
use Rattle.served_instance.proofs.open_connection.take.Goals as goal

pub returns-clause-taken : goal.returns-clause-taken
returns-clause-taken c = λ n at. changed_some n c.args.connections.now c.args.place c.index-connections-place.result c.took.new.self
    (TakesStep (λ p. with_taken p c.args.count)) at c.took.ensures.stands

pub returns-clause-steps : goal.returns-clause-steps
returns-clause-steps c = steps_at c.args.connections.now c.args.place c.index-connections-place.result c.took.new.self
    (keeps_queues _ _ c.took.ensures.queues c.took.ensures.spent)
