use Rattle.std.proofs.Common.{ap}
use Rattle.conn_core.specs.StandsFor.{ConnectionValue}
use Rattle.served_instance.specs.Acts.{Pops}
use Rattle.served_instance.proofs.Ranges.{keeps_here}
use Rattle.served_instance.proofs.Changes.{changed_some}
use Rattle.served_instance.proofs.Cut.{steps_at}
use Rattle.served_instance.proofs.open_connection.pop_event.Goals as goal

pub returns-clause-event : goal.returns-clause-event
returns-clause-event c = λ n at.
    let e = c.pop_event.ensures in
    changed_some n c.args.connections.now c.args.place c.index-connections-place.result c.pop_event.new.self (Pops c.pop_event.result) at
    (record { event = e.event; fewer = e.fewer; rest = e.rest })

pub returns-clause-steps : goal.returns-clause-steps
returns-clause-steps c = steps_at c.args.connections.now c.args.place c.index-connections-place.result c.pop_event.new.self
    (keeps_here _ _ (ap (λ (v : ConnectionValue). v.sending) c.pop_event.ensures.rest))
