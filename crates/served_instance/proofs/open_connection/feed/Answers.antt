use Rattle.std.proofs.Common.{ap}
use Rattle.conn_core.specs.StandsFor.{ConnectionValue}
use Rattle.served_instance.specs.Acts.{TakesStep}
use Rattle.conn_core.specs.Past.{with_bytes}
use Rattle.served_instance.proofs.Ranges.{keeps_here}
use Rattle.served_instance.proofs.Changes.{changed_here}
use Rattle.served_instance.proofs.Cut.{steps_at}
use Rattle.served_instance.proofs.open_connection.feed.Goals as goal

pub returns-clause-fed : goal.returns-clause-fed
returns-clause-fed c = changed_here c.feed.result c.args.connections.now c.args.place c.index-connections-place.result c.feed.new.self
    (TakesStep (with_bytes c.args.bytes.items)) c.feed.ensures.stands

pub returns-clause-steps : goal.returns-clause-steps
returns-clause-steps c = steps_at c.args.connections.now c.args.place c.index-connections-place.result c.feed.new.self
    (keeps_here _ _ (ap (λ (v : ConnectionValue). v.sending) c.feed.ensures.rest))
