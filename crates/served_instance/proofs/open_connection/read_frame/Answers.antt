use Rattle.served_instance.proofs.Changes.{changed_read}
use Rattle.served_instance.proofs.Cut.{steps_at}
use Rattle.served_instance.proofs.open_connection.read_frame.Goals as goal

pub returns-clause-read : goal.returns-clause-read
returns-clause-read c = changed_read c.read_frame.result c.args.connections.now c.args.place c.index-connections-place.result
    c.read_frame.new.self c.read_frame.ensures.frame c.read_frame.ensures.fewer

pub returns-clause-steps : goal.returns-clause-steps
returns-clause-steps c = steps_at c.args.connections.now c.args.place c.index-connections-place.result c.read_frame.new.self
    (record { sources = c.read_frame.ensures.sources; fit = c.read_frame.ensures.fit })
