use Rattle.std.proofs.Common.{ap, ◌∙◌}
use Rattle.grpc_sending.specs.StoredSending.{StoredSending}
use Rattle.conn_core.proofs.Keeps.{new_by}
use Rattle.conn_core.proofs.connection.Connection.new.Goals as goal

pub returns-clause-stands : goal.returns-clause-stands
returns-clause-stands c = λ texts. new_by texts c.args.window c.new-2.result c.in_ok-new.field-0 c.greet.new.sender c.new-4.result.items
    c.new-5.result.items c.new-4.ensures.items c.new-5.ensures.items c.new-2.ensures.stands c.in_ok-new.ensures
    (c.greet.ensures.stands texts (c.in_ok-sender.ensures.stands texts))
    (ap (λ (w : StoredSending). w.queues) c.greet.ensures.rest ∙ ap (λ (w : StoredSending). w.queues) c.in_ok-sender.ensures.kept)
