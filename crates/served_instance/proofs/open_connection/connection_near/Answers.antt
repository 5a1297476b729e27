use Rattle.served_instance.proofs.Apart.{only_at}
use Rattle.served_instance.proofs.open_connection.connection_near.Goals as goal

pub returns-then-connections-place : goal.returns-then-connections-place
returns-then-connections-place c = λ texts ks s a. only_at texts c.args.number c.args.connections.now ks c.args.place
    c.index-connections-place.result c.index-connections-place-then-connections-place.result s a c.if-place-connections.true
    c.if-connections-place.true
