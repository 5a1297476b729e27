use Rattle.std.proofs.Common.{sym, ◌∙◌}
use Rattle.served_instance.proofs.Places.{place_some, place_none}
use Rattle.served_instance.proofs.open_connection.connection_at.Goals as goal

pub returns-in-None : goal.returns-in-None
returns-in-None c = place_none c.args.number c.args.connections.now (sym c.find.ensures ∙ c.in-None.is)

pub returns-in-Some : goal.returns-in-Some
returns-in-Some c = place_some c.args.number c.args.connections.now c.in-Some.place c.index-connections-place.result
    (sym c.find.ensures ∙ c.in-Some.is)
