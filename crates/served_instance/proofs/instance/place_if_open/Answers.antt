use Rattle.std.proofs.Common.{sym, ◌∙◌}
use Rattle.served_instance.proofs.Refuses.{place_absent, place_present}
use Rattle.served_instance.proofs.instance.place_if_open.Goals as goal

pub returns-in-Some-clause-refused : goal.returns-in-Some-clause-refused
returns-in-Some-clause-refused c = place_present c.args.number c.in-Some.place c.args.connections.now (sym c.find.ensures ∙ c.in-Some.is)

pub returns-in-None-clause-refused : goal.returns-in-None-clause-refused
returns-in-None-clause-refused c = place_absent c.args.number c.args.connections.now (sym c.find.ensures ∙ c.in-None.is)
