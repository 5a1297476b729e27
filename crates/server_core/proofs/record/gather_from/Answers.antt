use Rattle.std.specs.Prelude.{map}
use Rattle.server_core.specs.Shown.{sent_shown}
use Rattle.server_core.proofs.Places.{none_gathered}
use Rattle.server_core.proofs.record.gather_from.Goals as goal

pub returns-in-None : goal.returns-in-None
returns-in-None c = λ l served apart. none_gathered l c.args.connection.now (map sent_shown c.args.sent.now.items)
    (c.in-None.ensures.bytes l served apart)
