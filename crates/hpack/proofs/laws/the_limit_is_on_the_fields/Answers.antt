use Rattle.hpack.proofs.Blocks.{limit_stands, limit_comes}
use Rattle.hpack.proofs.laws.the_limit_is_on_the_fields.Goals as goal

pub returns-clause-stands : goal.returns-clause-stands
returns-clause-stands c = limit_stands

pub returns-clause-comes : goal.returns-clause-comes
returns-clause-comes c = limit_comes
