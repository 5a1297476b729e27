use Rattle.std.proofs.Common.{map}
use Rattle.server_events.specs.Shown.{config_value}
use Rattle.server_events.proofs.FaultLemmas.{none_is_good, some_is_first}
use Rattle.server_events.proofs.laws.the_fault_is_the_first.Goals as goal

pub returns-clause-none : goal.returns-clause-none
returns-clause-none c = none_is_good (map config_value c.args.configs.now)

pub returns-clause-some : goal.returns-clause-some
returns-clause-some c fault = some_is_first (map config_value c.args.configs.now) fault
