use Rattle.std.proofs.Common.{map}
use Rattle.server_events.specs.Shown.{config_value}
use Rattle.server_events.proofs.FaultLemmas.{parents_good}
use Rattle.server_events.proofs.laws.a_parent_builds_on_none.Goals as goal

pub returns : goal.returns
returns c = parents_good (map config_value c.args.configs.now)
